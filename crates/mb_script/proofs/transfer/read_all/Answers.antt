-- Proof of `read_all`: it reads to the end, but stops after the first byte past the limit, `MAX_SCRIPT_LEN`.
use Rattle.std.proofs.Common.{arith, ◌+◌, ◌++◌, length, take, refl}
use Rattle.std.proofs.lemmas.Grind.{common_steps}
use Rattle.std.proofs.KnownBytes.{Consumes-kept, Consumes-trans}
use Rattle.mb_script.proofs.transfer.read_all.Goals as goal

-- a failed read took no byte
pub returns-in_default-clause-early : goal.returns-in_default-clause-early
returns-in_default-clause-early g c = (
  c.loop-piece.text.items,
  c.loop-piece.invariant.limit,
  Consumes-kept _ _ _ _ c.loop-piece.invariant.took c.in_default.ensures.bytes,
)

pub returns-in_default-clause-failed : goal.returns-in_default-clause-failed
returns-in_default-clause-failed g c e = (
  c.loop-piece.text.items,
  omega arith,
  Consumes-kept _ _ _ _ c.loop-piece.invariant.took c.in_default.ensures.bytes,
)

-- a failed read added nothing to the count
pub returns-in_default-clause-given : goal.returns-in_default-clause-given
returns-in_default-clause-given g c = (
  length c.loop-piece.text.items,
  c.loop-piece.invariant.limit,
  rw (c.in_default.ensures.gives_none refl) c.loop-piece.invariant.given,
)

pub returns-in_default-clause-given_failed : goal.returns-in_default-clause-given_failed
returns-in_default-clause-given_failed g c e = (
  length c.loop-piece.text.items,
  omega arith,
  rw (c.in_default.ensures.gives_none refl) c.loop-piece.invariant.given,
)

-- no read before the failed one failed, so the failures are one more than at first
pub returns-in_default-clause-fault : goal.returns-in_default-clause-fault
returns-in_default-clause-fault g c e =
    rw c.loop-piece.invariant.works at (c.in_default.ensures.fails refl)

pub returns-in_default-extend_from_slice-clause-early : goal.returns-in_default-extend_from_slice-clause-early
returns-in_default-extend_from_slice-clause-early g c = (
  c.loop-piece.text.items ++ take c.in-Ok.n c.read.new.buf,
  (let bound = c.in-Ok.ensures.bound in grind (arith, common_steps)),
  Consumes-trans _ _ _ _ _ c.loop-piece.invariant.took c.in-Ok.ensures.bytes.0,
)

pub returns-in_default-extend_from_slice-clause-given : goal.returns-in_default-extend_from_slice-clause-given
returns-in_default-extend_from_slice-clause-given g c =
    let bound = c.in-Ok.ensures.bound in
    let before = c.loop-piece.invariant.given in
    let more = c.in-Ok.ensures.gives in
    (length c.loop-piece.text.items + c.in-Ok.n, grind (arith, common_steps), grind (arith, common_steps))
