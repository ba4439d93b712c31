-- Proof of `Pc::conciliator`: the place of a process with this input before its first access to a conciliator whose
-- last attempt is `s`.
use Rattle.std.proofs.Common.{◌≡◌, ◌^◌, ℕ, refl, arith}
use Rattle.std.proofs.lemmas.Nat.{one_shl}
use Rattle.mb_deciding.specs.{HasLimits}
use Rattle.mb_deciding.proofs.TurnsLeft.{attempts_left}
use Rattle.mb_deciding.proofs.place.pc.Pc.conciliator.Goals as goal

-- 1 and 2 ^ s are the limits of attempt 0
first_limits : (s modulus : ℕ) → modulus ≡ 2 ^ s → HasLimits s 0 1 modulus
first_limits s modulus is = (omega arith, refl, is)

pub returns-clause-begins : goal.returns-clause-begins
returns-clause-begins c t within =
    let first = first_limits c.args.s _ (one_shl c.args.s 64 (omega arith)) in
    ((within, (c.args.s, 0, c.requires, first)), (refl, (0, first, tt)))

pub returns-clause-fits : goal.returns-clause-fits
returns-clause-fits c t within =
    (within, (c.args.s, 0, c.requires, first_limits c.args.s _ (one_shl c.args.s 64 (omega arith))))

pub returns-clause-bound : goal.returns-clause-bound
returns-clause-bound c t =
    let first = first_limits c.args.s _ (one_shl c.args.s 64 (omega arith)) in
    omega (arith, attempts_left c.args.s 0 1 _ first)
