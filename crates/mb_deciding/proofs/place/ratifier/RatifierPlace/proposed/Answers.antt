-- Proof of `RatifierPlace::proposed`: what follows the store of the input in the proposal.
use Rattle.std.proofs.Common.{◌∷◌, count_ones, ap, arith}
use Rattle.mb_deciding.specs.{acts, IsRest, act_of}
use Rattle.mb_deciding.proofs.Registers.{rest_whole}
use Rattle.mb_deciding.proofs.Sizes.{largest_bound}
use Rattle.mb_deciding.proofs.Advances.{prefers_own}
use Rattle.mb_deciding.proofs.place.ratifier.RatifierPlace.proposed.Goals as goal

pub returns-clause-reached : goal.returns-clause-reached
returns-clause-reached g c seen v turns op word at is can =
    let t = g.Q.Quorums.table c.args.q.now in
    let input = c.args.input in
    let rest : IsRest (t.read input) 0 c.read_quorum.result = rw (c.read_quorum.ensures) (rest_whole (t.read input)) in
    c.checks.ensures.reached t v 0 (record { act = act_of op seen; word = word } ∷ turns) c.requires (omega arith) rest
    (prefers_own t v input (acts turns) op seen at.1 is)

pub returns-clause-fewer : goal.returns-clause-fewer
returns-clause-fewer g c =
    let t = g.Q.Quorums.table c.args.q.now in
    omega (
      arith,
      c.checks.ensures.fewer t,
      ap count_ones c.read_quorum.ensures,
      largest_bound t.read t.values c.args.input c.requires,
    )
