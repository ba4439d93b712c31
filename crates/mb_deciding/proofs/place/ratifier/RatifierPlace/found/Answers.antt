-- Proof of `RatifierPlace::found`: what follows the load of the proposal, when no register is left to set.
use Rattle.std.proofs.Common.{◌≡◌, ◌≤◌, ◌<◌, ◌-◌, ◌∷◌, count_ones, ap, ◌∙◌, arith}
use Rattle.mb_deciding.specs.{Proposal, Load, acts, announcement, IsRest, act_of}
use Rattle.mb_deciding.proofs.Registers.{rest_whole}
use Rattle.mb_deciding.proofs.Sizes.{largest_bound}
use Rattle.mb_deciding.proofs.Advances.{announced_whole, prefers_found}
use Rattle.mb_deciding.proofs.place.ratifier.RatifierPlace.found.Goals as goal
use Rattle.mb_deciding.proofs.place.ratifier.RatifierPlace.found.Goals.{else-seen-gt0-via-then-seen-gt0+else-seen-from}
use Rattle.mb_deciding.proofs.place.ratifier.RatifierPlace.found.Goals.{else-seen-gt0-via-else-seen-gt0}

pub returns-then-seen-from-clause-reached : goal.returns-then-seen-from-clause-reached
returns-then-seen-from-clause-reached g c v turns op word at is can =
    let t = g.Q.Quorums.table c.args.q.now in
    let seen = c.args.seen in
    let whole = announced_whole t v c.args.input c.args.left (acts turns) op seen at.1 is c.requires.none can in
    let within : seen - 1 < t.values = omega arith in
    let rest : IsRest (t.read (seen - 1)) 0 c.read_quorum.result =
    rw (c.read_quorum.ensures) (rest_whole (t.read (seen - 1))) in
    c.checks.ensures.reached t v 0 (record { act = act_of op seen; word = word } ∷ turns) within (omega arith) rest
    (rw (whole.0) (prefers_found t v (seen - 1) seen (omega arith)))

pub returns-else-seen-gt0-clause-reached : goal.returns-else-seen-gt0-clause-reached
returns-else-seen-gt0-clause-reached g c v turns op word at is can =
    let t = g.Q.Quorums.table c.args.q.now in
    let whole = announced_whole t v c.args.input c.args.left (acts turns) op c.args.seen at.1 is c.requires.none can in
    let small : c.args.seen ≤ t.values = whole.1 in
    let empty : c.args.seen ≡ 0 =
    elim c.else-seen-gt0.branch [
      | else-seen-gt0-via-then-seen-gt0+else-seen-from w ↦ omega arith
      | else-seen-gt0-via-else-seen-gt0 w ↦ omega arith
    ] in
    (c.requires.input, (at.1.0, whole.0 ∙ ap (λ n. Load Proposal n ∷ announcement t v) empty))

pub returns-then-seen-from-clause-fewer : goal.returns-then-seen-from-clause-fewer
returns-then-seen-from-clause-fewer g c =
    let t = g.Q.Quorums.table c.args.q.now in
    let value = c.args.seen - 1 in
    let within : value < t.values = omega arith in
    omega (
      arith,
      c.checks.ensures.fewer t,
      ap count_ones c.read_quorum.ensures,
      largest_bound t.read t.values value within,
    )
