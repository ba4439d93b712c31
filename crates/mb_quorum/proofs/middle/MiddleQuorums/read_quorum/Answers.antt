-- Proof of `Middle::read_quorum`: the registers that are not in the value's set, as a mask.
use Rattle.std.proofs.Common.{◌<◌, ◌/◌, ◌^◌, ◌-◌, sym, ap, ◌∙◌, subst, arith}
use Rattle.std.proofs.lemmas.Nat.{one_shl, pow_pos}
use Rattle.mb_quorum.specs.Middle.{choose, set_number}
use Rattle.mb_quorum.specs.MiddleLaw.{in_table, set_below}
use Rattle.mb_quorum.proofs.middle.MiddleQuorums.read_quorum.Goals as goal

pub set_number-set-requires-clause-known : goal.set_number-set-requires-clause-known
set_number-set-requires-clause-known c =
    subst (λ k. c.args.v < choose k (k / 2)) (sym c.breadth-registers.ensures.exact)
    (in_table c.args.self.now.values c.args.v c.requires)

pub overflow_sub-result : goal.overflow_sub-result
overflow_sub-result c =
    let n = c.breadth-registers.result in
    omega (arith, one_shl n 64 (omega (arith, c.breadth-registers.ensures.small)), pow_pos n)

pub overflow_sub-result-2 : goal.overflow_sub-result-2
overflow_sub-result-2 c =
    let n = c.breadth-registers.result in
    omega (
      arith,
      one_shl n 64 (omega (arith, c.breadth-registers.ensures.small)),
      set_below n (n / 2) c.args.v,
      c.set_number-set.ensures,
    )

pub returns : goal.returns
returns c =
    let n = c.breadth-registers.result in
    let word = one_shl n 64 (omega (arith, c.breadth-registers.ensures.small)) in
    ap (λ x. x - 1 - c.set_number-set.result) word ∙ ap (λ x. 2 ^ n - 1 - x) c.set_number-set.ensures
    ∙ ap (λ k. 2 ^ k - 1 - set_number k (k / 2) c.args.v) c.breadth-registers.ensures.exact
