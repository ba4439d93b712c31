-- Proof of `choose`: how many sets of `size` registers there are among the first `registers`.
use Rattle.std.proofs.Common.{arith}
use Rattle.mb_quorum.specs.MiddleLaw.{few_sets}
use Rattle.mb_quorum.proofs.Sets.{choose_by_last}
use Rattle.mb_quorum.proofs.middle.+choose.Goals as goal

pub returns-else-registers-eq0-clause-small : goal.returns-else-registers-eq0-clause-small
returns-else-registers-eq0-clause-small t c =
    let n = c.args.registers in
    let h = c.args.size in
    omega (
      arith,
      choose_by_last n h c.if-registers-eq0.false c.if-size-eq0.false,
      few_sets n h,
      c.choose.ensures.exact,
      c.choose-else-registers-eq0.ensures.exact,
    )
