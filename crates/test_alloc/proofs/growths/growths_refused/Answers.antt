use Rattle.std.proofs.Common.{false, rules}
use Rattle.test_alloc.specs.Trials.{MaySay}
use Rattle.test_alloc.specs.declared.counters.Refuse.TheVariants.{From, Only}
use Rattle.test_alloc.proofs.Imports.{below_next}
use Rattle.test_alloc.proofs.growths.growths_refused.Goals as goal

-- if the loop goes on after a pass, the call was refused over both heaps of that pass
pub loop-number-preserved : goal.loop-number-preserved
loop-number-preserved g c =
    let from : MaySay g.F.Fn c.args.call (From c.loop-number.number) false = search rules in
    let only : MaySay g.F.Fn c.args.call (Only c.loop-number.number) false = search rules in
    below_next (λ k. MaySay g.F.Fn c.args.call (From k) false × MaySay g.F.Fn c.args.call (Only k) false)
    c.loop-number.number c.loop-number.invariant (from, only)
