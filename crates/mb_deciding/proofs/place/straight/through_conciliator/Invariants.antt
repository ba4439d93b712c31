-- What the loop of `through_conciliator` keeps: each access so far was an attempt that did not store.
use Rattle.std.proofs.Common.{◌≡◌, ◌+◌, ℕ}
use Rattle.mb_deciding.specs.{Conciliator, InConciliator, Draw, HasLimits, AreSteps, DrawsAndMakes, first_place}
use Rattle.mb_deciding.specs.declared.place.pc.Next.TheVariants as leads
use Rattle.mb_deciding.proofs.place.straight.through_conciliator.Given as goal

abbrev pub decreases-draws : goal.decreases-draws
decreases-draws g l = l.left

-- Before each pass of the loop `made` attempts were made, with one access each. None of them stored.
abbrev pub invariant-draws : goal.invariant-draws
invariant-draws g l = record {
  made : ℕ;
  limits : HasLimits l.s made l.limit l.modulus;
  count : made + l.left ≡ l.fn.left;
  steps : AreSteps (g.Q.Quorums.table l.q) (DrawsAndMakes g.M.Drawing.draws g.M.Memory.makes l.site.object)
      (first_place (g.Q.Quorums.table l.q) (Conciliator l.s) l.input) l.fn.memory made
      (leads.Go (InConciliator (Draw l.input l.limit l.modulus))) l.memory;
}
