-- What the loops of `through_ratifier` keep: the accesses so far led to this place, and `left` has room for the rest.
use Rattle.std.proofs.Common.{◌≡◌, ◌+◌, ◌<◌, ◌≤◌, ℕ, count_ones}
use Rattle.mb_deciding.specs.{Ratifier, InRatifier, Announce, AreSteps, DrawsAndMakes, first_place, most_turns, turns_left, checks_of}
use Rattle.mb_deciding.specs.declared.place.pc.Next.TheVariants as leads
use Rattle.mb_deciding.proofs.place.straight.through_ratifier.Given as goal

abbrev pub decreases-announces : goal.decreases-announces
decreases-announces g l = l.left

abbrev pub invariant-announces : goal.invariant-announces
invariant-announces g l = record {
  made : ℕ;
  count : made + l.left ≡ l.fn.left;
  room : turns_left (g.Q.Quorums.table l.q) (InRatifier (Announce l.input l.mask)) ≤ l.left;
  few : made + turns_left (g.Q.Quorums.table l.q) (InRatifier (Announce l.input l.mask))
      ≤ most_turns (g.Q.Quorums.table l.q) Ratifier;
  steps : AreSteps (g.Q.Quorums.table l.q) (DrawsAndMakes g.M.Drawing.draws g.M.Memory.makes l.site.object)
      (first_place (g.Q.Quorums.table l.q) Ratifier l.input) l.fn.memory made
      (leads.Go (InRatifier (Announce l.input l.mask))) l.memory;
}

abbrev pub decreases-checks : goal.decreases-checks
decreases-checks g l = l.left

abbrev pub invariant-checks : goal.invariant-checks
invariant-checks g l = record {
  value : l.preference < (g.Q.Quorums.table l.q).values;
  made : ℕ;
  count : made + l.left ≡ l.fn.left;
  room : count_ones l.mask ≤ l.left;
  few : made + count_ones l.mask ≤ most_turns (g.Q.Quorums.table l.q) Ratifier;
  steps : AreSteps (g.Q.Quorums.table l.q) (DrawsAndMakes g.M.Drawing.draws g.M.Memory.makes l.site.object)
      (first_place (g.Q.Quorums.table l.q) Ratifier l.input) l.fn.memory made (checks_of l.preference l.mask) l.memory;
}
