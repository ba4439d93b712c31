-- What the loop of `Claim::straight` keeps before each object. In each pass fewer objects are left.
use Rattle.std.proofs.Common.{◌≡◌, ◌+◌, ◌*◌, ◌-◌, ◌<◌, ◌≤◌, ℕ, length}
use Rattle.mb_claim.specs.declared.claim.straight.TheConstants.{LONGEST}
use Rattle.mb_claim.specs.{Claim, Going, kinds_of, consumer_count, IsStanding, AreClaimSteps, DrawsAndMakesNext}
use Rattle.mb_claim.proofs.claim.Claim.straight.Given as goal

abbrev pub decreases-objects : goal.decreases-objects
decreases-objects g l = length (kinds_of l.layout) - l.at.object

-- the new claim is before its first access to this object, after at most `LONGEST` accesses for each object passed
abbrev pub invariant-objects : goal.invariant-objects
invariant-objects g l = record {
  going : l.at.stage ≡ Going;
  object : l.at.object < length (kinds_of l.layout);
  few : l.most ≤ l.at.left + LONGEST * l.at.object;
  value : l.at.value < consumer_count l.layout;
  steps : (start : Claim) → IsStanding l.layout l.consumer 0 l.consumer start
      → (n : ℕ) × (mid : Claim) × (n + l.at.left ≡ l.most)
      × AreClaimSteps l.layout (DrawsAndMakesNext g.M.Drawing.draws g.M.Memory.makes) start l.fn.memory n mid l.memory
      × IsStanding l.layout l.consumer l.at.object l.at.value mid;
}
