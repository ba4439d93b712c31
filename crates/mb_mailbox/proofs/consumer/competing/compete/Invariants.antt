-- What the loop of `compete` keeps: the claim goes on, and some of the budget is left.
use Rattle.std.proofs.Common.{◌≡◌, ◌≢◌, ◌+◌, ℕ}
use Rattle.mb_claim.specs.declared.access.Stage.TheVariants as stage
use Rattle.mb_mailbox.specs.Imports.{AreSeatSteps, IsClaimIn, claim_stage, consumer_of, name_of, part_on}
use Rattle.mb_mailbox.proofs.consumer.competing.compete.Given as goal

abbrev pub decreases-steps : goal.decreases-steps
decreases-steps g l = l.left

-- accesses made and `left` add up to the budget, and `left` is not 0. The claim has the turns of its part, and goes on
abbrev pub invariant-steps : goal.invariant-steps
invariant-steps g l = record {
  steps : (n : ℕ) × (n + l.left ≡ l.fn.left)
      × AreSeatSteps l.claims.layout l.cell l.fn.claim l.fn.seat (g.R.Rng.stream l.fn.rng)
      n l.claim l.seat (g.R.Rng.stream l.rng);
  table : l.seat.table ≡ name_of l.claims;
  owner : consumer_of l.claim ≡ l.seat.consumer;
  standing : IsClaimIn l.claims.layout l.claim (part_on l.seat.consumer l.cell l.seat.part);
  going : claim_stage l.claim ≡ stage.Going;
  some : l.left ≢ 0;
}
