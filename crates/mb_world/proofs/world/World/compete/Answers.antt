-- Proof of `World::compete`: the claim of consumer `c` on cell `k` is not won: the consumer makes the claim's next
-- access.
use Rattle.std.proofs.Common.{◌≡◌, sym, subst, arith}
use Rattle.mb_claim.specs.declared.access.Stage.TheVariants as stage
use Rattle.mb_claim.specs.OneClaim.{IsClaimOn, claim_stage}
use Rattle.mb_world.specs.declared.place.Place.TheVariants.{At}
use Rattle.mb_world.specs.Plan.{consumers_of}
use Rattle.mb_world.specs.Setups.{plan_in}
use Rattle.mb_world.specs.World.{WorldHistory, claim_accesses}
use Rattle.mb_world.specs.WorldState.{IsWorldAfter, WorldState}
use Rattle.mb_world.specs.EventSteps.{HasPlace}
use Rattle.mb_world.proofs.ClaimNotes.{noted, place_read, unnoted}
use Rattle.mb_world.proofs.NewWorlds.{position_within}
use Rattle.mb_world.proofs.StateSteps.{still_sound}
use Rattle.mb_world.proofs.world.World.compete.Given.{Over}
use Rattle.mb_world.proofs.world.World.compete.Goals as goal
use Rattle.mb_world.proofs.world.World.compete.Goals.{After-as_layout}
use Rattle.mb_world.proofs.world.World.compete.Goals.{in-Some, in_default-end_note}

-- what holds once the place was read, and holds a claim
module _ (g : Over) (c : After-as_layout g) where
  -- the state before the access
  abbrev s : WorldState
  s = record {
    setup = c.self.inside.setup;
    pool = c.self.inside.pool;
    words = c.self.inside.words;
    places = c.self.inside.places.items;
    notes = c.self.inside.notes.items;
  }

  -- the place of the consumer on the lane holds a claim on cell k
  first : HasPlace c.args.c c.args.p (At c.args.k c.requires.0) s
  first = subst (HasPlace c.args.c c.args.p (At c.args.k c.requires.0)) (sym c.self.view_is) c.requires.1

  -- the cell and the claim that the code reads are those of that place
  read : (c.in-At.cell ≡ c.args.k) × (c.in-At.claim ≡ c.requires.0)
  read =
      place_read s c.args.c c.args.p c.args.k c.in-At.cell c.producers.result c.requires.0 c.in-At.claim
      c.index_mut.result.now first c.producers.ensures c.index_mut.ensures.value c.in-At.is

  -- that place holds the claim that the code reads
  has : HasPlace c.args.c c.args.p (At c.args.k c.in-At.claim) s
  has = rw (read.1) first

  -- the claim goes on
  going : (h : WorldHistory) → IsWorldAfter h s → claim_stage c.in-At.claim ≡ stage.Going
  going h is =
      c.claims_leave_states.ensures.going s h c.args.c c.args.p c.args.k c.in-At.claim is has
      (rw (read.1) c.requires.2)

  -- the history leaves the words, and in it the consumer has made the steps of this claim on cell k
  on : (h : WorldHistory) → IsWorldAfter h s → IsClaimOn c.as_layout.result.now (plan_in s.setup).claims.cells
      c.args.k c.in-At.claim s.words (claim_accesses h)
  on h is =
      rw (c.as_layout.ensures) (c.claims_leave_states.ensures.on s h c.args.c c.args.p c.args.k c.in-At.claim is has)

-- the claim goes on, so it has a next access
pub step-made-requires-clause-going : goal.step-made-requires-clause-going
step-made-requires-clause-going g c = going g c c.self.invariant.0 c.self.invariant.1

-- the number of the cell is below the most cells that a layout may have
pub step-made-requires-clause-cell : goal.step-made-requires-clause-cell
step-made-requires-clause-cell g c =
    omega (arith, (on g c c.self.invariant.0 c.self.invariant.1).cell, c.self.inside.setup.small)

-- some history of the claims leaves the words, and in it the consumer has made the steps of this claim on cell k
pub step-made-requires-clause-held : goal.step-made-requires-clause-held
step-made-requires-clause-held g c = (_, _, on g c c.self.invariant.0 c.self.invariant.1)

-- the note's position is in the list of notes
pub index_mut-requires-in-Some-2 : goal.index_mut-requires-in-Some-2
index_mut-requires-in-Some-2 g c =
    let at = (goal.at.index_mut-requires-in-Some-2 g c).After-as_layout in
    let is = c.self.invariant.1 in
    let plan = plan_in c.self.inside.setup in
    let inside = position_within c.args.c c.args.k (consumers_of plan) plan.claims.cells (has g at).consumer
    (on g at c.self.invariant.0 is).cell in
    rw (c.cells.ensures) (omega (arith, inside, is.notes_count, c.self.inside.notes.ok.0))

-- if the claim has a note after the step, the world with that note is sound
pub invariant_of-self : goal.invariant_of-self
invariant_of-self g c =
    let at = (goal.at.invariant_of-self g c).After-as_layout in
    let h = c.self.invariant.0 in
    let is = c.self.invariant.1 in
    let made = c.step-made.ensures in
    let now = rw (c.as_layout.ensures) at (made.held _ _ (on g at h is)) in
    let adds = c.claims_leave_states.ensures.competed _ _ _ _ _ _ _ _ _ _ is (has g at) (going g at h is)
    made.consumer made.word now in
    still_sound _ _ _ h
    (noted (s g at) _ _ made.stage adds _ c.producers.ensures c.cells.ensures c.end_note.ensures c.in-Some.is)

-- if the claim has no note after the step, the world is sound
pub invariant_of-self-in_default-end_note : goal.invariant_of-self-in_default-end_note
invariant_of-self-in_default-end_note g c =
    let at = (goal.at.invariant_of-self-in_default-end_note g c).After-as_layout in
    let h = c.self.invariant.0 in
    let is = c.self.invariant.1 in
    let made = c.step-made.ensures in
    let now = rw (c.as_layout.ensures) at (made.held _ _ (on g at h is)) in
    let adds = c.claims_leave_states.ensures.competed _ _ _ _ _ _ _ _ _ _ is (has g at) (going g at h is)
    made.consumer made.word now in
    still_sound _ _ _ h (unnoted (s g at) _ _ made.stage adds (read g at).0 c.producers.ensures _
    c.end_note.ensures c.in_default-end_note.not-Some)

-- the event leaves the state with the claim at its place, or with the place past the cell and the note
pub returns-clause-adds : goal.returns-clause-adds
returns-clause-adds g c h was =
    let at = (goal.at.returns-clause-adds g c).After-as_layout in
    let is = rw (← c.self.view_is) at was in
    let made = c.step-made.ensures in
    let now = rw (c.as_layout.ensures) at (made.held _ _ (on g at h is)) in
    let adds = c.claims_leave_states.ensures.competed _ _ _ _ _ _ _ _ _ _ is (has g at) (going g at h is)
    made.consumer made.word now in
    elim c.match-end_note.branch [
      | in-Some w ↦ rw (w.self-is)
          (noted (s g at) _ _ made.stage adds _ c.producers.ensures w.cells.ensures c.end_note.ensures w.in-Some.is)
      | in_default-end_note w ↦ rw (w.self-is) (unnoted (s g at) _ _ made.stage adds (read g at).0 c.producers.ensures _
          c.end_note.ensures w.in_default-end_note.not-Some)
    ]
