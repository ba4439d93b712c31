-- What the laws of claims, of cells and of worlds give for one more access after a lawful history of a world.
use Rattle.std.specs.Prelude.{ℕ, ◌≡◌, ◌<◌, ◌⊎◌, List, ◌∷◌, None, Some}
use Rattle.mb_claim.specs.declared.access.Stage.TheVariants as stage
use Rattle.mb_cells.specs.declared.lane.Lane.{Lane}
use Rattle.mb_cells.specs.LanePath.{fetch, store}
use Rattle.mb_cells.specs.Standing.{finish_refusal, next_link, offer_refusal, push_store}
use Rattle.mb_world.specs.Imports.{ClaimAccess, END, Entry, Has, IsClaimLawful, IsClaimPrefix, IsLanePrefix, ObjectTurn, Producer, Stage, Word, linked_cells, part}
use Rattle.mb_world.specs.Plan.{Plan}
use Rattle.mb_world.specs.World.{WorldAccess, WorldHistory, claim_accesses, pool_accesses}
use Rattle.mb_world.specs.Worlds.{IsWorldLawful}
use Rattle.mb_world.specs.Replay.{IsLaneOf}

pub record EventKnown (plan : Plan) (h : WorldHistory) : Type 0 where
  pub sized : plan.claims.cells < END
  -- a producer has one place. Its next fetch-add or store is one that this place does not refuse
  pub place : (p : ℕ) → (lane : Lane) × IsLaneOf plan p lane h
  pub one_place : (p : ℕ) (lane other : Lane) → IsLaneOf plan p lane h → IsLaneOf plan p other h → lane ≡ other
  pub fetches : (p : ℕ) (lane : Lane) (e : Entry) → IsLaneOf plan p lane h
      → IsLanePrefix plan.claims.cells p (fetch p e ∷ part (Producer p) (pool_accesses h)) → offer_refusal lane ≡ None
  pub stores : (p : ℕ) (lane : Lane) (w : Word) (v : ℕ) → IsLaneOf plan p lane h
      → IsLanePrefix plan.claims.cells p (store p w v ∷ part (Producer p) (pool_accesses h))
      → (push_store p lane ≡ Some (w, v)) ⊎ ((finish_refusal lane ≡ None) × ((w ≡ next_link p lane) × (v ≡ END)))
  -- a cell is linked in at most one lane
  pub one_lane : (p q k : ℕ) → Has (linked_cells p (pool_accesses h)) k → Has (linked_cells q (pool_accesses h)) k
      → p ≡ q
  -- a claim has at most one stage, and goes on before each step. A lawful access of the world keeps the claims lawful.
  -- A claim has at most one lawful next access for each random word
  pub one_stage : (c : ℕ) (xs : List ObjectTurn) (s r : Stage) → IsClaimPrefix plan.claims c xs s
      → IsClaimPrefix plan.claims c xs r
      → s ≡ r
  pub going : (c : ℕ) (x : ObjectTurn) (xs : List ObjectTurn) (s : Stage) → IsClaimPrefix plan.claims c (x ∷ xs) s
      → IsClaimPrefix plan.claims c xs stage.Going
  pub claims : (a : WorldAccess) → IsWorldLawful plan (a ∷ h) → IsClaimLawful plan.claims (claim_accesses (a ∷ h))
  pub one_claim_access : (a b : ClaimAccess) → IsClaimLawful plan.claims (a ∷ claim_accesses h)
      → IsClaimLawful plan.claims (b ∷ claim_accesses h) → a.consumer ≡ b.consumer → a.cell ≡ b.cell
      → a.step.turn.word ≡ b.step.turn.word → a ≡ b
