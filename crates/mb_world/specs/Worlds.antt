-- Lawful histories of a world, and what one more access adds to them.
use Rattle.std.specs.Prelude.{ℕ, ◌≡◌, ◌<◌, true, Option, List, ◌∷◌}
use Rattle.mb_claim.specs.History as claim
use Rattle.mb_cells.specs.Memory as cell
use Rattle.mb_deciding.specs.History as object
use Rattle.mb_world.specs.declared.report.Note.{Note}
use Rattle.mb_world.specs.Imports.{ActFits, AllFit, END, Has, IsLanePrefix, ObjectTurn, PoolAccess, Producer, linked_cells, part}
use Rattle.mb_world.specs.Plan.{Plan, consumers_of}
use Rattle.mb_world.specs.World.{IsBy, ToCells, ToClaims, WorldAccess, WorldHistory, claim_accesses, is_on, lane_part, pool_accesses}
use Rattle.mb_world.specs.ConsumerPath.{ConsumerPath}

-- what consumer c did on lane p is a prefix of a consumer path. It leads to `cells`, `notes` and the claim `held`, if any
pub record IsOnPath (plan : Plan) (c p : ℕ) (h : WorldHistory) : Type 0 where
  pub cells : List ℕ
  pub notes : List Note
  pub held : Option (List ObjectTurn)
  pub path : ConsumerPath plan.claims c p (lane_part c p h) cells notes held

-- c is a consumer of the plan, and the access is in the part of c on one of the plan's lanes
pub record IsOnLane (plan : Plan) (c : ℕ) (a : WorldAccess) (h : WorldHistory) : Type 0 where
  pub known : c < consumers_of plan
  pub lane : ℕ
  pub below : lane < plan.lanes
  pub on : is_on c lane (linked_cells lane (pool_accesses h)) a ≡ true

-- the history is a lawful one of a world with this plan
pub record IsWorldLawful (plan : Plan) (h : WorldHistory) : Type 0 where
  -- the link to a cell, its number + 1, is never the end mark
  pub sized : plan.claims.cells < END
  -- values and random words are below 2^64, and each producer with an access has a lane
  pub cells_fit : AllFit plan.lanes (pool_accesses h)
  pub claims_fit : claim.AreInWords (claim_accesses h)
  -- each access that loads finds what was stored last in its word, or 0. No word is both of the cells and of the claims
  pub cells_memory : cell.IsMemoryTrue (pool_accesses h)
  pub claims_memory : claim.IsMemoryTrue (claim_accesses h)
  -- each producer's part is a prefix of a lane path
  pub producers : (p : ℕ) → IsLanePrefix plan.claims.cells p (part (Producer p) (pool_accesses h))
  -- each consumer's part on each lane is a prefix of a consumer path
  pub consumers : (c p : ℕ) → c < consumers_of plan → p < plan.lanes → IsOnPath plan c p h
  -- no access of a consumer is outside its parts on the lanes
  pub no_others : (c : ℕ) (a : WorldAccess) → Has h a → IsBy c a → IsOnLane plan c a h

-- ---- one more access
-- the access may follow by its values alone: they are below 2^64, and if it loads, it finds what its word holds
abbrev pub IsTrueTo : WorldAccess → WorldHistory → Type 0
IsTrueTo (ToCells a) h = ActFits a.act × cell.ReadsLast a.word a.act (pool_accesses h)
IsTrueTo (ToClaims a) h =
    object.IsInWords a.step.turn
    × object.ReadsLast a.step.turn.act (claim.object_history a.cell a.step.object (claim_accesses h))

-- what one more access, of consumer c on lane p, adds to a lawful history
pub record ConsumerAdds (plan : Plan) (c p : ℕ) (a : WorldAccess) (h : WorldHistory) : Type 0 where
  -- the access is one of consumer c, on lane p
  pub maker : IsBy c a
  pub on : is_on c p (linked_cells p (pool_accesses h)) a ≡ true
  -- the longer history is lawful
  pub lawful : IsWorldLawful plan (a ∷ h)
  -- the part of c on lane p has one access more
  pub own : lane_part c p (a ∷ h) ≡ a ∷ lane_part c p h
  -- the part of each other consumer, and that of c on each other lane, stays as it is
  pub others : (d q : ℕ) → (d ≡ c → q ≡ p → ⊥) → lane_part d q (a ∷ h) ≡ lane_part d q h

-- what one more access, of a producer, adds to a lawful history
pub record ProducerAdds (plan : Plan) (a : PoolAccess) (h : WorldHistory) : Type 0 where
  -- the longer history is lawful
  pub lawful : IsWorldLawful plan (ToCells a ∷ h)
  -- the parts of all consumers on all lanes stay as they are
  pub others : (d q : ℕ) → lane_part d q (ToCells a ∷ h) ≡ lane_part d q h
