-- The state of a world, and the histories that leave it.
use Rattle.std.specs.Prelude.{ℕ, ◌≡◌, ◌↔◌, ◌<◌, ◌+◌, ◌*◌, Option, Some, None, List, ◌∷◌, length, slice_get}
use Rattle.mb_claim.specs.declared.layout.Layout.{Layout}
use Rattle.mb_claim.specs.OneClaim.{IsClaimIn, consumer_of}
use Rattle.mb_claim.specs.States.{IsMemoryOf}
use Rattle.mb_cells.specs.Reading.{word_of}
use Rattle.mb_cells.specs.State.{IsAfter, PoolState, cell_count, lane_count}
use Rattle.mb_world.specs.declared.report.Note.{Note}
use Rattle.mb_world.specs.declared.place.Place.{Place}
use Rattle.mb_world.specs.declared.place.Place.TheVariants.{At, Before}
use Rattle.mb_world.specs.declared.setup.Setup.{Setup}
use Rattle.mb_world.specs.Imports.{ObjectTurn, place_past}
use Rattle.mb_world.specs.Plan.{consumers_of}
use Rattle.mb_world.specs.Setups.{layout_of, plan_in}
use Rattle.mb_world.specs.Fitting.{EndsAs, parts_of}
use Rattle.mb_world.specs.World.{WorldHistory, claim_accesses, histories_of, lane_part, pool_accesses}
use Rattle.mb_world.specs.ConsumerPath.{ConsumerPath}
use Rattle.mb_world.specs.Worlds.{IsWorldLawful}

-- the state of a world: its setup, the pool of cells, the words of the claims, where each consumer stands on each lane,
-- and its note on each cell, if it has one. The place of consumer c on lane p is at position c * lanes + p, and its note
-- on cell k at position c * cells + k
pub record WorldState : Type 0 where
  pub setup : Setup
  pub pool : PoolState
  pub words : List ℕ
  pub places : List Place
  pub notes : List (Option Note)

-- the place is that of consumer c on lane p, if its path there has met these cells and holds a claim with these steps,
-- or none
abbrev pub IsPlaceAt : Layout → ℕ → ℕ → List ℕ → Option (List ObjectTurn) → Place → Type 0
IsPlaceAt layout c p ks None (Before at) = word_of at ≡ place_past p ks
IsPlaceAt layout c p (k ∷ ks) (Some xs) (At cell claim) =
    (cell ≡ k) × (consumer_of claim ≡ c) × IsClaimIn layout claim xs
IsPlaceAt layout c p _ _ _ = ⊥

-- after a history, the place is that of consumer c on lane p: what c did there leads to `cells`, `notes` and the claim
-- `held`, if any, and so to this place
pub record IsPlaceAfter (setup : Setup) (c p : ℕ) (h : WorldHistory) (d : Place) : Type 0 where
  pub cells : List ℕ
  pub notes : List Note
  pub held : Option (List ObjectTurn)
  pub path : ConsumerPath (plan_in setup).claims c p (lane_part c p h) cells notes held
  pub is : IsPlaceAt (layout_of setup) c p cells held d

-- after a history, consumer c has this note on cell k, or none: it is n exactly if c's claim there has ended as n says
abbrev pub IsNoteAfter : Setup → ℕ → ℕ → WorldHistory → Option Note → Type 0
IsNoteAfter setup c k h o =
    (n : Note) → (o ≡ Some n) ↔ EndsAs (plan_in setup).claims c k n (parts_of c (histories_of h))

-- the history is lawful and leaves the world in this state
pub record IsWorldAfter (h : WorldHistory) (s : WorldState) : Type 0 where
  pub lawful : IsWorldLawful (plan_in s.setup) h
  pub lanes : lane_count s.pool ≡ (plan_in s.setup).lanes
  pub cells : cell_count s.pool ≡ (plan_in s.setup).claims.cells
  pub pool : IsAfter (pool_accesses h) s.pool
  pub words : IsMemoryOf (plan_in s.setup).claims s.words (claim_accesses h)
  pub places_count : length s.places ≡ consumers_of (plan_in s.setup) * (plan_in s.setup).lanes
  pub place : (c p : ℕ) → c < consumers_of (plan_in s.setup) → p < (plan_in s.setup).lanes →
      (d : Place) × (slice_get s.places (c * (plan_in s.setup).lanes + p) ≡ Some d) × IsPlaceAfter s.setup c p h d
  pub notes_count : length s.notes ≡ consumers_of (plan_in s.setup) * (plan_in s.setup).claims.cells
  pub note : (c k : ℕ) → c < consumers_of (plan_in s.setup) → k < (plan_in s.setup).claims.cells →
      (o : Option Note) × (slice_get s.notes (c * (plan_in s.setup).claims.cells + k) ≡ Some o)
      × IsNoteAfter s.setup c k h o

-- the invariant of a world: some lawful history leaves it
abbrev pub WorldIsSound : WorldState → Type 0
WorldIsSound s = (h : WorldHistory) × IsWorldAfter h s
