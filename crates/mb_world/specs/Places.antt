-- Where a consumer stands on a lane.
use Rattle.std.specs.Prelude.{ℕ, ◌≡◌, ◌+◌, ◌*◌, ◌<◌, Bool, false, List, Some, length, slice_get}
use Rattle.mb_claim.specs.declared.access.Stage.TheVariants as stage
use Rattle.mb_claim.specs.declared.claim.Claim.{Claim}
use Rattle.mb_claim.specs.OneClaim.{is_begun}
use Rattle.mb_cells.specs.declared.cursor.Cursor.TheVariants.{Head, Past}
use Rattle.mb_world.specs.declared.place.Place.{Place}
use Rattle.mb_world.specs.declared.place.Place.TheVariants.{At, Before}
use Rattle.mb_world.specs.Imports.{Stage}

-- whether the consumer at this place holds a claim that has an access
abbrev pub has_begun_at : Place → Bool
has_begun_at (Before at) = false
has_begun_at (At k claim) = is_begun claim

-- the place of a consumer after a step of its claim on cell k, by that claim and the stage to which the step led it
abbrev pub place_after : ℕ → Claim → Stage → Place
place_after k claim stage.Going = At k claim
place_after k claim stage.Won = At k claim
place_after k claim (stage.Lost w) = Before (Past k)
place_after k claim stage.Undecided = Before (Past k)

-- these are the first n places of consumers that have done nothing, consumer by consumer and lane by lane. Each is
-- before the head of its lane
pub record AreAtHeads (lanes n : ℕ) (places : List Place) : Type 0 where
  pub count : length places ≡ n
  pub each : (c p : ℕ) → p < lanes → c * lanes + p < n →
      (d : Place) × (slice_get places (c * lanes + p) ≡ Some d) × (d ≡ Before (Head p))
