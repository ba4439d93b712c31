-- How an event changes the state of a world, and states in which one thing is changed.
use Rattle.std.specs.Prelude.{ℕ, ◌≡◌, ◌+◌, ◌*◌, ◌<◌, Option, Some, None, List, slice_get, slice_set}
use Rattle.mb_cells.specs.State.{PoolState}
use Rattle.mb_world.specs.declared.event.Answer.{Answer}
use Rattle.mb_world.specs.declared.event.Event.{Event}
use Rattle.mb_world.specs.declared.report.Note.{Note}
use Rattle.mb_world.specs.declared.place.Place.{Place}
use Rattle.mb_world.specs.Plan.{consumers_of}
use Rattle.mb_world.specs.Setups.{plan_in}
use Rattle.mb_world.specs.World.{WorldAccess, WorldHistory}
use Rattle.mb_world.specs.WorldState.{IsWorldAfter, WorldState}
use Rattle.mb_world.specs.Replay.{HasAnswer, with_access}

-- after a history, the event has this answer and leaves a world in this state. The history with the event's access
-- leaves that state, or the same history does if the event has none
pub record EventAdds (e : Event) (r : Answer) (now : WorldState) (h : WorldHistory) : Type 0 where
  pub access : Option WorldAccess
  pub entry : HasAnswer (plan_in now.setup) e r access h
  pub left : IsWorldAfter (with_access access h) now

-- ---- places and notes
-- the world has consumer c and lane p, and c stands at this place there
pub record HasPlace (c p : ℕ) (d : Place) (s : WorldState) : Type 0 where
  pub consumer : c < consumers_of (plan_in s.setup)
  pub lane : p < (plan_in s.setup).lanes
  pub place : slice_get s.places (c * (plan_in s.setup).lanes + p) ≡ Some d

-- the state with this place of consumer c on lane p
abbrev pub with_place : ℕ → ℕ → Place → WorldState → WorldState
with_place c p d s = record s { places = slice_set s.places (c * (plan_in s.setup).lanes + p) d }

-- the state with this note of consumer c on cell k
abbrev pub with_note : ℕ → ℕ → Note → WorldState → WorldState
with_note c k n s = record s { notes = slice_set s.notes (c * (plan_in s.setup).claims.cells + k) (Some n) }

-- the state with this note of consumer c on cell k, if there is a note
abbrev pub with_note_if : ℕ → ℕ → Option Note → WorldState → WorldState
with_note_if c k None s = s
with_note_if c k (Some n) s = with_note c k n s

-- ---- the words of the claims, and the pool
-- the state with these words of the claims
abbrev pub with_words : List ℕ → WorldState → WorldState
with_words words s = record s { words = words }

-- the state with this pool
abbrev pub with_pool : PoolState → WorldState → WorldState
with_pool pool s = record s { pool = pool }
