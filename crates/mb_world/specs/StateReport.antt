-- What the state of a world *tells* of its report: what can be read off its pool, its places and its notes.
use Rattle.std.specs.Prelude.{ℕ, ◌≡◌, ◌+◌, ◌*◌, ◌<◌, Bool, false, not, Option, Some, None, List, length, map, filter, slice_get}
use Rattle.std.specs.Option.{option_map_or}
use Rattle.std.specs.List.{filter_map}
use Rattle.mb_cells.specs.State.{IsAfter, PoolState, item_in}
use Rattle.mb_world.specs.declared.report.Note.{Note}
use Rattle.mb_world.specs.Imports.{Entry, History, has_ended, put_list}
use Rattle.mb_world.specs.Places.{has_begun_at}
use Rattle.mb_world.specs.Plan.{consumers_of}
use Rattle.mb_world.specs.Theorem.{DiaryView, LaneView}
use Rattle.mb_world.specs.Reporting.{any_below, is_took, values_put}
use Rattle.mb_world.specs.Setups.{plan_in}
use Rattle.mb_world.specs.WorldState.{WorldState}

-- after a history of the pool, lane p has these cells, the first linked first. Their items are those that the state
-- holds, and `over` says whether the end mark comes after them
pub record IsWalk (s : PoolState) (p : ℕ) (ks : List ℕ) (over : Bool) (pool : History) : Type 0 where
  pub cells : map (λ (e : Entry). e.cell) (put_list p pool) ≡ ks
  pub values : values_put p pool ≡ map (λ k. item_in k s) ks
  pub ended : has_ended p pool ≡ over

-- after each history that leaves the pool in this state, lane p has these cells, and has ended or not
abbrev pub IsWalked : PoolState → ℕ → List ℕ → Bool → Type 0
IsWalked s p ks ended = (pool : History) → IsAfter pool s → IsWalk s p ks ended pool

-- the note at a position of a list of notes: None if the list has no such position, or no note at it
abbrev pub note_there : Option (Option Note) → Option Note
note_there None = None
note_there (Some o) = o

-- the note of consumer c on cell k, if the state has one
abbrev pub note_on : WorldState → ℕ → ℕ → Option Note
note_on s c k = note_there (slice_get s.notes (c * (plan_in s.setup).claims.cells + k))

-- whether a consumer has a note that it took the item of cell k
abbrev pub is_taken_on : WorldState → ℕ → Bool
is_taken_on s k = any_below (consumers_of (plan_in s.setup)) (λ c. is_took (note_on s c k))

-- whether consumer c holds a claim on a cell of lane p that has made an access
abbrev pub begun_on : WorldState → ℕ → ℕ → Bool
begun_on s c p = option_map_or has_begun_at (slice_get s.places (c * (plan_in s.setup).lanes + p)) false

-- the state tells this report of lane p: its items, whether it has ended, and which items no note says were taken
pub record IsLaneTold (s : WorldState) (p : ℕ) (l : LaneView) : Type 0 where
  pub cells : List ℕ
  pub walked : IsWalked s.pool p cells l.ended
  pub put : l.put ≡ map (λ k. item_in k s.pool) cells
  pub left : l.left ≡ map (λ k. item_in k s.pool) (filter (λ k. not (is_taken_on s k)) cells)

-- the state tells this diary of consumer c on lane p: its notes on the lane's cells, and whether a claim is begun
pub record IsDiaryTold (s : WorldState) (c p : ℕ) (d : DiaryView) : Type 0 where
  pub consumer : d.consumer ≡ c
  pub lane : d.lane ≡ p
  pub cells : List ℕ
  pub ended : Bool
  pub walked : IsWalked s.pool p cells ended
  pub notes : d.notes ≡ filter_map (note_on s c) cells
  pub begun : d.begun ≡ begun_on s c p

-- the state tells these diaries: the first n, consumer by consumer, and of each consumer lane by lane
pub record AreDiariesTold (s : WorldState) (n : ℕ) (ds : List DiaryView) : Type 0 where
  pub count : length ds ≡ n
  pub each : (c p : ℕ) → p < (plan_in s.setup).lanes → c * (plan_in s.setup).lanes + p < n →
      (d : DiaryView) × (slice_get ds (c * (plan_in s.setup).lanes + p) ≡ Some d) × IsDiaryTold s c p d

-- the state tells these reports of the first n lanes, in their order
pub record AreLanesTold (s : WorldState) (n : ℕ) (ls : List LaneView) : Type 0 where
  pub count : length ls ≡ n
  pub each : (p : ℕ) → p < n → (l : LaneView) × (slice_get ls p ≡ Some l) × IsLaneTold s p l
