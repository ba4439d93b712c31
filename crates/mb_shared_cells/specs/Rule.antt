-- The rule of the table: its words and views agree with one lawful history of the pool.
use Rattle.std.specs.Prelude.{List, None, Some, [], length, slice_get, slice_index, ℕ, ◌+◌, ◌<◌, ◌≡◌, ◌≢◌, ◌≤◌, ◌⊎◌}
use mathlib.Core.Option.{some}
use lib.ListN.{get_elem?}
use Rattle.atomic_table.specs.Table.{State}
use Rattle.mb_cells.specs.Vocabulary.{History, IsMemoryOf, part, pool_words}
use Rattle.mb_cells.specs.declared.access.Process.{Process}
use Rattle.mb_cells.specs.declared.access.Process.TheVariants.{Producer, Reader}
use Rattle.mb_cells.specs.declared.size.PoolSize.{PoolSize}
use Rattle.mb_shared_cells.specs.Views.{PartList, roll_at}
use Rattle.mb_shared_cells.specs.declared.views.Roll.{Roll}
use Rattle.mb_shared_cells.specs.declared.views.View.{View}
use Rattle.mb_shared_cells.specs.declared.views.View.TheVariants.{Empty, Hub, HubDraws, HubJoins, Member}

-- the address of the roster, the word after those of the pool, which counts the lanes' numbers drawn
abbrev pub roster_of : PoolSize → ℕ
roster_of size = pool_words size

-- how the parts of one history are seated: the history, how many lanes and readers were issued, and which seat is the
-- hub's. For each process it says which one seat has its part
pub record Seating : Type 0 where
  pub history : History
  pub lanes : ℕ
  pub readers : ℕ
  pub hub : ℕ
  pub seat_of : Process → ℕ

-- the process was issued: its number is below that of the lanes, or readers, issued
abbrev pub IsEnrolled : Seating → Process → Type 0
IsEnrolled t (Producer p) = p < t.lanes
IsEnrolled t (Reader r) = r < t.readers

-- the seat is the hub's, and its view has this size. Its roll has an entry for each process issued. Each part in the
-- roll is the history's part of a process that the seating puts at the hub
pub record IsHub (size : PoolSize) (t : Seating) (seat : ℕ) (own : PoolSize) (roll : Roll) : Type 0 where
  pub sized : own ≡ size
  pub here : seat ≡ t.hub
  pub lanes : length roll.lanes ≡ t.lanes
  pub readers : length roll.readers ≡ t.readers
  pub parts : (who : Process) (done : History) → roll_at who roll ≡ Some (Some done)
      → (t.seat_of who ≡ seat) × (done ≡ part who t.history)

-- each lane of which the list has a part was issued and is back at the hub, and the part is the lane's in the history
abbrev pub KnowsTaken : Seating → PartList → Type 0
KnowsTaken t known =
    (p : ℕ) (theirs : History) → slice_get known p ≡ Some (Some theirs)
    → (p < t.lanes) × (t.seat_of (Producer p) ≡ t.hub) × (theirs ≡ part (Producer p) t.history)

-- the process was issued, this is its seat, and the part is the process's part of the history
pub record HasPart (t : Seating) (seat : ℕ) (who : Process) (done : History) : Type 0 where
  pub here : t.seat_of who ≡ seat
  pub enrolled : IsEnrolled t who
  pub part : done ≡ part who t.history

-- the view is true of its seat and of the seating, and of the roster, which holds the number `roster`
abbrev pub FitsView : PoolSize → Seating → ℕ → ℕ → View → Type 0
FitsView size t roster seat (Hub own roll) = IsHub size t seat own roll × (roster ≡ t.lanes)
FitsView size t roster seat (HubDraws own roll) = IsHub size t seat own roll × (roster ≡ t.lanes + 1)
FitsView size t roster seat (HubJoins own roll who done) =
    IsHub size t seat own roll × (roster ≡ t.lanes) × HasPart t seat who done × (roll_at who roll ≡ Some None)
FitsView size t roster seat (Member own who known done) =
    (own ≡ size) × (seat ≢ t.hub) × HasPart t seat who done × KnowsTaken t known
FitsView size t roster seat Empty = Unit {0}

abbrev pub IsViewAt : List View → ℕ → View → Type 0
IsViewAt views seat v = get_elem? views seat ≡ some v

-- the view has this part of the process: it is the view of the process's seat, or of the hub that took that seat back
abbrev pub TellsPart : View → Process → History → Type 0
TellsPart (Hub own roll) who done = roll_at who roll ≡ Some (Some done)
TellsPart (HubDraws own roll) who done = roll_at who roll ≡ Some (Some done)
TellsPart (HubJoins own roll joined part) who done =
    ((joined ≡ who) × (part ≡ done)) ⊎ (roll_at who roll ≡ Some (Some done))
TellsPart (Member own seated known part) who done = (seated ≡ who) × (part ≡ done)
TellsPart Empty who done = ⊥

-- the view of this seat has this part of the process
abbrev pub TellsPartAt : List View → ℕ → Process → History → Type 0
TellsPartAt views seat who done = (v : View) × IsViewAt views seat v × TellsPart v who done

-- the view has some part of the process
abbrev pub HasProcess : View → Process → Type 0
HasProcess v who = (done : History) × TellsPart v who done

-- the process stands at the seat: the seat's view has a part of the process
abbrev pub StandsAt : List View → ℕ → Process → Type 0
StandsAt views seat who = (v : View) × IsViewAt views seat v × HasProcess v who

-- words and views agree with this seating of a history
pub record IsTableState (size : PoolSize) (words : List ℕ) (views : List View) (t : Seating) : Type 0 where
  -- the history is lawful, and leaves in each word of the pool what the word holds
  pub memory : IsMemoryOf size words t.history
  pub wide : length words ≡ roster_of size + 1
  -- at most as many numbers were drawn as there are lanes, and at most as many lanes issued as numbers drawn
  pub few : slice_index words (roster_of size) ≤ size.lanes
  pub drawn : t.lanes ≤ slice_index words (roster_of size)
  -- a process that was not issued did nothing
  pub nobody_else : (who : Process) → (IsEnrolled t who → ⊥) → part who t.history ≡ []
  -- a process that was issued is in the view of its seat, and what each view says of a part is true
  pub stands : (who : Process) → IsEnrolled t who → StandsAt views (t.seat_of who) who
  pub fits : (seat : ℕ) (v : View) → IsViewAt views seat v
      → FitsView size t (slice_index words (roster_of size)) seat v

-- words and views agree with some seating of some history
abbrev pub IsCellsState : PoolSize → List ℕ → List View → Type 0
IsCellsState size words views = (t : Seating) × IsTableState size words views t

-- the state of a table keeps the rule: its words and views agree with some seating of some history
abbrev pub KeepsCells : PoolSize → State (Unit {0}) View → Type 0
KeepsCells size s = IsCellsState size s.words s.views
