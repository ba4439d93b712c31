-- The invariants of the hub and of each seat, what callers see of them, and which accesses a seat can make.
use Rattle.std.specs.Prelude.{[], length, ℕ, ◌<◌, ◌∷◌, ◌≡◌}
use Rattle.atomic_table.specs.Seated.{TableId}
use Rattle.mb_cells.specs.Vocabulary.{History, IsLaneAfter, IsLanePrefix, IsLaneWord, MayRead, fetch, store}
use Rattle.mb_cells.specs.declared.access.Process.{Process}
use Rattle.mb_cells.specs.declared.access.Process.TheVariants.{Producer, Reader}
use Rattle.mb_cells.specs.declared.access.Word.{Word}
use Rattle.mb_cells.specs.declared.lane.Lane.{Lane}
use Rattle.mb_cells.specs.declared.size.PoolSize.{PoolSize}
use Rattle.mb_shared_cells.specs.Shown.{CellHubView, CellsName, HasHistory, LaneSeatView, ReaderSeatView}
use Rattle.mb_shared_cells.specs.Views.{IsRollOf, PartList, SeatState, empty_roll}
use Rattle.mb_shared_cells.specs.declared.views.Roll.{Roll}
use Rattle.mb_shared_cells.specs.declared.views.View.{View}
use Rattle.mb_shared_cells.specs.declared.views.View.TheVariants.{Empty, Hub, HubDraws, HubJoins, Member}

-- ---- the fields of a view
-- the size in a view, or a size of 0 lanes and 0 cells if it has none
abbrev pub size_in : View → PoolSize
size_in (Hub size roll) = size
size_in (HubDraws size roll) = size
size_in (HubJoins size roll who done) = size
size_in (Member size who known done) = size
size_in Empty = record { lanes = 0; cells = 0 }

-- the roll in a view, or an empty one if it has none
abbrev pub roll_in : View → Roll
roll_in (Hub size roll) = roll
roll_in (HubDraws size roll) = roll
roll_in (HubJoins size roll who done) = roll
roll_in (Member size who known done) = empty_roll
roll_in Empty = empty_roll

-- the number of a process among the producers, or among the readers
abbrev pub number_of : Process → ℕ
number_of (Producer p) = p
number_of (Reader r) = r

-- the number of the lane or reader whose seat has this view, or 0 if the view is a hub's or empty
abbrev pub number_in : View → ℕ
number_in (Hub size roll) = 0
number_in (HubDraws size roll) = 0
number_in (HubJoins size roll who done) = 0
number_in (Member size who known done) = number_of who
number_in Empty = 0

-- the list of lanes' parts in the view of a lane's or reader's seat. In any other view it is empty
abbrev pub known_in : View → PartList
known_in (Hub size roll) = []
known_in (HubDraws size roll) = []
known_in (HubJoins size roll who done) = []
known_in (Member size who known done) = known
known_in Empty = []

-- the part of the view's own process, or of the seat that a hub has just joined. In any other view it is empty
abbrev pub done_in : View → History
done_in (Hub size roll) = []
done_in (HubDraws size roll) = []
done_in (HubJoins size roll who done) = done
done_in (Member size who known done) = done
done_in Empty = []

-- the name of a seat's table: this identity, and the size in the seat's view
abbrev pub name_in : TableId → SeatState → CellsName
name_in id me = record { id = id; size = size_in me.0 }

-- ---- the invariants, and what callers see
-- the invariant of the hub: it neither draws nor joins. It counts the lanes that it issued, and some lawful history has
-- the parts that it took back
pub record IsHubSeat (me : SeatState) (given : ℕ) : Type 0 where
  pub is : me ≡ (Hub (size_in me.0) (roll_in me.0), [])
  pub count : given ≡ length (roll_in me.0).lanes
  pub history : (h : History) × IsRollOf (size_in me.0) (roll_in me.0) h

-- what callers see of the hub
abbrev pub hub_shown : TableId → SeatState → CellHubView
hub_shown id me = record { table = name_in id me; roll = roll_in me.0 }

-- the invariant of a lane's seat: the lane is one of the table's, its producer stands at the place, and some lawful
-- history has its part
pub record IsLaneSeat (me : SeatState) (number : ℕ) (place : Lane) : Type 0 where
  pub is : me ≡ (Member (size_in me.0) (Producer number) [] (done_in me.0), [])
  pub within : number < (size_in me.0).lanes
  pub stands : IsLaneAfter (size_in me.0).cells number place (done_in me.0)
  pub history : HasHistory (size_in me.0) (Producer number) (done_in me.0)

-- what callers see of a lane's seat
abbrev pub lane_shown : TableId → SeatState → ℕ → Lane → LaneSeatView
lane_shown id me number place =
    record { table = name_in id me; lane = number; place = place; part = done_in me.0 }

-- the invariant of a reader's seat: some lawful history has the reader's part
pub record IsReaderSeat (me : SeatState) : Type 0 where
  pub is : me ≡ (Member (size_in me.0) (Reader (number_in me.0)) (known_in me.0) (done_in me.0), [])
  pub history : HasHistory (size_in me.0) (Reader (number_in me.0)) (done_in me.0)

-- what callers see of a reader's seat
abbrev pub reader_shown : TableId → SeatState → ReaderSeatView
reader_shown id me = record {
  table = name_in id me;
  reader = number_in me.0;
  known = known_in me.0;
  part = done_in me.0;
}

-- ---- which accesses a seat can make
-- the seat is a reader's, the reader may load the word, and the word is a head, link or item of the pool
pub record CanLoad (size : PoolSize) (word : Word) (me : SeatState) : Type 0 where
  pub reader : ℕ
  pub known : PartList
  pub done : History
  pub is : me ≡ (Member size (Reader reader) known done, [])
  pub may : MayRead size.lanes word done
  pub within : IsLaneWord size word

-- the seat is a lane's, its producer's path goes on with this store, and the word is a head, link or item of the pool
pub record CanStore (size : PoolSize) (word : Word) (value : ℕ) (me : SeatState) : Type 0 where
  pub lane : ℕ
  pub done : History
  pub is : me ≡ (Member size (Producer lane) [] done, [])
  pub path : IsLanePrefix size.cells lane (store lane word value ∷ done)
  pub within : IsLaneWord size word

-- the seat is a lane's, and its producer's path goes on with a fetch-add, whatever number that finds
pub record CanFetch (size : PoolSize) (item : ℕ) (me : SeatState) : Type 0 where
  pub lane : ℕ
  pub done : History
  pub is : me ≡ (Member size (Producer lane) [] done, [])
  pub path : (n : ℕ) → IsLanePrefix size.cells lane (fetch lane (record { cell = n; value = item }) ∷ done)
