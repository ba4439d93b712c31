-- What the view of a seat has, and how each step of the table changes it.
use Rattle.std.specs.Prelude.{List, None, Option, Some, [], length, slice_get, slice_set, ℕ, ◌++◌, ◌∷◌, ◌≡◌}
use Rattle.atomic_table.specs.Table.{Me, Step}
use Rattle.mb_cells.specs.Vocabulary.{History, IsMemoryOf, IsPoolLawful, ProcessFits, part}
use Rattle.mb_cells.specs.declared.access.PoolAccess.{PoolAccess}
use Rattle.mb_cells.specs.declared.access.PoolAct.{PoolAct}
use Rattle.mb_cells.specs.declared.access.Process.{Process}
use Rattle.mb_cells.specs.declared.access.Process.TheVariants.{Producer, Reader}
use Rattle.mb_cells.specs.declared.access.Word.{Word}
use Rattle.mb_cells.specs.declared.size.PoolSize.{PoolSize}
use Rattle.mb_shared_cells.specs.declared.views.Roll.{Roll}
use Rattle.mb_shared_cells.specs.declared.views.View.{View}
use Rattle.mb_shared_cells.specs.declared.views.View.TheVariants.{Empty, Hub, HubDraws, HubJoins, Member}

-- ---- a seat, and the hub's roll of parts
-- for each number issued the part of its process, or None if its seat was not returned
abbrev pub PartList : Type 0
PartList = List (Option History)

-- a seat: its view, and the slots that it holds, which are none
abbrev pub SeatState : Type 0
SeatState = Me (Unit {0}) View

-- the roll of a hub that has issued nobody
abbrev pub empty_roll : Roll
empty_roll = record { lanes = []; readers = [] }

-- the view of the hub of a new table
abbrev pub first_view : PoolSize → View
first_view size = Hub size empty_roll

-- what the roll has of a process: None if it was not issued, Some None if its seat was not returned, else its part
abbrev pub roll_at : Process → Roll → Option (Option History)
roll_at (Producer p) roll = slice_get roll.lanes p
roll_at (Reader r) roll = slice_get roll.readers r

-- the roll with one lane more, whose seat is not returned
abbrev pub roll_with_lane : Roll → Roll
roll_with_lane roll = record roll { lanes = roll.lanes ++ None ∷ [] }

-- the roll with one reader more, whose seat is not returned
abbrev pub roll_with_reader : Roll → Roll
roll_with_reader roll = record roll { readers = roll.readers ++ None ∷ [] }

-- the roll with the part of a process put at its number
abbrev pub roll_with_part : Process → History → Roll → Roll
roll_with_part (Producer p) done roll = record roll { lanes = slice_set roll.lanes p (Some done) }
roll_with_part (Reader r) done roll = record roll { readers = slice_set roll.readers r (Some done) }

-- ---- one access
-- the access of this process, with this word and act
abbrev pub access_by : Process → Word → PoolAct → PoolAccess
access_by who word act = record { process = who; word = word; act = act }

-- in the history, each lane of which the list has a part did just that part
abbrev pub KnowsLanes : PartList → History → Type 0
KnowsLanes known h =
    (p : ℕ) (theirs : History) → slice_get known p ≡ Some (Some theirs) → part (Producer p) h ≡ theirs

-- the access came next after a lawful history, which stays lawful with it. In that history its process had done this
-- part, and each lane of which `known` has a part had done just that part
pub record IsAccessAfter (size : PoolSize) (known : PartList) (a : PoolAccess) (done : History) : Type 0 where
  pub older : History
  pub lawful : IsPoolLawful size (a ∷ older)
  pub own : part a.process older ≡ done
  pub lanes : KnowsLanes known older

-- the access may come next on these words, if its process has done this part: each history that leaves the words,
-- with just this part of the process, stays lawful with it. If a producer makes it, it needs a lane of the pool
abbrev pub MayComeNext : PoolSize → List ℕ → PoolAccess → History → Type 0
MayComeNext size words a done =
    (h : History) → IsMemoryOf size words h → part a.process h ≡ done
    → ProcessFits size.lanes a.process → IsPoolLawful size (a ∷ h)

-- the history is lawful and has the parts that were returned. A process whose number was not issued did nothing
pub record IsRollOf (size : PoolSize) (roll : Roll) (h : History) : Type 0 where
  pub lawful : IsPoolLawful size h
  pub parts : (who : Process) (done : History) → roll_at who roll ≡ Some (Some done) → part who h ≡ done
  pub others : (who : Process) → roll_at who roll ≡ None → part who h ≡ []

-- the view of a seat after an access: a lane's or a reader's part has the access then
abbrev pub view_after : Word → PoolAct → View → View
view_after word act (Hub size roll) = Hub size roll
view_after word act (HubDraws size roll) = HubDraws size roll
view_after word act (HubJoins size roll who done) = HubJoins size roll who done
view_after word act (Member size who known done) = Member size who known (access_by who word act ∷ done)
view_after word act Empty = Empty

-- if the view is of a lane's or reader's seat, the access came after the part in it. Other views ask nothing
abbrev pub CameAfter : Word → PoolAct → View → Type 0
CameAfter word act (Hub size roll) = Unit {0}
CameAfter word act (HubDraws size roll) = Unit {0}
CameAfter word act (HubJoins size roll who done) = Unit {0}
CameAfter word act (Member size who known done) = IsAccessAfter size known (access_by who word act) done
CameAfter word act Empty = Unit {0}

-- the clause of an access's step: the access came after the part in the seat's view, and the part then has the access
abbrev pub MakesAccess : Word → PoolAct → SeatState → SeatState → Type 0
MakesAccess word act v w = CameAfter word act v.0 × (w ≡ (view_after word act v.0, v.1))

-- ---- how a seat is issued, and returned
-- the view of the hub after it has drawn the next lane's number
abbrev pub hub_after_draw : View → View
hub_after_draw (Hub size roll) = HubDraws size roll
hub_after_draw (HubDraws size roll) = HubDraws size roll
hub_after_draw (HubJoins size roll who done) = HubJoins size roll who done
hub_after_draw (Member size who known done) = Member size who known done
hub_after_draw Empty = Empty

-- the clause of the step on the roster: the hub's view then says that a number was drawn
abbrev pub DrawsNumber : Step (Unit {0}) → SeatState → ℕ → SeatState → Type 0
DrawsNumber s v found w = w ≡ (hub_after_draw v.0, v.1)

-- the view of the hub after a seat was split off: a lane's if its number was drawn, else a reader's
abbrev pub hub_after_split : View → View
hub_after_split (Hub size roll) = Hub size (roll_with_reader roll)
hub_after_split (HubDraws size roll) = Hub size (roll_with_lane roll)
hub_after_split (HubJoins size roll who done) = HubJoins size roll who done
hub_after_split (Member size who known done) = Member size who known done
hub_after_split Empty = Empty

-- the view of the seat that was split off. A reader's has the parts of the lanes that the hub has taken back
abbrev pub newcomer : View → View
newcomer (Hub size roll) = Member size (Reader (length roll.readers)) roll.lanes []
newcomer (HubDraws size roll) = Member size (Producer (length roll.lanes)) [] []
newcomer (HubJoins size roll who done) = Empty
newcomer (Member size who known done) = Empty
newcomer Empty = Empty

-- the view of a hub of this size and roll after a seat was joined to it. A lane's or reader's part is beside the roll
abbrev pub hub_beside : PoolSize → Roll → View → View
hub_beside size roll (Hub other rest) = Hub size roll
hub_beside size roll (HubDraws other rest) = Hub size roll
hub_beside size roll (HubJoins other rest who done) = Hub size roll
hub_beside size roll (Member other who known done) = HubJoins size roll who done
hub_beside size roll Empty = Hub size roll

-- the view of the hub after a seat was joined to it, whose part then is beside the roll
abbrev pub hub_after_join : View → View → View
hub_after_join (Hub size roll) w = hub_beside size roll w
hub_after_join (HubDraws size roll) w = HubDraws size roll
hub_after_join (HubJoins size roll who done) w = HubJoins size roll who done
hub_after_join (Member size who known done) w = Member size who known done
hub_after_join Empty w = Empty

-- the view of the hub after the load that follows a join: the part beside the roll is now in the roll
abbrev pub hub_after_load : View → View
hub_after_load (Hub size roll) = Hub size roll
hub_after_load (HubDraws size roll) = HubDraws size roll
hub_after_load (HubJoins size roll who done) = Hub size (roll_with_part who done roll)
hub_after_load (Member size who known done) = Member size who known done
hub_after_load Empty = Empty

-- if a seat was joined to the hub, it was not returned before, and one lawful history has its part and the roll's parts
abbrev pub WasOut : View → Type 0
WasOut (Hub size roll) = Unit {0}
WasOut (HubDraws size roll) = Unit {0}
WasOut (HubJoins size roll who done) =
    (roll_at who roll ≡ Some None) × ((h : History) × IsRollOf size (roll_with_part who done roll) h)
WasOut (Member size who known done) = Unit {0}
WasOut Empty = Unit {0}

-- the clause of the load after a join: the seat was not returned before, and the hub's roll then has its part
abbrev pub TakesPart : Step (Unit {0}) → SeatState → ℕ → SeatState → Type 0
TakesPart s v found w = WasOut v.0 × (w ≡ (hub_after_load v.0, v.1))
