-- What a run of workers makes of a hub.
use Rattle.std.specs.Prelude.{ℕ, suc, ◌≡◌, ◌+◌, ◌-◌, ◌^◌, ◌<◌, ◌≤◌, ◌⊎◌, ◌++◌, Bool, List, [], ◌∷◌, Some, Vec, false, length, map, min, slice_index_or, true}
use Rattle.std.specs.Int.{from_bool}
use Rattle.std.specs.List.{All, AllZip, sum_by}
use Rattle.mb_cells.specs.Vocabulary.{HasFoundNone}
use Rattle.mb_mailbox.specs.Imports.{ClaimAccess, END, HasLoaded, HasMet, History, consumer_count, place_past}
use Rattle.mb_mailbox.specs.Hubs.{HubView, ConsumerRecordView, PutListView}
use Rattle.mb_mailbox.specs.Jobs.{IsFront, IsOnLanes, IsStopBefore, IsStoppedPoll, count_marks, ends_met}
use Rattle.mb_mailbox.specs.Mailboxes.{MailboxView}
use Rattle.mb_mailbox.specs.Steps.{notes_on}
use Rattle.mb_mailbox.specs.declared.gate.Who.{Who}
use Rattle.mb_mailbox.specs.declared.gate.Who.TheVariants as who
use Rattle.mb_mailbox.specs.declared.crew.Worked.{Worked}

-- there are more lists than lanes not issued yet, or more sources than consumers not issued yet
abbrev pub AsksTooMany : MailboxView → ℕ → ℕ → HubView → Type 0
AsksTooMany m lists sources h =
    (m.cells.size.lanes - length h.puts < lists) ⊎ (consumer_count m.claims.layout - length h.records < sources)

-- what a producer of a run came to: the items that it put, its part, and whether it was stopped
pub record ProducerEnd : Type 0 where
  pub put : List ℕ
  pub part : History
  pub stopped : Bool

-- what a consumer of a run came to: the hub's record of it, its two parts, and whether it was stopped
pub record ConsumerEnd : Type 0 where
  pub kept : ConsumerRecordView
  pub reads : History
  pub claimed : List ClaimAccess
  pub stopped : Bool

-- what the hub records of a producer that has ended its lane
abbrev pub ended_list : ProducerEnd → PutListView
ended_list l = record { items = l.put; ended = true }

-- the elements of each of these vectors
abbrev pub lists_in : {Z : Type 0} → List (Vec ℕ Z) → List (List ℕ)
lists_in vs = map (λ v. v.items) vs

-- the hub issued a producer for each list and a consumer for each source, with the next numbers, and all were returned.
-- Each producer put a beginning of its list and ended its lane. What the hub has of earlier numbers is as it was
pub record IsRunOf (lists : List (List ℕ)) (sources : ℕ) (lanes : List ProducerEnd) (consumers : List ConsumerEnd)
    (old new : HubView) : Type 0 where
  pub puts : new.puts ≡ old.puts ++ map (λ l. Some (ended_list l)) lanes
  pub parts : new.cells.roll.lanes ≡ old.cells.roll.lanes ++ map (λ l. Some l.part) lanes
  pub fronts : AllZip (λ list l. IsFront l.put list) lists lanes
  pub records : new.records ≡ old.records ++ map (λ c. Some c.kept) consumers
  pub reads : new.cells.roll.readers ≡ old.cells.roll.readers ++ map (λ c. Some c.reads) consumers
  pub claimed : new.claims.roll ≡ old.claims.roll ++ map (λ c. Some c.claimed) consumers
  pub count : length consumers ≡ sources

-- a producer was issued for each list and a consumer for each source, and all of them were returned
pub record WereTakenIn (lists : List (List ℕ)) (sources : ℕ) (old new : HubView) : Type 0 where
  pub lanes : List ProducerEnd
  pub consumers : List ConsumerEnd
  pub run : IsRunOf lists sources lanes consumers old new

-- producers were issued only for a beginning of these lists, and consumers for at most this many sources. All that were
-- issued were returned. If there are lists or sources at all, fewer were issued than there are
pub record WereTakenInEarly (lists : List (List ℕ)) (sources : ℕ) (old new : HubView) : Type 0 where
  pub front : List (List ℕ)
  pub rest : List (List ℕ)
  pub whole : front ++ rest ≡ lists
  pub given : ℕ
  pub few : given ≤ sources
  pub fewer : 0 < length lists + sources → length front + given < length lists + sources
  pub taken : WereTakenIn front given old new

-- ---- items that were not put because no cell was left
-- how many items of its list a producer did not put because no cell was left. This is 0 if it was stopped
abbrev pub items_behind : Bool → List ℕ → List ℕ → ℕ
items_behind true list put = 0
items_behind false list put = length list - length put

-- how many items of their lists all producers together did not put, without the producers that were stopped
abbrev pub items_beyond : List (List ℕ) → List ProducerEnd → ℕ
items_beyond [] _ = 0
items_beyond _ [] = 0
items_beyond (list ∷ lists) (l ∷ ls) = items_behind l.stopped list l.put + items_beyond lists ls

-- these are the producers of the lanes from p on. If one was not stopped and put less than its list, a fetch-add of its
-- own found no cell
abbrev pub AreCutByCells : ℕ → ℕ → List (List ℕ) → List ProducerEnd → Type 0
AreCutByCells cells p [] [] = Unit {0}
AreCutByCells cells p (list ∷ lists) (l ∷ ls) =
    (l.stopped ≡ false → length l.put < length list → HasFoundNone cells p l.part)
    × AreCutByCells cells (suc p) lists ls
AreCutByCells cells p _ _ = ⊥

-- ---- notes on the items of a run
-- on each of these lanes, from p on, the consumer has as many notes as the lane's producer put items
abbrev pub HasNoteAtEach : ℕ → List ProducerEnd → ConsumerRecordView → Type 0
HasNoteAtEach p [] kept = Unit {0}
HasNoteAtEach p (l ∷ ls) kept = (length (notes_on p kept.notes) ≡ length l.put) × HasNoteAtEach (suc p) ls kept

-- ---- end marks that consumers loaded
-- consumer c has loaded the end mark of lane p, past cells of this lane that it met. By its path it met these cells
-- before it loaded the end mark
pub record HasMetEnd (c p : ℕ) (reads : History) : Type 0 where
  pub cells : List ℕ
  pub met : HasMet c p cells reads
  pub end : HasLoaded c (place_past p cells) END reads

-- some lanes are marked, perhaps none, each of them from `from` on and below `end`. Consumer c has loaded the end
-- mark of each. It has loaded as many end marks as lanes are marked. So it has loaded the end mark of each marked
-- lane once, and no other end mark: a cell is in one lane
pub record HasMetEnds (from end c : ℕ) (reads : History) : Type 0 where
  pub marks : List Bool
  pub within : (p : ℕ) → slice_index_or marks p false ≡ true → (from ≤ p) × (p < end)
  pub met : (p : ℕ) → slice_index_or marks p false ≡ true → HasMetEnd c p reads
  pub once : ends_met reads ≡ count_marks marks

-- each of these consumers, with the numbers from c on, has loaded the end marks of some lanes from `from` on and
-- below `end`: each once, and no other end mark
abbrev pub HaveMetEnds : ℕ → ℕ → ℕ → List ConsumerEnd → Type 0
HaveMetEnds from end c [] = Unit {0}
HaveMetEnds from end c (l ∷ ls) = HasMetEnds from end c l.reads × HaveMetEnds from end (suc c) ls

-- ---- who was stopped
-- the producer of lane p was stopped before the call that was to put the next item of its list. Each of its
-- fetch-adds found a cell
pub record IsStoppedPut (may_stop : Who → ℕ → Type 0) (cells p : ℕ) (list : List ℕ) (l : ProducerEnd) : Type 0 where
  pub short : length l.put < length list
  pub had_cells : HasFoundNone cells p l.part → ⊥
  pub stop : IsStopBefore may_stop (who.Producer p) (suc (length l.put))

-- these are the producers of the lanes from p on. Each that was stopped was stopped before the put of its list's next
-- item, and each of its fetch-adds found a cell
abbrev pub AreStoppedPuts : (Who → ℕ → Type 0) → ℕ → ℕ → List (List ℕ) → List ProducerEnd → Type 0
AreStoppedPuts may_stop cells p [] [] = Unit {0}
AreStoppedPuts may_stop cells p (list ∷ lists) (l ∷ ls) =
    (l.stopped ≡ true → IsStoppedPut may_stop cells p list l) × AreStoppedPuts may_stop cells (suc p) lists ls
AreStoppedPuts may_stop cells p _ _ = ⊥

-- each consumer from number c on that was stopped was stopped before a call. It has made at least as many accesses as
-- it had calls before that one, and at most the budget times as many
abbrev pub AreStoppedPolls : (Who → ℕ → Type 0) → ℕ → ℕ → List ConsumerEnd → Type 0
AreStoppedPolls may_stop budget c [] = Unit {0}
AreStoppedPolls may_stop budget c (l ∷ ls) =
    (l.stopped ≡ true → IsStoppedPoll may_stop budget c (length l.reads + length l.claimed))
    × AreStoppedPolls may_stop budget (suc c) ls

-- ---- the whole of a run
-- a run came to its end: all that were issued were returned, and `w` has the counts. `may_stop` says before which calls
-- the gate may stop which worker. A poll makes at most `budget` accesses
pub record IsWorked (may_stop : Who → ℕ → Type 0) (budget : ℕ) (lists : List (List ℕ)) (sources : ℕ)
    (w : Worked) (old new : HubView)
    : Type 0 where
  pub lanes : List ProducerEnd
  pub consumers : List ConsumerEnd
  pub run : IsRunOf lists sources lanes consumers old new
  -- `stopped` counts the workers that were stopped. Each was stopped before a call at which the gate may stop it, or
  -- before call 2^64 - 1
  pub stopped : w.stopped ≡ sum_by (λ l. from_bool l.stopped) lanes + sum_by (λ c. from_bool c.stopped) consumers
  pub stopped_puts : AreStoppedPuts may_stop new.cells.table.size.cells (length old.puts) lists lanes
  pub stopped_polls : AreStoppedPolls may_stop budget (length old.records) consumers
  -- A consumer that was not stopped has loaded as many end marks as lanes were issued in this run. One that was
  -- stopped has loaded fewer
  pub ends : All (λ c. c.stopped ≡ false → ends_met c.reads ≡ length lists) consumers
  pub unread : All (λ c. c.stopped ≡ true → ends_met c.reads < length lists) consumers
  -- Each consumer, stopped or not, has loaded the end marks of none, some or all of these lanes, and no more end
  -- marks. It loaded each past the cells of the lane that it met
  pub met : HaveMetEnds (length old.puts) (length old.puts + length lists) (length old.records) consumers
  -- No consumer has loaded the head of a lane that was not issued in this run
  pub only : All (λ c. IsOnLanes (length old.puts) (length old.puts + length lists) c.reads) consumers
  -- `full` counts the items that the producers that were not stopped did not put, up to 2^64 - 1
  pub full : w.full ≡ min (2 ^ 64 - 1) (items_beyond lists lanes)
  -- If a producer that was not stopped put less than its list, a fetch-add of its own found no cell
  pub cut : AreCutByCells new.cells.table.size.cells (length old.puts) lists lanes
  -- Each consumer that was not stopped has a note on each item of the lanes issued in this run
  pub noted : All (λ c. c.stopped ≡ false → HasNoteAtEach (length old.puts) lanes c.kept) consumers
