-- The hub of a mailbox: what it issued, and what it has taken back.
use Rattle.std.specs.Prelude.{ℕ, ◌≡◌, ◌<◌, ◌≤◌, Bool, List, [], ◌∷◌, ◌++◌, Option, Some, None, length, slice_get, slice_set}
use Rattle.mb_cells.specs.Vocabulary.{Entry, fetch, new_lane}
use Rattle.mb_shared_cells.specs.Vocabulary.{CellHubView, empty_roll, roll_with_lane, roll_with_part, roll_with_reader}
use Rattle.mb_shared_claims.specs.Vocabulary.{HubView as ClaimHubView}
use Rattle.mb_world.specs.Reporting.{values_put}
use Rattle.mb_mailbox.specs.Imports.{ClaimAccess, ClaimTable, Fits, Has, History, Note, Parts, Producer, Reader}
use Rattle.mb_mailbox.specs.Imports.{TableSize, claims_at, claims_in, has_ended, linked_cells, name_of, part_on}
use Rattle.mb_mailbox.specs.Mailboxes.{MailboxView}
use Rattle.mb_mailbox.specs.Consumers.{ConsumerView, StandsOn}
use Rattle.mb_mailbox.specs.Producers.{ProducerView}
use Rattle.mb_world.specs.declared.place.Place.{Place}

-- what a hub records of a producer that was returned: its items, and whether it has ended its lane
pub record PutListView : Type 0 where
  pub items : List ℕ
  pub ended : Bool

-- what a hub records of a consumer that was returned: its place on each lane, and its notes there
pub record ConsumerRecordView : Type 0 where
  pub places : List Place
  pub notes : List (List Note)

-- the two parts of consumer c: its loads are `reads`, and its steps on cell k are its accesses of `done` to that cell
abbrev pub parts_by : ℕ → History → List ClaimAccess → Parts
parts_by c reads done = record { reads = reads; claimed = λ k. part_on c k done }

-- a hub: the hubs of both tables, the put lists of producers, and the records of consumers. Element n of a list belongs
-- to the producer or consumer of number n. It is `None` until that producer or consumer is returned
pub record HubView : Type 0 where
  pub cells : CellHubView
  pub claims : ClaimHubView
  pub puts : List (Option PutListView)
  pub records : List (Option ConsumerRecordView)

-- put list `l` has the items that part `done` of lane p's producer puts, and says whether this part ends the lane
pub record IsPutList (cells p : ℕ) (done : History) (l : PutListView) : Type 0 where
  pub items : l.items ≡ values_put p done
  pub ended : l.ended ≡ has_ended p done
  -- the producer has linked each cell that it got
  pub linked : (e : Entry) → Has done (fetch p e) → e.cell < cells
      → Has (linked_cells p done) e.cell

-- record `l` agrees with the two parts `reads` and `done` of consumer c, if there are `count` lanes. The two parts fit.
-- They determine the consumer's place on each lane and its notes there
pub record IsConsumerRecord
    (table : ClaimTable) (count c : ℕ) (reads : History) (done : List ClaimAccess) (l : ConsumerRecordView)
    : Type 0 where
  pub size : TableSize
  pub sized : table.size ≡ Some size
  pub fit : Fits (claims_in size.layout size.cells) c (parts_by c reads done)
  pub places_count : length l.places ≡ count
  pub notes_count : length l.notes ≡ count
  pub lanes : (p : ℕ) (place : Place) (notes : List Note) → slice_get l.places p ≡ Some place
      → slice_get l.notes p ≡ Some notes
      → StandsOn size.layout (claims_in size.layout size.cells) c p (parts_by c reads done)
      notes place

-- the hub of this mailbox that has issued no producer and no consumer
abbrev pub hub_empty : MailboxView → HubView
hub_empty m = record {
  cells = record { table = m.cells; roll = empty_roll };
  claims = record { table = name_of m.claims; roll = [] };
  puts = [];
  records = [];
}

-- this holds of each hub. A producer has the number of its lane. A consumer has one number, which its reader's seat and
-- its seat of the claims have too
pub record IsHub (h : HubView) : Type 0 where
  pub lanes : length h.puts ≡ length h.cells.roll.lanes
  pub readers : length h.records ≡ length h.cells.roll.readers
  pub seats : length h.records ≡ length h.claims.roll
  -- no more lanes were issued than the mailbox has, and no more consumers
  pub few_lanes : length h.puts ≤ h.cells.table.size.lanes
  pub few_consumers : length h.records ≤ (claims_at h.claims.table).table.values
  -- the part of a producer that was returned determines its put list. The two parts of a consumer that was returned
  -- determine its record
  pub put : (p : ℕ) (l : PutListView) → slice_get h.puts p ≡ Some (Some l)
      → (done : History) × (slice_get h.cells.roll.lanes p ≡ Some (Some done))
      × IsPutList h.cells.table.size.cells p done l
  pub taken : (c : ℕ) (l : ConsumerRecordView) → slice_get h.records c ≡ Some (Some l)
      → (reads : History) × (slice_get h.cells.roll.readers c ≡ Some (Some reads))
      × ((done : List ClaimAccess) × (slice_get h.claims.roll c ≡ Some (Some done))
      × IsConsumerRecord h.claims.table h.cells.table.size.lanes c reads done l)

-- the hub is one of this mailbox: both have the same tables
pub record IsHubOf (m : MailboxView) (h : HubView) : Type 0 where
  pub cells : h.cells.table ≡ m.cells
  pub claims : h.claims.table ≡ name_of m.claims

-- ---- what a hub issues
-- the producer of lane p, which has done nothing
abbrev pub new_producer : MailboxView → ℕ → ProducerView
new_producer m p = record {
  seat = record { table = m.cells; lane = p; place = new_lane; part = [] };
  items = [];
}

-- the hub after it has issued one more producer
abbrev pub with_producer : HubView → HubView
with_producer h = record h {
  cells = record { table = h.cells.table; roll = roll_with_lane h.cells.roll };
  puts = h.puts ++ None ∷ [];
}

-- the consumer has the hub's next number, and has done nothing. Its reader's seat knows the parts of the producers that
-- were returned to the hub before
pub record IsNewConsumer (m : MailboxView) (h : HubView) (s : ConsumerView) : Type 0 where
  pub reader : s.reader ≡ record {
    table = m.cells;
    reader = length h.records;
    known = h.cells.roll.lanes;
    part = [];
  }
  pub seat : s.seat ≡ record { table = name_of m.claims; consumer = length h.records; part = [] }
  pub notes : (p : ℕ) (notes : List Note) → slice_get s.notes p ≡ Some notes → notes ≡ []

-- the hub after it has issued one more consumer
abbrev pub with_consumer : HubView → HubView
with_consumer h = record h {
  cells = record { table = h.cells.table; roll = roll_with_reader h.cells.roll };
  claims = record { table = h.claims.table; roll = h.claims.roll ++ None ∷ [] };
  records = h.records ++ None ∷ [];
}

-- ---- what a hub takes back
-- what the hub records of this producer when it is returned
abbrev pub put_list_of : ProducerView → PutListView
put_list_of s = record { items = s.items; ended = has_ended s.seat.lane s.seat.part }

-- what the hub records of this consumer when it is returned
abbrev pub record_of : ConsumerView → ConsumerRecordView
record_of s = record { places = s.places; notes = s.notes }

-- the hub after it has taken back this producer
abbrev pub with_taken_producer : ProducerView → HubView → HubView
with_taken_producer s h = record h {
  cells = record {
    table = h.cells.table;
    roll = roll_with_part (Producer s.seat.lane) s.seat.part h.cells.roll;
  };
  puts = slice_set h.puts s.seat.lane (Some (put_list_of s));
}

-- the hub after it has taken back this consumer
abbrev pub with_taken_consumer : ConsumerView → HubView → HubView
with_taken_consumer s h = record h {
  cells = record {
    table = h.cells.table;
    roll = roll_with_part (Reader s.reader.reader) s.reader.part h.cells.roll;
  };
  claims = record {
    table = h.claims.table;
    roll = slice_set h.claims.roll s.seat.consumer (Some s.seat.part);
  };
  records = slice_set h.records s.seat.consumer (Some (record_of s));
}
