-- A producer of a mailbox: what its seat did, and the items that it put.
use Rattle.std.specs.Prelude.{ℕ, ◌≡◌, ◌+◌, ◌<◌, ◌≤◌, ◌++◌, ◌⊎◌, Bool, List, [], ◌∷◌, None}
use Rattle.mb_cells.specs.Vocabulary.{HasFoundNone, fetch, next_link, push_store, store}
use Rattle.mb_shared_cells.specs.Vocabulary.{LaneSeatView}
use Rattle.mb_world.specs.Reporting.{values_put}
use Rattle.mb_mailbox.specs.Imports.{END, Item, has_ended}
use Rattle.mb_mailbox.specs.Mailboxes.{MailboxView}

-- what proofs see of a producer: its seat, and the items that it put, the first put first
pub record ProducerView : Type 0 where
  pub seat : LaneSeatView
  pub items : List ℕ

-- this holds of each producer: its items are those that its part puts into the lane, and no item is pending, so each
-- cell that it got is linked
pub record IsProducer (s : ProducerView) : Type 0 where
  pub items : s.items ≡ values_put s.seat.lane s.seat.part
  pub idle : push_store s.seat.lane s.seat.place ≡ None

-- the producer is one of the mailbox
pub record IsProducerOf (m : MailboxView) (s : ProducerView) : Type 0 where
  pub table : s.seat.table ≡ m.cells

-- the producer has the same table and lane as before
pub record IsSameLane (old new : ProducerView) : Type 0 where
  pub table : new.seat.table ≡ old.seat.table
  pub lane : new.seat.lane ≡ old.seat.lane

-- whether the producer's lane has ended, by the producer's part
abbrev pub is_over : ProducerView → Bool
is_over s = has_ended s.seat.lane s.seat.part

-- a fetch-add of the producer found no cell
abbrev pub FoundNoCell : ProducerView → Type 0
FoundNoCell s = HasFoundNone s.seat.table.size.cells s.seat.lane s.seat.part

-- the producer put x into cell k: it made three accesses more, and has x at the end of its items
pub record IsPutInto (k x : ℕ) (old new : ProducerView) : Type 0 where
  pub same : IsSameLane old new
  pub within : k < old.seat.table.size.cells
  pub part : new.seat.part
      ≡ store old.seat.lane (next_link old.seat.lane old.seat.place) (k + 1)
      ∷ store old.seat.lane (Item k) x
      ∷ fetch old.seat.lane (record { cell = k; value = x }) ∷ old.seat.part
  pub items : new.items ≡ old.items ++ x ∷ []

-- the producer made a fetch-add for x, the first of its own that found no cell, and did nothing else
pub record IsFirstPastCells (x : ℕ) (old new : ProducerView) : Type 0 where
  pub first : FoundNoCell old → ⊥
  pub same : IsSameLane old new
  pub found : ℕ
  pub past : old.seat.table.size.cells ≤ found
  pub part : new.seat.part ≡ fetch old.seat.lane (record { cell = found; value = x }) ∷ old.seat.part
  pub items : new.items ≡ old.items

-- the producer did nothing at all, since a fetch-add of its own had found no cell before
pub record IsPastCells (old new : ProducerView) : Type 0 where
  pub before : FoundNoCell old
  pub same : new ≡ old

-- there was no cell for x
abbrev pub HasNoCellFor : ℕ → ProducerView → ProducerView → Type 0
HasNoCellFor x old new = IsFirstPastCells x old new ⊎ IsPastCells old new

-- the producer stored the end mark, and did nothing else
pub record IsEndOfLane (old new : ProducerView) : Type 0 where
  pub same : IsSameLane old new
  pub part : new.seat.part ≡ store old.seat.lane (next_link old.seat.lane old.seat.place) END ∷ old.seat.part
  pub items : new.items ≡ old.items
