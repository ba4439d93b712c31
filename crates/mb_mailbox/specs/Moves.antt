-- A consumer before an access: its place, loads and claim. And what it has loaded, and what it is, after the access.
use Rattle.std.specs.Prelude.{ℕ, ◌≡◌, List, ◌∷◌, Option, Some, slice_get, slice_set}
use Rattle.mb_shared_cells.specs.Vocabulary.{HasHistory}
use Rattle.mb_mailbox.specs.Imports.{Claim, ClaimAccess, History, IsClaimIn, Item, Note}
use Rattle.mb_mailbox.specs.Imports.{ObjectTurn, Reader, TableSize, load, word_of, Cursor}
use Rattle.mb_mailbox.specs.Consumers.{ConsumerView}
use Rattle.mb_mailbox.specs.Steps.{with_note}
use Rattle.mb_world.specs.declared.place.Place.{Place}

-- the consumer stands at this place on lane p
abbrev pub HasPlace : ℕ → Place → ConsumerView → Type 0
HasPlace p place s = slice_get s.places p ≡ Some place

-- in some lawful history of the cells, the consumer's loads are its reader's part
abbrev pub HasLoads : ConsumerView → Type 0
HasLoads s = HasHistory s.reader.table.size (Reader s.reader.reader) s.reader.part

-- the claim has made these turns, on the layout of the consumer's table
abbrev pub HasTurns : ConsumerView → Claim → List ObjectTurn → Type 0
HasTurns s claim xs =
    (size : TableSize) → s.seat.table.size ≡ Some size → IsClaimIn size.layout claim xs

-- consumer `s`, but with these two parts, at this place on lane p, and with `note` added there, unless it is `None`
abbrev pub moved_to : ℕ → Place → Option Note → History → List ClaimAccess → ConsumerView
    → ConsumerView
moved_to p place note reads made s = record {
  reader = record s.reader { part = reads };
  seat = record s.seat { part = made };
  places = slice_set s.places p place;
  notes = with_note p note s.notes;
}

-- the consumer's loads, and then a load of the link at this cursor, which found v
abbrev pub reads_with_link : ConsumerView → Cursor → ℕ → History
reads_with_link s at v = load s.reader.reader (word_of at) v ∷ s.reader.part

-- the consumer's loads, and then a load of the item of cell k, which found v
abbrev pub reads_with_item : ConsumerView → ℕ → ℕ → History
reads_with_item s k v = load s.reader.reader (Item k) v ∷ s.reader.part
