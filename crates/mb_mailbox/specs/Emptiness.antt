-- What a consumer that found nothing on a lane knows: at the moment of its last load it had met the whole lane.
use Rattle.std.specs.Prelude.{ℕ, ◌≡◌, ◌∷◌, ◌++◌, false}
use Rattle.mb_mailbox.specs.Imports.{History, IsPoolLawful, PoolAccess, Reader, cells_met, has_ended, linked_cells}
use Rattle.mb_mailbox.specs.Imports.{load, part, place_past}
use Rattle.mb_mailbox.specs.Consumers.{ConsumerView}

-- a load that found nothing, of the link of the last cell that the consumer met on lane p, or of the head if it met none
abbrev pub empty_load : ℕ → ConsumerView → PoolAccess
empty_load p s = load s.reader.reader (place_past p (cells_met p s.reader.part)) 0

-- From `old` to `new` the consumer made loads of cells and links, and the newest of them is such a load. At the moment
-- of that load the consumer had met all cells that were linked on lane p, and the lane had not ended. A history has
-- the accesses of all, the newest first. `later` are those after that load, and `before` those before it
pub record HasFoundEmpty (p : ℕ) (old new : ConsumerView) : Type 0 where
  -- the loads from `old` to `new`, but for the newest
  pub made : History
  pub newest : new.reader.part ≡ empty_load p new ∷ made ++ old.reader.part
  -- whatever lawful history there was in which the consumer made just these loads
  pub moment : (later before : History)
      → IsPoolLawful new.reader.table.size (later ++ empty_load p new ∷ before)
      → part (Reader new.reader.reader) before ≡ made ++ old.reader.part
      → (linked_cells p before ≡ cells_met p new.reader.part) × (has_ended p before ≡ false)
