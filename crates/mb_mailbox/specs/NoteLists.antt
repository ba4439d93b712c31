-- The room for a consumer's notes, and the notes after one more was added.
use Rattle.std.specs.Prelude.{ℕ, ◌≡◌, ◌<◌, ◌≤◌, Option, length, sum_by}
use Rattle.mb_mailbox.specs.Imports.{Note}
use Rattle.mb_mailbox.specs.LaneNotes.{NotesView}
use Rattle.mb_mailbox.specs.Steps.{with_note}

-- lane p is a lane of these notes, and there is room for one more note
pub record HasRoom (p : ℕ) (notes : NotesView) : Type 0 where
  pub lane : p < length notes.lists
  pub room : sum_by length notes.lists < notes.room

-- there is room for as many notes as there are cells, on all lanes together
abbrev pub HasAllRoom : ℕ → NotesView → Type 0
HasAllRoom cells notes = cells ≤ notes.room

-- if `note` has a note, lane p has it at its end. Nothing else changed, and the room is as before
pub record NotesGrow (p : ℕ) (note : Option Note) (old new : NotesView) : Type 0 where
  pub lists : new.lists ≡ with_note p note old.lists
  pub room : new.room ≡ old.room
