-- The places and the notes of a consumer that has done nothing.
use Rattle.std.specs.Prelude.{ℕ, ◌≡◌, ◌≤◌, List, [], Some, length, slice_get}
use Rattle.mb_cells.specs.declared.cursor.Cursor.TheVariants.{Head}
use Rattle.mb_mailbox.specs.Imports.{Note}
use Rattle.mb_mailbox.specs.LaneNotes.{NotesView}
use Rattle.mb_world.specs.declared.place.Place.{Place}
use Rattle.mb_world.specs.declared.place.Place.TheVariants.{Before}

-- there are this many places, and place p is before the head of lane p
pub record AreHeads (lanes : ℕ) (places : List Place) : Type 0 where
  pub count : length places ≡ lanes
  pub each : (p : ℕ) (place : Place) → slice_get places p ≡ Some place → place ≡ Before (Head p)

-- there is no note on any of this many lanes, and room for at least `most` notes
pub record AreNoNotes (lanes most : ℕ) (notes : NotesView) : Type 0 where
  pub count : length notes.lists ≡ lanes
  pub empty : (p : ℕ) (list : List Note) → slice_get notes.lists p ≡ Some list → list ≡ []
  pub room : most ≤ notes.room
