-- What C reads of a report.
use Rattle.std.specs.Prelude.{◌≡◌, ◌*◌, ◌<◌, ℕ, Bool, true, false, List, length}
use Rattle.mb_world.specs.Theorem.{LaneView, ReportView}
use Rattle.mb_world.specs.declared.report.Note.{Note}
use Rattle.mb_world.specs.declared.report.Note.TheVariants as note
use Rattle.hazbultra.specs.declared.boundary.NoteOut.{NoteOut}

-- the report has lanes, and the number of its diaries is this number of consumers times the number of lanes
pub record HasConsumers (consumers : ℕ) (r : ReportView) : Type 0 where
  pub some : 0 < length r.lanes
  pub diaries : length r.diaries ≡ consumers * length r.lanes

-- the items of a lane that C asks for: with true those left, with false those put
abbrev pub items_asked : Bool → LaneView → List ℕ
items_asked true l = l.left
items_asked false l = l.put

-- a note as C has it: its kind, and the item taken, the consumer to which it is lost, or 0 if undecided
abbrev pub note_out : Note → NoteOut
note_out (note.Took x) = record { value = x; kind = 1 }
note_out (note.Lost w) = record { value = w; kind = 2 }
note_out note.Undecided = record { value = 0; kind = 3 }
