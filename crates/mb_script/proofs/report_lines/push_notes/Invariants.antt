-- Loop invariants of `push_notes`, which appends notes, each after a space.
use Rattle.std.proofs.Common.{◌≡◌, ◌++◌, take, string_bytes}
use Rattle.std.specs.List.{flat_map}
use Rattle.mb_script.specs.ReportText.{note_text}
use Rattle.mb_script.proofs.report_lines.push_notes.Given as goal

-- the notes so far are appended
abbrev pub invariant-loop-note : goal.invariant-loop-note
invariant-loop-note g l =
    string_bytes l.text ≡ string_bytes l.fn.text ++ flat_map note_text (take l.note-index l.notes)
