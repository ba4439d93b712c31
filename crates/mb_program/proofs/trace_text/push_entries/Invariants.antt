-- Loop invariants of `push_entries`: it appends a line for each entry.
use Rattle.std.proofs.Common.{◌≡◌, ◌++◌, take, string_bytes}
use Rattle.std.specs.List.{flat_map}
use Rattle.mb_program.specs.TraceText.{entry_text}
use Rattle.mb_program.proofs.trace_text.push_entries.Given as goal

-- the lines of the entries so far are appended
abbrev pub invariant-loop-entry : goal.invariant-loop-entry
invariant-loop-entry g l =
    string_bytes l.text ≡ string_bytes l.fn.text ++ flat_map entry_text (take l.entry-index l.entries)
