-- Loop invariants of `push_diaries`, which appends a line for each diary.
use Rattle.std.proofs.Common.{◌≡◌, ◌++◌, take, string_bytes}
use Rattle.std.specs.List.{flat_map}
use Rattle.mb_script.specs.ReportText.{diary_text}
use Rattle.mb_script.proofs.report_lines.push_diaries.Given as goal

-- the lines of the diaries so far are appended
abbrev pub invariant-loop-diary : goal.invariant-loop-diary
invariant-loop-diary g l =
    string_bytes l.text ≡ string_bytes l.fn.text ++ flat_map diary_text (take l.diary-index l.diaries)
