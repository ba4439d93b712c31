-- Loop invariants of `push_items`, which appends items, each after a space.
use Rattle.std.proofs.Common.{◌≡◌, ◌++◌, take, string_bytes}
use Rattle.mb_script.specs.ReportText.{items_text}
use Rattle.mb_script.proofs.report_lines.push_items.Given as goal

-- the items so far are appended
abbrev pub invariant-loop-item : goal.invariant-loop-item
invariant-loop-item g l =
    string_bytes l.text ≡ string_bytes l.fn.text ++ items_text (take l.item-index l.items)
