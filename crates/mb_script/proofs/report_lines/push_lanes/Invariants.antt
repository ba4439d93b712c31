-- Loop invariants of `push_lanes`, which appends two lines for each lane, from lane 0 on.
use Rattle.std.proofs.Common.{◌≡◌, ◌++◌, drop, string_bytes}
use Rattle.mb_script.specs.ReportText.{lanes_text}
use Rattle.mb_script.proofs.report_lines.push_lanes.Given as goal

-- the text now, with the lines of the lanes from p on, is the text at first, with the lines of all lanes
abbrev pub invariant-loop-p : goal.invariant-loop-p
invariant-loop-p g l =
    string_bytes l.text ++ lanes_text l.p (drop l.p l.lanes)
    ≡ string_bytes l.fn.text ++ lanes_text 0 l.lanes
