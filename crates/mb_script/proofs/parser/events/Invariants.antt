-- Loop invariants of `events`, which returns the events of the lines after the first, or the first fault of these.
use Rattle.std.proofs.Common.{◌≡◌, ◌+◌, ◌≤◌, length}
use denote.Text.{Utf8}
use denote.Shadow.{shadow}
use Rattle.mb_world.specs.Setups.{plan_in}
use Rattle.mb_script.specs.Text.{lines_of}
use Rattle.mb_script.specs.declared.script.TheConstants.{MAX_EVENTS}
use Rattle.mb_script.specs.Scripts.{events_of}
use Rattle.mb_script.proofs.Lined.{onto}
use Rattle.mb_script.proofs.parser.events.Given as goal

-- the events read so far, at most `MAX_EVENTS`, and then those of the lines left, are the events of all lines
abbrev pub invariant-loop-line : goal.invariant-loop-line
invariant-loop-line g l = record {
  text : shadow (Utf8 l.rest);
  few : length l.events.items ≤ MAX_EVENTS;
  read : onto l.events.items (events_of (plan_in l.fn.setup) (length l.events.items + 2) (lines_of l.rest))
      ≡ events_of (plan_in l.fn.setup) 2 (lines_of l.fn.text);
}

-- each pass of the loop leaves less of the text
abbrev pub decreases-loop-line : goal.decreases-loop-line
decreases-loop-line g l = length l.rest
