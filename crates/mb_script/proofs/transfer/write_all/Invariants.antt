-- Loop invariants of `write_all`, which writes the whole text.
use Rattle.std.proofs.Common.{◌≡◌, ◌≤◌, ◌-◌, length, take}
use Rattle.std.specs.Io.KnownBytes.{Appends}
use Rattle.mb_script.proofs.transfer.write_all.Given as goal

-- the first `at` bytes of the text are written, and no write failed
abbrev pub invariant-loop-at : goal.invariant-loop-at
invariant-loop-at g l = record {
  within : l.at ≤ length l.text;
  held : Appends (g.W.CountedWrite.held l.fn.writer) (g.W.CountedWrite.held l.writer) (take l.at l.text);
  works : g.W.CountedWrite.failures l.writer ≡ g.W.CountedWrite.failures l.fn.writer;
}

-- each pass of the loop leaves less of the text
abbrev pub decreases-loop-at : goal.decreases-loop-at
decreases-loop-at g l = length l.text - l.at
