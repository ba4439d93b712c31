-- Loop invariants of `read_all`, which reads to the end, but stops after the first byte past `MAX_SCRIPT_LEN`.
use Rattle.std.proofs.Common.{◌≡◌, ◌≤◌, ◌+◌, ◌-◌, length}
use Rattle.std.specs.Io.KnownBytes.{Consumes}
use Rattle.mb_script.specs.declared.transfer.TheConstants.{MAX_SCRIPT_LEN}
use Rattle.mb_script.specs.Devices.{CountGrows}
use Rattle.mb_script.proofs.transfer.read_all.Given as goal

-- the bytes so far are those that the reader gave and counted, at most one past the limit, and no read failed
abbrev pub invariant-loop-piece : goal.invariant-loop-piece
invariant-loop-piece g l = record {
  took : Consumes (g.R.CountedRead.left l.fn.reader) (g.R.CountedRead.left l.reader) l.text.items;
  limit : length l.text.items ≤ MAX_SCRIPT_LEN + 1;
  given : CountGrows (length l.text.items) (g.R.CountedRead.given l.fn.reader) (g.R.CountedRead.given l.reader);
  works : g.R.CountedRead.failures l.reader ≡ g.R.CountedRead.failures l.fn.reader;
}

-- each pass of the loop leaves less room up to one byte past the limit
abbrev pub decreases-loop-piece : goal.decreases-loop-piece
decreases-loop-piece g l = MAX_SCRIPT_LEN + 1 - length l.text.items
