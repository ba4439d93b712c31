-- Loop invariants of `read_on`, which reads a lane on from the bookmark, with at most `looks` looks.
use Rattle.std.proofs.Common.{◌≡◌}
use Rattle.mb_cells.specs.Vocabulary.{MayRead, word_of}
use Rattle.test_libraries.proofs.shared_cells.read_on.Given as goal

-- the seat is still at the table, and its reader may load the word at the bookmark's cursor
abbrev pub invariant-loop-turn : goal.invariant-loop-turn
invariant-loop-turn g l = record {
  table : l.seat.table ≡ l.table;
  may : MayRead l.table.size.lanes (word_of l.at.cursor) l.seat.part;
}
