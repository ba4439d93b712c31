-- Proof of `laws::known_lanes_are_read_whole`: on a lane that was returned before a reader was issued, the reader finds
-- nothing, or the end mark, only past all cells, and no cell but the next.
use Rattle.std.proofs.Common.{sym}
use Rattle.mb_cells.specs.Vocabulary.{word_of}
use Rattle.mb_shared_cells.proofs.KnownLanes.{ReadLaws, cell_found, end_found, found, nothing_found}
use Rattle.mb_shared_cells.proofs.laws.known_lanes_are_read_whole.Goals as goal

-- the laws of `mb_cells` that say what the load can find past the cells met
laws : goal.After-words_lead_through_lanes → ReadLaws
laws c =
    record {
      older = c.history_extends.ensures.older;
      start = c.readers_follow_lanes.ensures.part;
      next = c.words_lead_through_lanes.ensures.next;
      end = c.words_lead_through_lanes.ensures.end;
      linked = c.parts_tell_lanes.ensures.linked;
      ended = c.parts_tell_lanes.ensures.ended;
      within = c.cells_stand_once.ensures.within;
    }

pub returns-clause-nothing : goal.returns-clause-nothing
returns-clause-nothing c = λ old new at p theirs ks known met is made.
    nothing_found p theirs ks made.0 (c.looks_tell_links.ensures.nothing made.0 (sym made.1))
    (found (laws c) old.table.size old.reader p old.known old.part theirs ks (word_of at) made.0 is made.2.0 known met)

pub returns-clause-ended : goal.returns-clause-ended
returns-clause-ended c = λ old new at p theirs ks known met is made.
    end_found p theirs ks made.0 (c.looks_tell_links.ensures.ended made.0 (sym made.1))
    (found (laws c) old.table.size old.reader p old.known old.part theirs ks (word_of at) made.0 is made.2.0 known met)

pub returns-clause-cell : goal.returns-clause-cell
returns-clause-cell c = λ old new at p k theirs ks known met is made.
    let cell = c.looks_tell_links.ensures.cell made.0 k (sym made.1) in
    cell_found p theirs ks made.0 k cell.0 cell.1
    (found (laws c) old.table.size old.reader p old.known old.part theirs ks (word_of at) made.0 is made.2.0 known met)
