-- Proof of `laws::full_offers_and_end_marks_put_nothing`: an offer that returns Full puts nothing, and neither does the
-- end mark.
use Rattle.mb_shared_cells.proofs.PutMoves.{PutLaws, end_puts, full_found, full_puts}
use Rattle.mb_shared_cells.proofs.laws.full_offers_and_end_marks_put_nothing.Goals as goal

-- the laws of `mb_cells` that the lemmas of `PutMoves` take
laws : goal.After-put_lists_grow → PutLaws
laws c =
    record {
      own = c.accesses_lengthen_one_part.ensures.own;
      older = c.history_extends.ensures.older;
      told = c.parts_tell_lanes.ensures.put;
      link = c.put_lists_grow.ensures.link;
      fetched = c.put_lists_grow.ensures.fetch;
      item = c.put_lists_grow.ensures.item;
      end = c.put_lists_grow.ensures.end;
    }

pub returns-clause-full : goal.returns-clause-full
returns-clause-full c = λ old new x made. full_puts (laws c) old new x made

pub returns-clause-found : goal.returns-clause-found
returns-clause-found c = full_found

pub returns-clause-ended : goal.returns-clause-ended
returns-clause-ended c = λ old new made. end_puts (laws c) old new made
