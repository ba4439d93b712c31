-- Proof of `laws::three_calls_put_an_item`: an offer that got a cell and the two pushes after it make three accesses,
-- which put the item at the end of the lane's list.
use Rattle.std.proofs.Common.{ap}
use Rattle.mb_cells.specs.Vocabulary.{push_store}
use Rattle.mb_shared_cells.specs.Shown.{LaneSeatView}
use Rattle.mb_shared_cells.proofs.PutMoves.{PutLaws, item_put, three_calls}
use Rattle.mb_shared_cells.proofs.laws.three_calls_put_an_item.Goals as goal

pub returns-clause-part : goal.returns-clause-part
returns-clause-part c = λ old offered stored new x k one two a b d.
    ap (λ (v : LaneSeatView). v.part) (three_calls old offered stored new x k one two a b d).is

-- by the laws of `mb_cells` the link store puts the item, and the two accesses before put nothing
pub returns-clause-put : goal.returns-clause-put
returns-clause-put c = λ old offered stored new x k one two a b d.
    let laws : PutLaws = record {
      own = c.accesses_lengthen_one_part.ensures.own;
      older = c.history_extends.ensures.older;
      told = c.parts_tell_lanes.ensures.put;
      link = c.put_lists_grow.ensures.link;
      fetched = c.put_lists_grow.ensures.fetch;
      item = c.put_lists_grow.ensures.item;
      end = c.put_lists_grow.ensures.end;
    } in
    item_put laws old new x k one two (three_calls old offered stored new x k one two a b d)

pub returns-clause-answers : goal.returns-clause-answers
returns-clause-answers c = λ old offered stored new x k one two a b d.
    let t = three_calls old offered stored new x k one two a b d in
    (t.first, t.second)

pub returns-clause-idle : goal.returns-clause-idle
returns-clause-idle c = λ old offered stored new x k one two a b d.
    ap (λ (v : LaneSeatView). push_store v.lane v.place) (three_calls old offered stored new x k one two a b d).is
