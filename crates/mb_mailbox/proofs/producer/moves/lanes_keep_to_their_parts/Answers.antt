use Rattle.mb_mailbox.proofs.producer.moves.lanes_keep_to_their_parts.Goals as goal

pub returns : goal.returns
returns c = record {
  few = c.cells_stand_once.ensures.put;
  put = c.parts_tell_lanes.ensures.put;
  ended = c.parts_tell_lanes.ensures.ended;
  own = c.accesses_lengthen_one_part.ensures.own;
  older = c.history_extends.ensures.older;
  all = c.parts_have_accesses.ensures.all;
  only = c.parts_have_accesses.ensures.only;
  link = c.put_lists_grow.ensures.link;
  fetched = c.put_lists_grow.ensures.fetch;
  item = c.put_lists_grow.ensures.item;
  end = c.put_lists_grow.ensures.end;
  closed = c.lanes_refuse_by_what_was_done.ensures.closed;
  full = c.lanes_refuse_by_what_was_done.ensures.full;
  over = c.lanes_refuse_by_what_was_done.ensures.finish_closed;
}
