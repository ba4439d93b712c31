use Rattle.mb_mailbox.specs.Begun.{Keeps}
use Rattle.mb_mailbox.proofs.Loops.{left_more, room_still}
use Rattle.mb_mailbox.proofs.Zips.{next_seen, zip_more}
use Rattle.mb_mailbox.proofs.crew.join.join_all.Goals as goal

pub loop-one-preserved : goal.loop-one-preserved
loop-one-preserved g c = record {
  rest = next_seen _ _ _ _ _ c.loop-one.invariant.rest c.in-Some.ensures.steps.0;
  left = left_more _ _ _ _ _ c.loop-one.invariant.left c.push_reserved.ensures.len
      c.in-Some.ensures.steps.1;
  room = room_still _ _ _ c.loop-one.invariant.room c.push_reserved.ensures.capacity;
  kept = rw c.push_reserved.ensures.items
      (zip_more (Keeps g.P.Promise.kept_by) c.loop-one.yielded
      c.loop-one.done.items c.in-Some.one c.join.result c.loop-one.invariant.kept
      c.join.ensures);
}
