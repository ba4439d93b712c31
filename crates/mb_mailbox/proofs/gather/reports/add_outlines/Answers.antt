-- Proof of `add_outlines`: adds the diaries of a consumer without the notes.
use Rattle.std.proofs.Common.{◌∙◌, arith}
use Rattle.std.specs.Prelude.{Option}
use Rattle.std.specs.Option.{option_map}
use Rattle.mb_world.specs.Theorem.{DiaryView}
use Rattle.mb_mailbox.specs.Hubs.{ConsumerRecordView}
use Rattle.mb_mailbox.proofs.Diaries.{outlines_more}
use Rattle.mb_mailbox.proofs.gather.reports.add_outlines.Goals as goal

-- the diary `made` by this pass of the loop is the outline of the consumer's diary on lane p
pub loop-p-preserved : goal.loop-p-preserved
loop-p-preserved g c =
    let kept : Option ConsumerRecordView = option_map (λ k. k.now) c.args.kept in
    let made : DiaryView = record {
      consumer = c.args.c;
      lane = c.loop-p.p;
      notes = c.in_ok-with_capacity.field-0.items;
      begun = c.has_begun.result;
    } in
    record {
      items = outlines_more c.args.c c.loop-p.p kept c.args.diaries.now.items c.loop-p.diaries.items
          c.push_reserved.new.self.items made c.push_reserved.ensures.items c.loop-p.invariant.items (λ j. record {
            consumer = c.args.c;
            lane = c.loop-p.p;
            notes = c.in_ok-with_capacity.ensures.items j;
            begun = c.has_begun.ensures j;
          });
      len = omega arith;
      room = c.push_reserved.ensures.capacity ∙ c.loop-p.invariant.room;
    }
