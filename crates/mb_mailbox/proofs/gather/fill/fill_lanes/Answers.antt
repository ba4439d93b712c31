use Rattle.std.proofs.Common.{◌≡◌, ◌+◌, ◌∙◌, [], ap, arith, length, subst}
use Rattle.std.proofs.lemmas.Grind.{common_steps}
use Rattle.std.proofs.lemmas.List.{length_push, nil_from_length}
use Rattle.mb_mailbox.specs.Filling.{changed_from, with_items}
use Rattle.mb_mailbox.proofs.Filled.{turned}
use Rattle.mb_mailbox.proofs.gather.fill.fill_lanes.Goals as goal

-- `new` has the put lists without the last, whose items are moved in by this pass of the loop
pub loop-kept-preserved : goal.loop-kept-preserved
loop-kept-preserved g c =
    let new = c.pop.new.self.items in
    let room = c.loop-kept.invariant.room in
    let more : length c.loop-kept.puts.items ≡ length new + 1 =
    ap length c.in-Some.ensures.items ∙ length_push new c.in-Some.kept in
    let p = c.len-p.ensures in
    record {
      room = grind (arith, common_steps, more, room);
      same = turned with_items 0 new c.loop-kept.puts.items c.in-Some.kept c.loop-kept.lanes.items _
          c.len-p.result c.index_mut.result.now c.fill_lane.new.lane c.in-Some.ensures.items
          (omega (arith, p)) (omega (arith, p, more, room)) c.index_mut.ensures.value c.fill_lane.ensures
          c.loop-kept.invariant.same;
    }

pub returns : goal.returns
returns g c =
    let left : c.loop-kept.puts.items ≡ [] = nil_from_length _
    (let none = c.in_default.ensures.cases in let len = c.loop-kept.puts.ok.0 in omega (arith, none, len)) in
    subst (λ ys. changed_from with_items 0 ys c.loop-kept.lanes.items
    ≡ changed_from with_items 0 c.args.puts.items c.args.lanes.now.items) left c.loop-kept.invariant.same
