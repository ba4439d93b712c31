use Rattle.std.proofs.Common.{◌≡◌, ◌<◌, ◌≤◌, ℕ, suc, List, ap, arith, length, length-take, subst, sym, take, ◌∙◌}
use Rattle.mb_mailbox.specs.Calls.{ArePassed}
use Rattle.mb_mailbox.specs.Jobs.{IsFront, IsStopBefore}
use Rattle.mb_mailbox.specs.declared.gate.Who.TheVariants as who
use Rattle.mb_mailbox.proofs.PutEnds.{found_before, found_still, front_take}
use Rattle.mb_mailbox.proofs.crew.workers.put_list.Goals as goal
use Rattle.mb_mailbox.proofs.crew.workers.put_list.Goals.{then-stopped, else-stopped}

-- `count` says that the producer has n items after the finish. They are the first n of the list
pub returns : goal.returns
returns g c =
    let n = c.put_items-count.result.count in
    let list = c.args.job.list.items in
    let items : c.finish.new.self.items ≡ take n list =
    c.finish.ensures.items ∙ c.put_items-count.ensures.items ∙ ap (take n) c.deref.ensures.value in
    let low : n ≤ length list = rw c.deref.ensures.value at c.put_items-count.ensures.linked in
    let found = c.put_items-count.ensures.found in
    let count : n ≡ length c.finish.new.self.items = rw items (rw length-take (omega (arith, low))) in
    record {
      same = record {
        table = c.finish.ensures.lane.table ∙ c.put_items-count.ensures.lane.table;
        lane = c.finish.ensures.lane.lane ∙ c.put_items-count.ensures.lane.lane;
      };
      over = c.finish.ensures.over;
      front = subst (λ (l : List ℕ). IsFront l list) (sym items) (front_take n list);
      full = λ h. elim c.if-stopped.branch [
        | then-stopped w ↦ cc
        | else-stopped w ↦ rw items
            (rw length-take (omega (arith, c.args.job.list.ok.0)))
      ];
      found = λ h some. elim c.if-stopped.branch [
        | then-stopped w ↦ absurd (cc)
        | else-stopped w ↦ found_still c.finish.result c.put_items-count.new.producer
            c.finish.new.self c.finish.ensures.ended c.finish.ensures.closed_same
            c.finish.ensures.never_busy (found h
            (λ z. some (omega (
              arith,
              c.args.job.list.ok.0,
              w.full-is,
              w.len.ensures,
              z,
              ap length c.deref.ensures.value,
            ))))
      ];
      none = λ t. elim c.if-stopped.branch [ then-stopped w ↦ cc | else-stopped w ↦ absurd (cc) ];
      short = λ t o.
          let few : n < length list = rw c.deref.ensures.value at c.put_items-count.ensures.stopped t in
          subst (λ (k : ℕ). k < length list) count few;
      had_cells = λ t o none.
          c.put_items-count.ensures.had_cells t
          (found_before c.finish.result c.put_items-count.new.producer c.finish.new.self
          c.finish.ensures.ended c.finish.ensures.closed_same c.finish.ensures.never_busy none);
      stop = λ t o.
          subst (λ (k : ℕ). IsStopBefore (g.G.Gate.may_stop c.args.gate.now)
          (who.Producer c.args.job.producer.seat.lane) (suc k)) count
          (c.put_items-count.ensures.stop t o);
      passed = λ o. subst (λ (k : ℕ). ArePassed (g.G.Gate.may_pass c.args.gate.now)
          (who.Producer c.args.job.producer.seat.lane) k) count c.put_items-count.ensures.passed;
      passed_full = λ o h some. elim c.if-stopped.branch [
        | then-stopped w ↦ absurd (cc)
        | else-stopped w ↦
            subst (λ (k : ℕ). g.G.Gate.may_pass c.args.gate.now
            (who.Producer c.args.job.producer.seat.lane) (suc k)) count
            (c.put_items-count.ensures.passed_full h
            (λ z. some (omega (
              arith,
              c.args.job.list.ok.0,
              w.full-is,
              w.len.ensures,
              z,
              ap length
                  c.deref.ensures.value,
            ))))
      ];
    }
