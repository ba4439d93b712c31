use Rattle.std.proofs.Common.{arith, ap, refl, sym, ◌∙◌, length, None, [], ◌∷◌}
use Rattle.std.proofs.lemmas.List.{length-append}
use Rattle.std.proofs.lemmas.List.Elements.{All-push}
use Rattle.mb_mailbox.specs.Hubs.{HubView}
use Rattle.mb_mailbox.specs.Producers.{ProducerView}
use Rattle.mb_mailbox.specs.Runs.{IsJobOf}
use Rattle.mb_mailbox.proofs.Loops.{left_more, puts_issued_more}
use Rattle.mb_mailbox.proofs.Zips.{next_seen}
use Rattle.mb_mailbox.proofs.crew.issue.issue_producers.Goals as goal

pub loop-list-preserved : goal.loop-list-preserved
loop-list-preserved g c =
    let i = c.loop-list.invariant in
    let count = i.puts in
    let jobs = c.loop-list.jobs.ok.0 in
    let hub = c.in-Ok-producer.ensures.hub in
    let is = c.in-Ok-producer.ensures.producer in
    let len = c.push_reserved.ensures.len in
    let longer = ap (λ (h : HubView). length h.puts) hub ∙ length-append c.loop-list.hub.puts (None ∷ []) in
    record {
      rest = next_seen _ _ _ _ _ i.rest c.in-Some.ensures.steps.0;
      left = left_more _ _ _ _ _ i.left c.push_reserved.ensures.len c.in-Some.ensures.steps.1;
      room = c.push_reserved.ensures.capacity ∙ i.room;
      given = rw c.push_reserved.ensures.items
          (puts_issued_more c.args.mailbox.now c.args.hub.now c.loop-list.hub c.producer.new.self
          c.loop-list.yielded c.loop-list.jobs.items c.in-Some.list _ i.given
          (omega (arith, count, jobs)) is refl hub);
      all_jobs = rw c.push_reserved.ensures.items
          (All-push (IsJobOf c.args.mailbox.now) c.loop-list.jobs.items _
          i.all_jobs (record { table = ap (λ (s : ProducerView). s.seat.table) is }));
      all_of = c.in-Ok-producer.ensures.belongs;
      puts = omega (arith, count, len, longer);
    }
