use Rattle.std.proofs.Common.{arith, ap, refl, ◌∙◌, length, None, [], ◌∷◌}
use Rattle.std.proofs.lemmas.List.{length-append}
use Rattle.std.proofs.lemmas.List.Elements.{All-push}
use Rattle.mb_mailbox.specs.Hubs.{HubView}
use Rattle.mb_mailbox.specs.Runs.{IsJobOf}
use Rattle.mb_mailbox.proofs.Loops.{left_more, polls_issued_more}
use Rattle.mb_mailbox.proofs.Zips.{next_seen}
use Rattle.mb_mailbox.proofs.crew.issue.issue_consumers.Goals as goal

pub loop-rng-preserved : goal.loop-rng-preserved
loop-rng-preserved g c =
    let i = c.loop-rng.invariant in
    let count = i.records in
    let hub = c.in-Ok-consumer.ensures.hub in
    let new = c.in-Ok-consumer.ensures.consumer in
    let len = c.push_reserved.ensures.len in
    let longer = ap (λ (h : HubView). length h.records) hub ∙ length-append c.loop-rng.hub.records (None ∷ []) in
    record {
      rest = next_seen _ _ _ _ _ i.rest c.in-Some.ensures.steps.0;
      left = left_more _ _ _ _ _ i.left c.push_reserved.ensures.len c.in-Some.ensures.steps.1;
      room = c.push_reserved.ensures.capacity ∙ i.room;
      given = rw c.push_reserved.ensures.items
          (polls_issued_more c.args.mailbox.now c.args.hub.now c.loop-rng.hub c.consumer.new.self
          c.loop-rng.yielded c.args.jobs.now.items c.loop-rng.jobs.items c.in-Some.rng _ i.given new refl hub);
      all_jobs = rw c.push_reserved.ensures.items
          (All-push (IsJobOf c.args.mailbox.now) c.loop-rng.jobs.items _
          i.all_jobs (record { cells = ap (λ r. r.table) new.reader; claims = ap (λ r. r.table) new.seat }));
      all_of = c.in-Ok-consumer.ensures.belongs;
      records = omega (arith, count, len, longer);
    }
