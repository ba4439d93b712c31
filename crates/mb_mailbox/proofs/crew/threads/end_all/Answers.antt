use Rattle.std.proofs.Common.{◌∙◌, [], ap, arith, length, subst, sym}
use Rattle.std.specs.List.{All, AllZip}
use Rattle.std.proofs.lemmas.List.{nil_from_length}
use Rattle.std.proofs.lemmas.List.Elements.{All-head, All-rest}
use Rattle.mb_mailbox.specs.Runs.{IsEnd, IsJobOf}
use Rattle.mb_mailbox.proofs.Loops.{left_more, room_still}
use Rattle.mb_mailbox.proofs.Zips.{all_seen, next_seen, zip_more}
use Rattle.mb_mailbox.proofs.crew.threads.end_all.Goals as goal

pub loop-job-init : goal.loop-job-init
loop-job-init g c =
    let gives = c.into_iter-job-iterator.ensures.into_iter_gives in
    let none = c.args.done.ok.0 ∙ ap length c.requires.none in
    record {
      rest = gives.0;
      all_of = subst (All (IsJobOf c.args.shared.now.mailbox.now)) (sym gives.0) c.requires.belongs;
      left = omega (arith, none, gives.1);
      room = c.requires.room;
      ends = subst (λ l. AllZip (IsEnd (g.G.Gate.may_stop c.args.shared.now.gate.now)
          (g.G.Gate.may_pass c.args.shared.now.gate.now) g.R.Rng.stream c.args.shared.now.lanes) [] l)
          (sym c.requires.none) tt;
    }

pub loop-job-preserved : goal.loop-job-preserved
loop-job-preserved g c =
    let i = c.loop-job.invariant in
    record {
      rest = next_seen _ _ _ _ _ i.rest c.in-Some.ensures.steps.0;
      all_of = All-rest (IsJobOf c.args.shared.now.mailbox.now) c.in-Some.job _ _ c.in-Some.ensures.steps.0 i.all_of;
      left = left_more _ _ _ _ _ i.left c.push_reserved.ensures.len c.in-Some.ensures.steps.1;
      room = room_still _ _ _ i.room c.push_reserved.ensures.capacity;
      ends = rw c.push_reserved.ensures.items
          (zip_more (IsEnd (g.G.Gate.may_stop c.args.shared.now.gate.now)
          (g.G.Gate.may_pass c.args.shared.now.gate.now) g.R.Rng.stream c.args.shared.now.lanes)
          c.loop-job.yielded c.loop-job.done.items c.in-Some.job c.do_job.result i.ends c.do_job.ensures);
    }

pub do_job-requires-clause-belongs : goal.do_job-requires-clause-belongs
do_job-requires-clause-belongs g c κs within = All-head (IsJobOf c.args.shared.now.mailbox.now) c.in-Some.job _
    (subst (All (IsJobOf c.args.shared.now.mailbox.now)) c.in-Some.ensures.steps.0 c.loop-job.invariant.all_of)

-- the iterator is empty, so all jobs were yielded
pub returns : goal.returns
returns g c =
    subst (λ l. AllZip (IsEnd (g.G.Gate.may_stop c.args.shared.now.gate.now)
    (g.G.Gate.may_pass c.args.shared.now.gate.now) g.R.Rng.stream c.args.shared.now.lanes) l c.loop-job.done.items)
    (all_seen _ _ _ c.loop-job.invariant.rest
    (nil_from_length _ (sym c.loop-job.job-iterator.rest.ok.0 ∙ c.in-None.ensures.steps.0)))
    c.loop-job.invariant.ends
