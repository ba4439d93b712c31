use Rattle.std.proofs.Common.{ℕ, ◌-◌, ◌∙◌, [], ap, arith, length, subst, sym, vec_len}
use Rattle.std.specs.List.{All, AllZip}
use Rattle.std.proofs.lemmas.List.{nil_from_length}
use Rattle.std.proofs.lemmas.List.Elements.{All-head, All-rest}
use Rattle.mb_mailbox.specs.Begun.{Promises}
use Rattle.mb_mailbox.specs.Runs.{ArePutsFirst, IsJobOf}
use Rattle.mb_mailbox.proofs.Loops.{first_more, first_of, left_more, room_still}
use Rattle.mb_mailbox.proofs.Zips.{all_seen, next_seen, zip_more}
use Rattle.mb_mailbox.proofs.crew.spawn.start_all.Goals as goal

pub loop-job-init : goal.loop-job-init
loop-job-init g c =
    let gives = c.into_iter-job-iterator.ensures.into_iter_gives in
    let none = c.args.begun.ok.0 ∙ ap length c.requires.none in
    record {
      rest = gives.0;
      all_of = subst (All (IsJobOf c.args.shared.now.mailbox.now)) (sym gives.0) c.requires.belongs;
      first = subst (ArePutsFirst (c.args.shared.now.lanes.end - c.args.shared.now.lanes.from - vec_len c.args.begun))
          (sym gives.0) (subst (λ (n : ℕ). ArePutsFirst n c.args.jobs.items) (omega (arith, none))
          c.requires.puts_first);
      left = omega (arith, none, gives.1);
      room = c.requires.room;
      promised = subst (λ l. AllZip (Promises g.G.Gate.may_stop g.G.Gate.may_pass g.R.Rng.stream
          c.args.shared.now.gate.now c.args.shared.now.lanes) [] l) (sym c.requires.none) tt;
    }

pub loop-job-preserved : goal.loop-job-preserved
loop-job-preserved g c =
    let i = c.loop-job.invariant in
    record {
      rest = next_seen _ _ _ _ _ i.rest c.in-Some.ensures.steps.0;
      all_of = All-rest (IsJobOf c.args.shared.now.mailbox.now) c.in-Some.job _ _ c.in-Some.ensures.steps.0 i.all_of;
      first = first_more _ _ c.in-Some.job _ (omega (arith, c.push_reserved.ensures.len))
          (subst (ArePutsFirst (c.args.shared.now.lanes.end - c.args.shared.now.lanes.from - vec_len c.loop-job.begun))
          c.in-Some.ensures.steps.0 i.first);
      left = left_more _ _ _ _ _ i.left c.push_reserved.ensures.len c.in-Some.ensures.steps.1;
      room = room_still _ _ _ i.room c.push_reserved.ensures.capacity;
      promised = rw c.push_reserved.ensures.items
          (zip_more (Promises g.G.Gate.may_stop g.G.Gate.may_pass g.R.Rng.stream c.args.shared.now.gate.now
          c.args.shared.now.lanes) c.loop-job.yielded c.loop-job.begun.items c.in-Some.job c.start-worker.result.0
          i.promised c.start-worker.ensures.promised);
    }

pub start-worker-requires-clause-belongs : goal.start-worker-requires-clause-belongs
start-worker-requires-clause-belongs g c κs within = All-head (IsJobOf c.args.shared.now.mailbox.now) c.in-Some.job _
    (subst (All (IsJobOf c.args.shared.now.mailbox.now)) c.in-Some.ensures.steps.0 c.loop-job.invariant.all_of)

pub start-worker-requires-clause-after : goal.start-worker-requires-clause-after
start-worker-requires-clause-after g c κs within = first_of _ c.in-Some.job _
    (subst (ArePutsFirst (c.args.shared.now.lanes.end - c.args.shared.now.lanes.from - vec_len c.loop-job.begun))
    c.in-Some.ensures.steps.0 c.loop-job.invariant.first)

-- the iterator is empty, so all jobs were yielded
pub returns : goal.returns
returns g c =
    subst (λ l. AllZip (Promises g.G.Gate.may_stop g.G.Gate.may_pass g.R.Rng.stream
    c.args.shared.now.gate.now c.args.shared.now.lanes) l c.loop-job.begun.items)
    (all_seen _ _ _ c.loop-job.invariant.rest
    (nil_from_length _ (sym c.loop-job.job-iterator.rest.ok.0 ∙ c.in-None.ensures.steps.0)))
    c.loop-job.invariant.promised
