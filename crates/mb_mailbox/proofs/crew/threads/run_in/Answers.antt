use Rattle.std.proofs.Common.{arith}
use Rattle.mb_mailbox.specs.Begun.{Keeps, Promises}
use Rattle.mb_mailbox.specs.Runs.{IsEnd}
use Rattle.mb_mailbox.proofs.Kept.{kept}
use Rattle.mb_mailbox.proofs.Zips.{zip_length, zip_through}
use Rattle.mb_mailbox.proofs.crew.threads.run_in.Goals as goal

-- there are as many workers as jobs
pub join_all-requires-clause-room : goal.join_all-requires-clause-room
join_all-requires-clause-room g c =
    let same = zip_length (Promises g.G.Gate.may_stop g.G.Gate.may_pass g.R.Rng.stream c.args.shared.now.gate.now
    c.args.shared.now.lanes) c.args.jobs.items c.start_all-running.result.items c.start_all-running.ensures in
    omega (arith, same, c.start_all-running.result.ok.0, c.args.jobs.ok.0, c.requires.done.1)

-- each job has a worker that promises its end, and each worker has given back what it promised. So each job has its end
pub returns : goal.returns
returns g c =
    zip_through (Promises g.G.Gate.may_stop g.G.Gate.may_pass g.R.Rng.stream c.args.shared.now.gate.now
    c.args.shared.now.lanes)
    (Keeps (λ p d. IsEnd (g.G.Gate.may_stop p.gate.value) (g.G.Gate.may_pass p.gate.value) g.R.Rng.stream p.lanes
    p.job.value d))
    (IsEnd (g.G.Gate.may_stop c.args.shared.now.gate.now) (g.G.Gate.may_pass c.args.shared.now.gate.now)
    g.R.Rng.stream c.args.shared.now.lanes)
    (kept g.G.Gate.may_stop g.G.Gate.may_pass g.R.Rng.stream c.args.shared.now.gate.now c.args.shared.now.lanes)
    c.args.jobs.items c.start_all-running.result.items c.join_all.result.items c.start_all-running.ensures
    c.join_all.ensures
