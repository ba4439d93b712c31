use Rattle.std.proofs.Common.{◌≡◌, rules, subst, sym, true}
use Rattle.mb_mailbox.specs.Runs.{IsEnd, is_aborted}
use Rattle.mb_mailbox.specs.declared.crew.jobs.Done.{Done}
use Rattle.mb_mailbox.proofs.Kept.{still_off}
use Rattle.mb_mailbox.proofs.crew.spawn.start.Goals as goal

pub returns-in-Err-clause-promised : goal.returns-in-Err-clause-promised
returns-in-Err-clause-promised g c =
    let end : IsEnd (g.G.Gate.may_stop c.args.shared.now.gate.now) (g.G.Gate.may_pass c.args.shared.now.gate.now)
    g.R.Rng.stream c.args.shared.now.lanes c.args.job c.body.result = search rules in
    subst (λ (d : Done _). IsEnd (g.G.Gate.may_stop c.args.shared.now.gate.now)
    (g.G.Gate.may_pass c.args.shared.now.gate.now) g.R.Rng.stream c.args.shared.now.lanes c.args.job d
    × (is_aborted d ≡ true)) (sym c.without_thread.ensures)
    (still_off (g.G.Gate.may_stop c.args.shared.now.gate.now) (g.G.Gate.may_pass c.args.shared.now.gate.now)
    g.R.Rng.stream c.args.shared.now.lanes c.args.job c.body.result end)
