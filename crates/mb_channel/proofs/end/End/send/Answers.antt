use Rattle.std.proofs.Common.{ap, sym, ◌∙◌}
use Rattle.mb_channel.specs.Inside.{pass_there}
use Rattle.mb_channel.specs.Work.{work_in}
use Rattle.mb_channel.proofs.EndLogs.{sent_if}
use Rattle.mb_channel.proofs.end.End.send.Goals as goal

pub returns-clause-sent : goal.returns-clause-sent
returns-clause-sent g c = let self = c.args.self.now in
    sent_if self.chair _ (work_in c.in-Some.inside) (work_in c.send-inside.result.0) c.args.value
    c.send-inside.result.1 (ap pass_there (sym c.take.ensures.value ∙ c.in-Some.is)) c.send-inside.ensures.sent
