use Rattle.std.proofs.Common.{ap, sym, ◌∙◌}
use Rattle.mb_channel.specs.Inside.{pass_there}
use Rattle.mb_channel.specs.Work.{work_in}
use Rattle.mb_channel.proofs.EndLogs.{received_if}
use Rattle.mb_channel.proofs.end.End.receive_by.Goals as goal

pub returns-else-matches-clause-answer : goal.returns-else-matches-clause-answer
returns-else-matches-clause-answer g c = let self = c.args.self.now in
    received_if self.chair _ (work_in c.in-Some.inside) (work_in c.receive_by-inside.result.0)
    c.receive_by-inside.result.1 (ap pass_there (sym c.take.ensures.value ∙ c.in-Some.is))
    c.receive_by-inside.ensures.answer
