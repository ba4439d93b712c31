use Rattle.std.proofs.Common.{ap, sym, ◌∙◌}
use Rattle.mb_channel.specs.Inside.{pass_there}
use Rattle.mb_channel.specs.Work.{work_in}
use Rattle.mb_channel.proofs.EndLogs.{got_if, told_if}
use Rattle.mb_channel.proofs.end.End.receive.Goals as goal

pub returns-else-is_none-clause-got : goal.returns-else-is_none-clause-got
returns-else-is_none-clause-got g c = let self = c.args.self.now in
    got_if self.chair _ (work_in c.in_ok-inside.inside) (work_in c.receive-inside.result.0) c.receive-inside.result.1
    (ap pass_there (sym c.take.ensures.value ∙ c.in_ok-inside.was)) c.receive-inside.ensures.got

pub returns-then-is_none-clause-none : goal.returns-then-is_none-clause-none
returns-then-is_none-clause-none g c = let self = c.args.self.now in
    told_if self.chair _ (work_in c.in_ok-inside.inside) (work_in c.receive-inside.result.0) c.receive-inside.result.1
    (ap pass_there (sym c.take.ensures.value ∙ c.in_ok-inside.was)) c.receive-inside.ensures.over
