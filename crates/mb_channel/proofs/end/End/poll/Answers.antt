use Rattle.std.proofs.Common.{ap, refl}
use Rattle.mb_channel.specs.Inside.{pass_there}
use Rattle.mb_channel.specs.Work.{work_in}
use Rattle.mb_channel.proofs.EndLogs.{looked}
use Rattle.mb_channel.proofs.end.End.poll.Goals as goal

pub returns-clause-looked : goal.returns-clause-looked
returns-clause-looked g c = (
  looked c.poll-busy.result.1 _ (work_in c.in-Some.inside) _ (ap pass_there c.in-Some.is)
      c.poll-busy.ensures.looked,
  refl,
)
