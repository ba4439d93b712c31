use Rattle.std.proofs.Common.{refl}
use Rattle.mb_channel.specs.Work.{work_of}
use Rattle.mb_channel.proofs.EndLogs.{looked}
use Rattle.mb_channel.proofs.debtor.Debtor.wake_up.Goals as goal

pub returns-clause-looked : goal.returns-clause-looked
returns-clause-looked g c =
    looked c.wake_up-heard.result _ (work_of c.args.self.busy) _ refl c.wake_up-heard.ensures.looked
