use Rattle.mb_channel.specs.Work.{work_in, work_of}
use Rattle.mb_channel.proofs.Deeds.{sent_still}
use Rattle.mb_channel.proofs.inside.Inside.send.Goals as goal

pub returns-in-Owes-clause-sent : goal.returns-in-Owes-clause-sent
returns-in-Owes-clause-sent g c = sent_still c.args.value (work_in c.args.self) (work_of c.in-Owes.busy)
    (work_in c.pay.result) c.in-Owes.ensures.answer c.pay.ensures.still
