use Rattle.mb_channel.specs.Answers.{IfClosed}
use Rattle.mb_channel.specs.Ends.{IsBehind, stand_of}
use Rattle.mb_channel.proofs.Since.{look_since, polled_since}
use Rattle.mb_channel.proofs.end.Receiver.poll_receive.Goals as goal

pub returns-in-Ok-clause-answer : goal.returns-in-Ok-clause-answer
returns-in-Ok-clause-answer g c =
    let v = stand_of c.args.self.end in
    let w = stand_of c.loop.end in
    let i = c.loop.invariant.0 in
    polled_since c.answer.result c.in-Ok.heard v w c.in-Ok.debtor (λ r why. IfClosed why (IsBehind r.end)) i
    c.in-Ok.ensures.saw
    (c.answer.ensures.answer v (look_since c.in-Ok.heard v w c.in-Ok.debtor i c.in-Ok.ensures.looked.0))
