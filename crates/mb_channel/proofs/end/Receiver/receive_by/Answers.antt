use Rattle.std.proofs.Common.{inl, ◌∙◌}
use Rattle.mb_channel.specs.Ends.{stand_of}
use Rattle.mb_channel.proofs.Since.{saw_since}
use Rattle.mb_channel.proofs.end.Receiver.receive_by.Goals as goal

pub returns-in-TimedOut-clause-late : goal.returns-in-TimedOut-clause-late
returns-in-TimedOut-clause-late g c = let a = c.in-TimedOut.ensures.answer in let i = c.loop.invariant.2 in (
  inl (saw_since (stand_of c.args.self.now.end) (stand_of c.loop.self.end) (stand_of c.receive_by.new.self)
      i.one.later a.0),
  a.1.got ∙ i.got,
)
