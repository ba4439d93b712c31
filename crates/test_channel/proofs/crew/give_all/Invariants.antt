use Rattle.std.specs.Prelude.{All}
use Rattle.mb_channel.specs.Ends.{AreOfOneChannel}
use Rattle.test_channel.specs.Crew.{IsThere}
use Rattle.test_channel.proofs.crew.give_all.Given as goal

-- after each end given back the others are still of the channel
abbrev pub invariant-loop : goal.invariant-loop
invariant-loop g l = record {
  to : AreOfOneChannel l.initial.to.end l.to.end;
  ends : All (IsThere l.initial.to.end) l.ends.items;
}
