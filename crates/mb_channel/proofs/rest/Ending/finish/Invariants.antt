use Rattle.std.proofs.Common.{List, length}
use Rattle.mb_channel.specs.Rests.{IsEnding}
use Rattle.mb_channel.specs.declared.home.Home.{Home}
use Rattle.mb_channel.proofs.rest.Ending.finish.Given as goal

abbrev pub invariant-loop : goal.invariant-loop
invariant-loop g l = (hs : List (Home _)) → IsEnding hs l.initial.ending → IsEnding hs l.ending

abbrev pub decreases-loop : goal.decreases-loop
decreases-loop g l = length l.ending.list.items
