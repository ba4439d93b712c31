use Rattle.std.proofs.Common.{List, length}
use Rattle.mb_channel.specs.Homes.{Stands}
use Rattle.mb_channel.specs.declared.home.Home.{Home}
use Rattle.mb_channel.proofs.home.Homes.sweep.Given as goal

abbrev pub invariant-loop : goal.invariant-loop
invariant-loop g l = (hs : List (Home _)) → Stands hs l.initial.self → Stands hs l.self

abbrev pub decreases-loop : goal.decreases-loop
decreases-loop g l = length l.self.list.items
