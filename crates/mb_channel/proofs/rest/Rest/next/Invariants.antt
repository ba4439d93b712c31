use Rattle.std.proofs.Common.{List, length}
use Rattle.mb_channel.specs.Rests.{HasRest}
use Rattle.mb_channel.proofs.rest.Rest.next.Given as goal

abbrev pub invariant-loop-left : goal.invariant-loop-left
invariant-loop-left g l = (xs : List _) → HasRest l.initial.self xs → HasRest l.self xs

abbrev pub decreases-loop-left : goal.decreases-loop-left
decreases-loop-left g l = length l.self.lefts.items
