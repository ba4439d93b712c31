-- What the loops of `before_heads` keep: the places so far are before the heads of their lanes.
use Rattle.std.proofs.Common.{◌*◌, ◌+◌}
use Rattle.mb_world.specs.Places.{AreAtHeads}
use Rattle.mb_world.proofs.world.before_heads.Given as goal

abbrev pub invariant-loop-c : goal.invariant-loop-c
invariant-loop-c g l = AreAtHeads l.lanes (l.c * l.lanes) l.places.items

abbrev pub invariant-loop-p : goal.invariant-loop-p
invariant-loop-p g l = AreAtHeads l.lanes (l.c * l.lanes + l.p) l.places.items
