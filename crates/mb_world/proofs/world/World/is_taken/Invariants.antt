-- What the loop of `World::is_taken` keeps: none of the consumers so far has a note that it took the item of cell `k`.
use Rattle.std.proofs.Common.{◌≡◌, false}
use Rattle.mb_world.specs.Reporting.{any_below, is_took}
use Rattle.mb_world.specs.StateReport.{note_on}
use Rattle.mb_world.proofs.world.World.is_taken.Given as goal

abbrev pub invariant-loop-c : goal.invariant-loop-c
invariant-loop-c g l = any_below l.c (λ c. is_took (note_on l.self c l.k)) ≡ false
