-- What the loop of `World::diary` keeps: the notes so far are the consumer's notes on the cells so far.
use Rattle.std.proofs.Common.{◌≡◌, take}
use Rattle.std.specs.List.{filter_map}
use Rattle.mb_world.specs.StateReport.{note_on}
use Rattle.mb_world.proofs.world.World.diary.Given as goal

abbrev pub invariant-loop-k : goal.invariant-loop-k
invariant-loop-k g l = l.notes.items ≡ filter_map (note_on l.self l.c) (take l.k-index l.k-items)
