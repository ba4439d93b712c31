-- What the loop of `Course::finish` keeps: for each process so far there is its output, or none.
use Rattle.std.proofs.Common.{◌≡◌, map, take}
use Rattle.mb_deciding.specs.{out_of}
use Rattle.mb_deciding.proofs.run.Course.finish.Given as goal

abbrev pub invariant-loop-next : goal.invariant-loop-next
invariant-loop-next g l = l.outputs.items ≡ map out_of (take l.next-index l.fn.self.places)
