-- What the loops of `Layout::max_steps` keep: the sizes of the largest quorums of the values so far, and how many
-- accesses the objects so far allow. Both are bounded.
use Rattle.std.proofs.Common.{◌≡◌, ◌≤◌, ◌+◌, ◌*◌, drop}
use Rattle.mb_deciding.specs.Vocabulary.{largest_quorum}
use Rattle.mb_claim.specs.{quorums_of, kinds_of, most_on_objects}
use Rattle.mb_claim.proofs.layout.Layout.max_steps.Given as goal

abbrev pub invariant-loop-consumer : goal.invariant-loop-consumer
invariant-loop-consumer l = record {
  write : l.write ≡ largest_quorum (quorums_of l.self).write l.consumer;
  write_small : l.write ≤ 64;
  read : l.read ≡ largest_quorum (quorums_of l.self).read l.consumer;
  read_small : l.read ≤ 64;
}

abbrev pub invariant-loop-object : goal.invariant-loop-object
invariant-loop-object l = record {
  sum : l.steps + most_on_objects (quorums_of l.self) (drop l.object (kinds_of l.self))
      ≡ most_on_objects (quorums_of l.self) (kinds_of l.self);
  small : l.steps ≤ 130 * l.object;
}
