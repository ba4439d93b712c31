use Rattle.std.proofs.Common.{false, ◌+◌, arith, refl}
use Rattle.std.proofs.lemmas.Bool.{le-ltb, lt-ltb, or_from, or_left, or_right}
use Rattle.mb_segment.specs.Vocabulary.{claimed_in, sleeping, total}
use Rattle.mb_channel.proofs.state_samples.sample_visited.Goals as goal

pub returns-clause-taken : goal.returns-clause-taken
returns-clause-taken c now h a one = or_left _ _ (or_right false _
    (lt-ltb 0 (claimed_in (now 0) + total sleeping (now 0).views) (omega (arith, one))))

pub returns-clause-before : goal.returns-clause-before
returns-clause-before c now h g a one = or_right _ _ (or_left _ _ (or_right false _
    (lt-ltb 0 (claimed_in (now 1) + total sleeping (now 1).views) (omega (arith, one)))))

pub returns-clause-nobody : goal.returns-clause-nobody
returns-clause-nobody c now h a none quiet = or_from _ _ (or_from false _ refl
    (le-ltb 0 (claimed_in (now 0) + total sleeping (now 0).views) (omega (arith, none, quiet)))) refl
