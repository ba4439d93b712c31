use Rattle.std.proofs.Common.{[], refl, ◌∷◌}
use Rattle.mb_segment.specs.SegmentSamples.{receiver, sender}
use Rattle.mb_bounded.proofs.Lives.{is_life}
use Rattle.mb_bounded.proofs.samples.sample_lives.Goals as goal

pub returns-clause-life : goal.returns-clause-life
returns-clause-life c = is_life (sender ∷ receiver ∷ []) (11 ∷ []) c.sample_ends.ensures.admitted

pub returns-clause-second : goal.returns-clause-second
returns-clause-second c = refl

pub returns-clause-twice : goal.returns-clause-twice
returns-clause-twice c = λ left h. c.sample_ends.ensures.twice left h.0
