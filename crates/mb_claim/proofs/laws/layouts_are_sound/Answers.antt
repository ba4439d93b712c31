-- Proof of `laws::layouts_are_sound`: a layout has a lawful quorum table with 1 to `MAX_VALUES` values. It has a pair
-- or a last object, and at most `MAX_PAIRS` pairs.
use Rattle.mb_claim.proofs.LayoutObjects.{quorums_lawful, consumers_within, last_without}
use Rattle.mb_claim.proofs.laws.layouts_are_sound.Goals as goal

pub returns-clause-table : goal.returns-clause-table
returns-clause-table c = quorums_lawful

pub returns-clause-consumers : goal.returns-clause-consumers
returns-clause-consumers c = consumers_within

pub returns-clause-pairs : goal.returns-clause-pairs
returns-clause-pairs c layout = layout.few

pub returns-clause-some : goal.returns-clause-some
returns-clause-some c layout = last_without layout.pairs layout.shape.last layout.some
