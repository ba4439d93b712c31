-- Proof of `laws::cells_stand_alone`: a lawful history, cut down to one cell, is lawful.
use Rattle.std.proofs.Common.{ap}
use Rattle.mb_deciding.specs.Vocabulary.{value_in}
use Rattle.mb_claim.proofs.Cells.{cut_lawful, kept, gone, object_kept}
use Rattle.mb_claim.proofs.laws.cells_stand_alone.Goals as goal

pub returns-clause-lawful : goal.returns-clause-lawful
returns-clause-lawful c cs k h lawful = cut_lawful cs h k lawful

pub returns-clause-same : goal.returns-clause-same
returns-clause-same c = kept

pub returns-clause-others : goal.returns-clause-others
returns-clause-others c d j k h ne = gone d k j h ne

pub returns-clause-words : goal.returns-clause-words
returns-clause-words c k o reg h = ap (value_in reg) (object_kept k o h)
