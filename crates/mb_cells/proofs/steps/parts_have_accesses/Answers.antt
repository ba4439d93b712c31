-- Proof of `steps::parts_have_accesses`: a part has the accesses of its process, and no others.
use Rattle.mb_cells.proofs.steps.parts_have_accesses.Goals as goal
use Rattle.mb_cells.proofs.Names.{own_process}
use Rattle.mb_cells.proofs.Parts.{Has-of_part, Has-part, part_by}

pub returns-clause-only : goal.returns-clause-only
returns-clause-only c = λ h who a has. (Has-of_part who h a has, part_by who h a has)

pub returns-clause-all : goal.returns-clause-all
returns-clause-all c = λ h who a has is. Has-part who h a has (own_process who a is)
