-- Proof of `laws::chosen_tables_are_lawful`: a table chosen by name keeps the law of quorum tables.
use Rattle.mb_quorum.specs.TablesLaw.{chosen_lawful, chosen_within}
use Rattle.mb_quorum.proofs.laws.chosen_tables_are_lawful.Goals as goal

pub returns-clause-lawful : goal.returns-clause-lawful
returns-clause-lawful c = chosen_lawful

pub returns-clause-least : goal.returns-clause-least
returns-clause-least c table = (chosen_within table).0

pub returns-clause-most : goal.returns-clause-most
returns-clause-most c table = (chosen_within table).1
