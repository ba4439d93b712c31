-- Proof of `laws::named_tables_are_lawful`: each named table of at most `MAX_VALUES` values keeps the law of quorum
-- tables. It has as many values as asked for.
use Rattle.mb_quorum.specs.TablesLaw.{named_lawful}
use Rattle.mb_quorum.proofs.laws.named_tables_are_lawful.Goals as goal

pub returns-clause-lawful : goal.returns-clause-lawful
returns-clause-lawful c name m most = named_lawful name m most
