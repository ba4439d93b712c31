use Rattle.mb_channel.proofs.Theorems.{whole_life}
use Rattle.mb_channel.proofs.Turns.{begins}
use Rattle.mb_channel.proofs.laws.lives_keep_the_theorem.Goals as goal

pub returns-clause-life : goal.returns-clause-life
returns-clause-life g c = whole_life

pub returns-clause-beginning : goal.returns-clause-beginning
returns-clause-beginning g c = begins
