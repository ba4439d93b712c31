use Rattle.mb_channel.proofs.Theorems.{each_moment}
use Rattle.mb_channel.proofs.Turns.{turns}
use Rattle.mb_channel.proofs.laws.moments_keep_the_theorem.Goals as goal

pub returns-clause-moment : goal.returns-clause-moment
returns-clause-moment g c = each_moment

pub returns-clause-turn : goal.returns-clause-turn
returns-clause-turn g c = λ m k turn. turns m.segments k turn
