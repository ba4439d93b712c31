-- Proof of `laws::ratifiers_decide_unless_contested`: acceptance and contention, which a ratifier promises, too.
use Rattle.mb_deciding.proofs.Winner.{ratifies}
use Rattle.mb_deciding.proofs.laws.ratifiers_decide_unless_contested.Goals as goal

pub returns : goal.returns
returns c = ratifies
