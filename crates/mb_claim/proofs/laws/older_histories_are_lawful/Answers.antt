-- Proof of `laws::older_histories_are_lawful`: a lawful history without its last accesses is lawful.
use Rattle.mb_claim.proofs.OlderHistories.{older_history_lawful}
use Rattle.mb_claim.proofs.laws.older_histories_are_lawful.Goals as goal

pub returns : goal.returns
returns c cs = older_history_lawful cs
