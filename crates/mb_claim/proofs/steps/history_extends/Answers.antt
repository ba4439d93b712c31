-- Proof of `steps::history_extends`: a lawful history with an access that may come next is lawful.
use Rattle.mb_claim.proofs.HistorySteps.{adds}
use Rattle.mb_claim.proofs.steps.history_extends.Goals as goal

pub returns : goal.returns
returns c cs a h = adds cs h a
