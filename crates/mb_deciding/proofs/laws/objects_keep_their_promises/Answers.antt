-- Proof of `laws::objects_keep_their_promises`: what each object promises its users.
use Rattle.mb_deciding.proofs.Owed.{promises_kept}
use Rattle.mb_deciding.proofs.laws.objects_keep_their_promises.Goals as goal

pub returns : goal.returns
returns c = promises_kept
