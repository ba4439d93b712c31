-- Proof of `laws::steps_have_one_play`: steps have one play at most: the entries and the stages are determined by the
-- claims and the steps.
use Rattle.mb_deciding.specs.Vocabulary.{object_of}
use Rattle.mb_claim.proofs.OnePlay.{one_play}
use Rattle.mb_claim.proofs.laws.steps_have_one_play.Goals as goal

pub returns : goal.returns
returns c cs steps es fs ss rs quorum =
    one_play cs (λ kind inputs. c.objects_keep_their_promises.ensures (object_of cs.table kind inputs) quorum)
    (c.turns_name_the_next_op.ensures.op cs.table) c.turns_name_the_next_op.ensures.act steps es fs ss rs
