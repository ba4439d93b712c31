-- Proof of `steps::claims_have_one_next_op`: what a claim has done determines its next op, whatever memory holds.
use Rattle.mb_deciding.specs.Vocabulary.{object_of}
use Rattle.mb_claim.proofs.NextSteps.{older_goes, one_next}
use Rattle.mb_claim.proofs.OnePlay.{one_access}
use Rattle.mb_claim.proofs.steps.claims_have_one_next_op.Goals as goal

pub returns-clause-op : goal.returns-clause-op
returns-clause-op c cs d x y xs s r quorum =
    one_next cs.table (λ kind inputs. c.objects_keep_their_promises.ensures (object_of cs.table kind inputs) quorum)
    (c.turns_name_the_next_op.ensures.op cs.table) d cs.kinds 0 d x y xs s r

pub returns-clause-going : goal.returns-clause-going
returns-clause-going c cs d x xs s = older_goes cs.table d cs.kinds 0 d x xs s

pub returns-clause-access : goal.returns-clause-access
returns-clause-access c cs a b h quorum =
    one_access cs (λ kind inputs. c.objects_keep_their_promises.ensures (object_of cs.table kind inputs) quorum)
    (c.turns_name_the_next_op.ensures.op cs.table) c.turns_name_the_next_op.ensures.act a b h
