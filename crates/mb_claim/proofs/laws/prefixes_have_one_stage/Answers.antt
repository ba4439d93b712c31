-- Proof of `laws::prefixes_have_one_stage`: a prefix of a claim path has one stage.
use Rattle.mb_deciding.specs.Vocabulary.{object_of}
use Rattle.mb_claim.proofs.Unique.{one_stage_lem}
use Rattle.mb_claim.proofs.laws.prefixes_have_one_stage.Goals as goal

pub returns : goal.returns
returns c cs d xs s r quorum =
    one_stage_lem cs.table (λ kind inputs. c.objects_keep_their_promises.ensures
    (object_of cs.table kind inputs) quorum) d cs.kinds 0 d xs s r
