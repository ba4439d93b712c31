-- Proof of `samples::faulty_samples_are_unlawful`: a history that is not lawful.
use Rattle.std.proofs.Common.{arith}
use Rattle.mb_quorum.specs.Unary.{unary_table}
use Rattle.mb_quorum.specs.UnaryLaw.{unary_lawful}
use Rattle.mb_deciding.specs.Vocabulary.{object_of}
use Rattle.mb_claim.specs.{Conciliator}
use Rattle.mb_claim.proofs.UnlawfulSamples.{not_again}
use Rattle.mb_claim.proofs.samples.faulty_samples_are_unlawful.Goals as goal

pub returns : goal.returns
returns c = not_again (λ inputs. c.objects_keep_their_promises.ensures (object_of (unary_table 2)
    (Conciliator 2) inputs) (unary_lawful 2 (omega arith)))
