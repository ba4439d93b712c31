-- Proof of `laws::objects_have_lawful_histories`: the accesses to one object are a lawful history of it.
use Rattle.std.proofs.Common.{refl, sym, arith}
use Rattle.mb_deciding.specs.Vocabulary.{object_of}
use Rattle.mb_claim.specs.{Ratifier, part_on, object_history}
use Rattle.mb_claim.proofs.UsedObjects.{kind_of, first_input, some_inputs, one_input}
use Rattle.mb_claim.proofs.laws.objects_have_lawful_histories.Goals as goal

pub returns-clause-lawful : goal.returns-clause-lawful
returns-clause-lawful c cs h k o kind quorum lawful is =
    some_inputs cs (λ j inputs. c.objects_keep_their_promises.ensures (object_of cs.table j inputs) quorum) h lawful k o
    kind is

pub returns-clause-one : goal.returns-clause-one
returns-clause-one c cs h k o d u w quorum lawful ne p q =
    let kind = kind_of cs.table cs.kinds 0 o d o u (part_on d k h) (omega arith) p in
    one_input cs (λ j inputs. c.objects_keep_their_promises.ensures (object_of cs.table j inputs) quorum) h lawful k o
    kind.0 kind.1 d u w ne p q

pub returns-clause-own : goal.returns-clause-own
returns-clause-own c cs h k d kind inputs used ne =
    sym (first_input cs.table cs.kinds 0 d 0 (inputs d) (part_on d k h) refl (used.enters d ne))

pub returns-clause-outputs : goal.returns-clause-outputs
returns-clause-outputs c cs h k o kind inputs quorum used =
    let kept = c.objects_keep_their_promises.ensures (object_of cs.table kind inputs) quorum in
    (kept.validity (object_history k o h) used.lawful, kept.coherence (object_history k o h) used.lawful)

pub returns-clause-checks : goal.returns-clause-checks
returns-clause-checks c cs h k o inputs quorum used =
    c.checks_keep_out.ensures.lawful (object_of cs.table Ratifier inputs) (object_history k o h) quorum refl used.lawful
