-- Proof of `laws::fast_paths_take_two_ratifiers`: if a row begins with two ratifiers, and the first has decided for one
-- consumer, nobody goes on after the second.
use Rattle.std.proofs.Common.{refl}
use Rattle.mb_deciding.specs.Vocabulary.{object_of}
use Rattle.mb_claim.specs.{Ratifier}
use Rattle.mb_claim.proofs.FastPath.{fast_path_lem, none_behind_alone}
use Rattle.mb_claim.proofs.laws.fast_paths_take_two_ratifiers.Goals as goal

pub returns-clause-decided : goal.returns-clause-decided
returns-clause-decided c t kinds cells k d u h quorum lawful =
    fast_path_lem t (λ kind inputs. c.objects_keep_their_promises.ensures (object_of t kind inputs) quorum)
    (λ inputs. c.ratifiers_decide_unless_contested.ensures
    (object_of t Ratifier inputs) quorum refl) kinds cells h k d u lawful

pub returns-clause-alone : goal.returns-clause-alone
returns-clause-alone c t kinds cells k d s later h quorum lawful alone p ended =
    none_behind_alone t (λ kind inputs. c.objects_keep_their_promises.ensures (object_of t kind inputs) quorum)
    (λ inputs. c.ratifiers_decide_unless_contested.ensures
    (object_of t Ratifier inputs) quorum refl) kinds cells k d later h
    s lawful alone p ended
