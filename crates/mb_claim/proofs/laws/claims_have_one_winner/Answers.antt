-- Proof of `laws::claims_have_one_winner`: all claims on a cell that are won or lost name one winner, for all orders of
-- accesses and all random words.
use Rattle.std.proofs.Common.{refl}
use Rattle.mb_deciding.specs.Vocabulary.{object_of}
use Rattle.mb_claim.specs.{Ratifier}
use Rattle.mb_claim.proofs.Winner.{has_one_winner}
use Rattle.mb_claim.proofs.laws.claims_have_one_winner.Goals as goal

pub returns : goal.returns
returns c cs h k quorum lawful =
    has_one_winner cs h k (λ kind inputs. c.objects_keep_their_promises.ensures (object_of cs.table kind inputs) quorum)
    (λ inputs. c.ratifiers_decide_unless_contested.ensures (object_of cs.table Ratifier inputs) quorum refl) lawful
