-- Proof of `steps::places_make_steps`: the next access of a claim's place, with the value that the history leaves in
-- its word, may follow.
use Rattle.mb_deciding.specs.Vocabulary.{object_of}
use Rattle.mb_claim.specs.{Claims, ClaimsAreSound}
use Rattle.mb_claim.proofs.Standing.{AreStepping, may_follow, finds_there}
use Rattle.mb_claim.proofs.steps.places_make_steps.Goals as goal

-- objects over the claims' table keep the laws of one more access (`AreStepping`)
stepping : goal.After-history_extends → (cs : Claims) → ClaimsAreSound cs → AreStepping cs.table
stepping c cs quorum =
    record {
      steps = λ kind inputs xs q at o n. c.places_lead_on.ensures.prefix
          (object_of cs.table kind inputs) xs q at o n quorum;
      finds = λ kind inputs xs q at o. c.places_lead_on.ensures.found (object_of cs.table kind inputs) xs q at o quorum;
      longer = λ kind inputs xs q turn. c.history_extends.ensures.longer (object_of cs.table kind inputs) xs q turn;
    }

pub returns-clause-follows : goal.returns-clause-follows
returns-clause-follows c cs d k object pc op word h quorum =
    may_follow cs (λ kind inputs. c.objects_keep_their_promises.ensures (object_of cs.table kind inputs) quorum)
    (stepping c cs quorum) h d k object pc op word

pub returns-clause-found : goal.returns-clause-found
returns-clause-found c cs d k object pc op h quorum =
    finds_there cs (λ kind inputs. c.objects_keep_their_promises.ensures (object_of cs.table kind inputs) quorum)
    (stepping c cs quorum) h d k object pc op
