-- Proof of `steps::words_follow_steps`: a claim at its place makes one access on words that a history leaves.
use Rattle.std.proofs.Common.{ℕ, List}
use Rattle.mb_deciding.specs.Vocabulary.{object_of, IsOpAt, reg_of}
use Rattle.mb_claim.specs.{Op, Pc, ClaimAccess, Claims, ClaimsAreSound, IsWordIn, HasPlace}
use Rattle.mb_claim.proofs.Standing.{AreStepping, stands_on}
use Rattle.mb_claim.proofs.States.{memory_step, memory_found}
use Rattle.mb_claim.proofs.steps.words_follow_steps.Goals as goal

-- objects over the claims' table keep the laws of one more access (`AreStepping`)
stepping : goal.After-places_are_unfinished → (cs : Claims) → ClaimsAreSound cs → AreStepping cs.table
stepping c cs quorum =
    record {
      steps = λ kind inputs xs q at o n. c.places_lead_on.ensures.prefix
          (object_of cs.table kind inputs) xs q at o n quorum;
      finds = λ kind inputs xs q at o. c.places_lead_on.ensures.found (object_of cs.table kind inputs) xs q at o quorum;
      longer = λ kind inputs xs q turn. c.history_extends.ensures.longer (object_of cs.table kind inputs) xs q turn;
    }

-- the word of the op that the place names is one of the cell's
place_word :
    goal.After-places_are_unfinished → (cs : Claims) (d k object : ℕ) (pc : Pc) (op : Op) (h : List ClaimAccess)
    → ClaimsAreSound cs
    → HasPlace cs d k object pc h → IsOpAt cs.table pc op → IsWordIn cs object (reg_of op)
place_word c cs d k object pc op h quorum p is = (
  p.1.kind,
  stands_on cs.table cs.kinds d object pc _ p.1,
  c.places_are_unfinished.ensures.word cs.table p.1.kind p.1.input pc p.1.turns op quorum p.1.place is,
)

pub returns-clause-memory : goal.returns-clause-memory
returns-clause-memory c cs d k object pc op word words h quorum memory cell p is =
    memory_step cs words h memory d k object op word cell (place_word c cs d k object pc op h quorum p is)
    (λ kind inputs. c.objects_keep_their_promises.ensures (object_of cs.table kind inputs) quorum)
    (stepping c cs quorum) pc p is

pub returns-clause-found : goal.returns-clause-found
returns-clause-found c cs d k object pc op words h quorum memory cell p is =
    memory_found cs words h memory d k object op 0 cell (place_word c cs d k object pc op h quorum p is)
    (λ kind inputs. c.objects_keep_their_promises.ensures (object_of cs.table kind inputs) quorum)
    (stepping c cs quorum) pc p is
