use Rattle.mb_ring.proofs.Base.{arith, sym, ◌∙◌}
use Rattle.mb_ring.proofs.Loads.{at1}
use Rattle.mb_ring.proofs.Looks.{at_empty, at_full}
use Rattle.mb_ring.proofs.Places.{drawn_is}
use Rattle.mb_ring.proofs.Walks.{true_before}
use Rattle.mb_ring.proofs.laws.looks_are_true.Goals as goal

pub returns-clause-walk : goal.returns-clause-walk
returns-clause-walk g c s k =
    let d = drawn_is s k in let t = at1 s k in let w = k.walked.0 in let l = k.walked.1 in (omega arith, omega arith)

pub returns-clause-counted : goal.returns-clause-counted
returns-clause-counted g c s k n v at = let l = k.looks n v at.0 at.1 in (l.0.0, l.1.0)

pub returns-clause-empty : goal.returns-clause-empty
returns-clause-empty g c s k n earlier went = (true_before k.size went k.true_).0

pub returns-clause-full : goal.returns-clause-full
returns-clause-full g c s k n earlier went = (true_before k.size went k.true_).0 ∙ sym k.sized.1

pub returns-clause-last_empty : goal.returns-clause-last_empty
returns-clause-last_empty g c s k n v at some_ = let l = (k.looks n v at.0 at.1).0.1 some_ in
    (l.0, l.1, l.2, (true_before k.size l.0 k.true_).0)

pub returns-clause-last_full : goal.returns-clause-last_full
returns-clause-last_full g c s k n v at some_ = let l = (k.looks n v at.0 at.1).1.1 some_ in
    -- (m: how many slots the ring has. d: how many more positions were drawn than claimed. `omega` uses both)
    let m = k.sized.1 in let d = l.2.2 in
    (l.0, l.1, (true_before k.size l.0 k.true_).0 ∙ sym m, (l.2.0, l.2.1, omega arith))

pub returns-clause-step_empty : goal.returns-clause-step_empty
returns-clause-step_empty g c s k n f h v w at look more = at_empty s k n f h v w at look more

pub returns-clause-step_full : goal.returns-clause-step_full
returns-clause-step_full g c s k n f v w at look more = at_full s k n f v w at look more
