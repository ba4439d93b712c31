use Rattle.mb_ring.proofs.Base.{List, arith, subst, sym}
use Rattle.mb_segment.proofs.Spots.{all_length, below_length}
use Rattle.mb_segment.proofs.Places.{rises_by, rises_to}
use Rattle.mb_ring.specs.Vocabulary.{Rises, Spot, all_entries}
use Rattle.mb_ring.proofs.Loads.{at1}
use Rattle.mb_ring.proofs.Places.{drawn_is, is_claimed, is_drawn}
use Rattle.mb_ring.proofs.laws.one_order.Goals as goal

pub returns-clause-sent : goal.returns-clause-sent
returns-clause-sent g c s k n v at = let m = (k.fits n v at.0).member at.1 in
    (m.sent, subst (λ (l : List (Spot _)). Rises 0 l) (sym m.sent) (rises_by n 0 (all_entries k.history)))

pub returns-clause-got : goal.returns-clause-got
returns-clause-got g c s k n v at = let m = (k.fits n v at.0).member at.1 in
    (m.got, subst (λ (l : List (Spot _)). Rises 0 l) (sym m.got) (rises_to n 0 k.history.claims))

pub returns-clause-later_drawn : goal.returns-clause-later_drawn
returns-clause-later_drawn g c s k n v p x at has =
    let a = is_drawn s k n v p x at has in
    let b = below_length (all_entries k.history) p a.0 a.1 in
    let l = all_length k.history in
    let d = drawn_is s k in omega arith

pub returns-clause-later_claimed : goal.returns-clause-later_claimed
returns-clause-later_claimed g c s k n v p x at has =
    let a = is_claimed s k n v p x at has in
    let b = below_length k.history.claims p a.0 a.1 in
    let t = at1 s k in omega arith
