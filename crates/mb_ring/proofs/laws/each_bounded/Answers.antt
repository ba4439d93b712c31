use Rattle.mb_ring.proofs.Base.{arith, inl, inr, ⊎_elim}
use Rattle.mb_ring.specs.Vocabulary.{Room, Values}
use Rattle.mb_ring.proofs.Loads.{at1}
use Rattle.mb_ring.proofs.Places.{drawn_is, goes_on, room_left}
use Rattle.mb_ring.proofs.laws.each_bounded.Goals as goal

pub returns-clause-within : goal.returns-clause-within
returns-clause-within g c s k =
    let d = drawn_is s k in let t = at1 s k in let w = k.within in let m = k.sized.1 in omega arith

pub returns-clause-full : goal.returns-clause-full
returns-clause-full g c s k n v at le =
    let d = drawn_is s k in let t = at1 s k in let top = (k.fits n v at).sight.top in let m = k.sized.1 in omega arith

pub returns-clause-awake : goal.returns-clause-awake
returns-clause-awake g c s k few = ⊎_elim inl (λ open_.
    let d = drawn_is s k in let t = at1 s k in
    inr (open_, ⊎_elim (λ x. absurd (omega arith)) (λ x. omega arith) (k.lists Values).quiet))
    (goes_on s k Values few)

pub returns-clause-room : goal.returns-clause-room
returns-clause-room g c s k few = ⊎_elim inl (λ open_.
    let d = drawn_is s k in let t = at1 s k in let r = room_left s k open_ in let m = k.sized.1 in
    inr (open_, ⊎_elim (λ x. absurd (omega arith)) (λ x. omega arith) (k.lists Room).quiet))
    (goes_on s k Room few)
