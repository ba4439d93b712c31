use Rattle.mb_ring.proofs.Base.{arith, ⊎_elim, ◌≡◌}
use Rattle.mb_segment.proofs.Halves.{free_shut}
use Rattle.mb_ring.specs.Vocabulary.{Room, Values, free}
use Rattle.mb_ring.proofs.Halves.{is_out}
use Rattle.mb_ring.proofs.Loads.{at0, at1, at_list_word}
use Rattle.mb_ring.proofs.Places.{drawn_is, room_left}
use Rattle.mb_ring.proofs.laws.no_wake_up_is_lost.Goals as goal

pub returns-clause-values : goal.returns-clause-values
returns-clause-values g c s k few =
    let d = drawn_is s k in let t = at1 s k in
    ⊎_elim (λ x. absurd (omega arith)) (λ x. omega arith) (k.lists Values).quiet

pub returns-clause-room : goal.returns-clause-room
returns-clause-room g c s k few open_ =
    let d = drawn_is s k in let t = at1 s k in let r = room_left s k open_ in let w = k.within in let m = k.sized.1 in
    ⊎_elim (λ x. absurd (omega arith)) (λ x. omega arith) (k.lists Room).quiet

pub returns-clause-over : goal.returns-clause-over
returns-clause-over g c s k q few cut =
    let e = at0 s k in let m = k.small in
    let none_ : free k.cut 1 ≡ 0 = free_shut k.cut 1 (omega arith) in
    ⊎_elim (λ x. absurd (omega arith)) (λ x. omega arith) (k.lists q).shut

pub returns-clause-given : goal.returns-clause-given
returns-clause-given g c s k q =
    let n = (k.lists q).narrow in let w = at_list_word q s k in let t = (k.lists q).given in omega arith

pub returns-clause-debtor : goal.returns-clause-debtor
returns-clause-debtor g c s k q n v at some_ = is_out q v (k.fits n v at).debt some_
