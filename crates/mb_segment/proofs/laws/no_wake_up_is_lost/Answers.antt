use Rattle.mb_segment.proofs.Base.{arith, length, slice_index, ⊎_elim, ◌-◌}
use Rattle.mb_segment.specs.Vocabulary.{drawn}
use Rattle.mb_segment.proofs.Halves.{is_out}
use Rattle.mb_segment.proofs.Kept.{at0, at1, at2}
use Rattle.mb_segment.proofs.LookMoves.{none_free}
use Rattle.mb_segment.proofs.Places.{drawn_is}
use Rattle.mb_segment.proofs.laws.no_wake_up_is_lost.Goals as goal

pub returns-clause-owed : goal.returns-clause-owed
returns-clause-owed g c s k asleep more =
    let d = drawn_is s k in let t = at1 s k in ⊎_elim (λ x. omega arith) (λ x. omega arith) k.quiet

pub returns-clause-enough : goal.returns-clause-enough
returns-clause-enough g c s k few =
    let d = drawn_is s k in let t = at1 s k in ⊎_elim (λ x. omega arith) (λ x. omega arith) k.quiet

pub returns-clause-over : goal.returns-clause-over
returns-clause-over g c s k few over =
    let e = at0 s k in let i = k.within in let m = k.sized in let l = k.small in
    let none_ = none_free k.cut (length k.states - drawn k.history) (slice_index s.words 0) (length k.states)
    (omega arith) (omega arith) (omega arith) in
    ⊎_elim (λ x. absurd (omega arith)) (λ x. omega arith) k.shut

pub returns-clause-debtor : goal.returns-clause-debtor
returns-clause-debtor g c s k n v at some_ = is_out v (k.fits n v at).debt some_

pub returns-clause-given : goal.returns-clause-given
returns-clause-given g c s k = let l = at2 s k in let n = k.narrow in let t = k.given in omega arith
