use Rattle.mb_segment.proofs.Base.{ap, arith, inl, inr, length, refl, slice_index, true, false, Bool, ⊎_elim, ◌-◌, ◌<◌, ◌⊎◌, ◌≡◌}
use Rattle.std.specs.Prelude.{◌||◌}
use Rattle.mb_segment.specs.Vocabulary.{drawn}
use Rattle.mb_segment.proofs.Spots.{nothing_left}
use Rattle.mb_segment.proofs.Kept.{at0, at1}
use Rattle.mb_segment.proofs.LookMoves.{all_drawn}
use Rattle.mb_segment.proofs.Places.{drawn_is, has_below}
use Rattle.mb_segment.proofs.laws.over_is_true.Goals as goal

pub returns-clause-empty : goal.returns-clause-empty
returns-clause-empty g c s k n v at le =
    let d = drawn_is s k in let t = at1 s k in let low = (k.fits n v at).low in
    (omega arith, nothing_left k.history.rest (omega arith))

pub returns-clause-over : goal.returns-clause-over
returns-clause-over g c s k n v at on =
    let f = (k.fits n v at).over on in
    let e = at0 s k in let d = drawn_is s k in let t = at1 s k in let i = k.within in let m = k.sized in let l
    = k.small in
    let z : length k.history.rest ≡ 0 = ap length f.1 in (
      all_drawn k.cut (length k.states - drawn k.history) (length k.states) (slice_index s.words 0) (length s.homes)
          f.0 (omega arith) (omega arith) (omega arith),
      omega arith,
      f.1,
    )

pub returns-clause-taken : goal.returns-clause-taken
returns-clause-taken g c s k n v p x at saw known =
    let e = (k.fits n v at).empty in let t = at1 s k in
    let below : p < v.sight.empty = ⊎_elim (has_below v.sight.empty p x v.account.sent saw.0) (saw.1 p) known in
    omega arith

pub returns-clause-full : goal.returns-clause-full
returns-clause-full g c s k n v at on =
    let f = (k.fits n v at).full on in let d = drawn_is s k in let m = k.sized in omega arith

pub returns-clause-cut : goal.returns-clause-cut
returns-clause-cut g c s k n v at on = let f = (k.fits n v at).cut_ on in let e = at0 s k in omega arith

either : (a b : Bool) → a || b ≡ true → (a ≡ true) ⊎ (b ≡ true)
either true b e = inl refl
either false b e = inr e

pub returns-clause-over_all : goal.returns-clause-over_all
returns-clause-over_all g c s k n v at is =
    let f = k.fits n v at in
    let e = at0 s k in let d = drawn_is s k in let i = k.within in let m = k.sized in let l = k.small in ⊎_elim
    (λ on. ⊎_elim (λ on. all_drawn k.cut (length k.states - drawn k.history) (length k.states)
    (slice_index s.words 0) (length s.homes) (f.over on).0 (omega arith) (omega arith) (omega arith))
    (λ on. let q = f.full on in omega arith) (either v.over v.sight.full on))
    (λ on. let q = f.cut_ on in omega arith)
    (either (v.over || v.sight.full) v.sight.cut is)
