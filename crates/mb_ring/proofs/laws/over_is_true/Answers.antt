use Rattle.mb_ring.proofs.Base.{ap, arith, length, ⊎_elim, ◌<◌, ◌≡◌}
use Rattle.mb_segment.proofs.Places.{has_below}
use Rattle.mb_segment.proofs.Spots.{nothing_left}
use Rattle.mb_ring.proofs.Loads.{at0, at1}
use Rattle.mb_ring.proofs.Places.{drawn_is}
use Rattle.mb_ring.proofs.laws.over_is_true.Goals as goal

pub returns-clause-empty : goal.returns-clause-empty
returns-clause-empty g c s k n v at le =
    let d = drawn_is s k in let t = at1 s k in let low = (k.fits n v at).sight.low in
    (omega arith, nothing_left k.history.rest (omega arith))

pub returns-clause-over : goal.returns-clause-over
returns-clause-over g c s k n v at on =
    let f = (k.fits n v at).over on in
    let e = at0 s k in let d = drawn_is s k in let t = at1 s k in let cut = f.0 in
    let z : length k.history.rest ≡ 0 = ap length f.1 in (omega arith, omega arith, f.1)

pub returns-clause-taken : goal.returns-clause-taken
returns-clause-taken g c s k n v p x at saw known =
    let e = (k.fits n v at).sight.empty in let t = at1 s k in
    let below : p < v.sight.empty = ⊎_elim (has_below v.sight.empty p x v.account.sent saw.0) (saw.1 p) known in
    omega arith

pub returns-clause-cut : goal.returns-clause-cut
returns-clause-cut g c s k n v at on = let f = (k.fits n v at).sight.cut_ on in let e = at0 s k in omega arith
