use Rattle.mb_ring.proofs.Base.{arith}
use Rattle.mb_ring.proofs.Loads.{at1}
use Rattle.mb_ring.proofs.Laps.{marked_drawn}
use Rattle.mb_ring.proofs.Places.{drawn_is}
use Rattle.mb_ring.proofs.laws.seen_is_true.Goals as goal

pub returns-clause-low : goal.returns-clause-low
returns-clause-low g c s k n v at = let t = at1 s k in let l = (k.fits n v at).sight.low in omega arith

pub returns-clause-top : goal.returns-clause-top
returns-clause-top g c s k n v at = let d = drawn_is s k in let l = (k.fits n v at).sight.top in omega arith

pub returns-clause-worn : goal.returns-clause-worn
returns-clause-worn g c s k n v at le =
    let d = drawn_is s k in let l = (k.fits n v at).sight.top in let m = k.small in omega arith

pub returns-clause-marked : goal.returns-clause-marked
returns-clause-marked g c s k n v p at ripe =
    let t = at1 s k in let d = drawn_is s k in let l = ((k.fits n v at).sight.ripe p ripe).0 in
    let b = marked_drawn s k n v at p ripe in (omega arith, omega arith)
