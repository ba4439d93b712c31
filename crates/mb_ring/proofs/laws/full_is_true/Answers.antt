use Rattle.mb_ring.proofs.Base.{arith}
use Rattle.mb_segment.proofs.Places.{has_below}
use Rattle.mb_ring.proofs.Loads.{at1}
use Rattle.mb_ring.proofs.Places.{drawn_is}
use Rattle.mb_ring.proofs.laws.full_is_true.Goals as goal

pub returns-clause-within : goal.returns-clause-within
returns-clause-within g c s k =
    let d = drawn_is s k in let t = at1 s k in let w = k.within in let m = k.sized.1 in (omega arith, omega arith)

pub returns-clause-exact : goal.returns-clause-exact
returns-clause-exact g c s k n v at le =
    let d = drawn_is s k in let t = at1 s k in let w = k.within in let m = k.sized.1 in
    let top = (k.fits n v at).sight.top in omega arith

pub returns-clause-full : goal.returns-clause-full
returns-clause-full g c s k n v t at on =
    let d = drawn_is s k in let t' = at1 s k in let m = k.sized.1 in
    let f = (k.fits n v at).sight.full t on in let a = f.0 in let b = f.1 in (omega arith, omega arith)

pub returns-clause-got : goal.returns-clause-got
returns-clause-got g c v t p x saw on has = has_below t p x v.account.got (saw t on) has
