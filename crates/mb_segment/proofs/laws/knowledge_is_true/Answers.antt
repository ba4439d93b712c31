use Rattle.mb_segment.proofs.Base.{arith}
use Rattle.mb_segment.proofs.Kept.{at1}
use Rattle.mb_segment.proofs.Places.{drawn_is, has_below}
use Rattle.mb_segment.proofs.laws.knowledge_is_true.Goals as goal

pub returns-clause-so : goal.returns-clause-so
returns-clause-so g c s k n v at =
    let h = (k.fits n v at).heard in
    let d = drawn_is s k in let t = at1 s k in let a = h.0 in let b = h.1 in (omega arith, omega arith)

pub returns-clause-sent : goal.returns-clause-sent
returns-clause-sent g c s k n v p x at has =
    has_below v.known.drawn p x v.account.sent (k.fits n v at).heard.2.0 has

pub returns-clause-got : goal.returns-clause-got
returns-clause-got g c s k n v p x at has = let a = (k.fits n v at).heard.2 in
    (has_below v.known.drawn p x v.account.got a.1 has, has_below v.known.taken p x v.account.got a.2 has)

pub returns-clause-behind : goal.returns-clause-behind
returns-clause-behind g c s k n v at = let a = (k.fits n v at).heard.3 in (a.0, a.1)
