use Rattle.mb_segment.proofs.Base.{ap, arith, length, slice_index, ◌%◌, ◌≡◌, dec_le, dec_lt, dite}
use Rattle.mb_segment.specs.Vocabulary.{View}
use Rattle.mb_segment.proofs.Kept.{at1}
use Rattle.mb_segment.proofs.LookMoves.{nothing_waits}
use Rattle.mb_segment.proofs.Places.{drawn_is}
use Rattle.mb_segment.proofs.Walks.{true_before}
use Rattle.mb_segment.proofs.laws.empty_is_true.Goals as goal

pub returns-clause-walk : goal.returns-clause-walk
returns-clause-walk g c s k =
    let d = drawn_is s k in let t = at1 s k in let w = k.walked in (omega arith, omega arith)

pub returns-clause-counted : goal.returns-clause-counted
returns-clause-counted g c s k n v at = (k.looked n v at.0 at.1).0

pub returns-clause-empty : goal.returns-clause-empty
returns-clause-empty g c s k n earlier on = (true_before (length k.states) on k.true_).0

pub returns-clause-last : goal.returns-clause-last
returns-clause-last g c s k n v at some_ =
    let l = (k.looked n v at.0 at.1).1 some_ in
    (l.0, l.1, l.2, (true_before (length k.states) l.0 k.true_).0)

pub returns-clause-moment : goal.returns-clause-moment
returns-clause-moment g c s k x = dite
    (dec_le (slice_index s.words 0 % 9223372036854775808) x.before.0.sight.low)
    (λ none_. dite (dec_lt (slice_index s.words 0) (length s.homes))
    (λ open_. let none_there = nothing_waits s k x.number x.before.0 x.here none_ in
    let z : length k.history.rest ≡ 0 = ap length none_there in let d = drawn_is s k in let t = at1 s k in
    (omega arith, none_there, λ over. absurd (omega arith)))
    (λ shut_. let q = (x.looks.2 none_ (omega arith)).0 in let more = x.counts in
    absurd (let e = ap (λ (u : View _). u.sight.found) q in omega arith)))
    (λ some_. let q = (x.looks.0 (omega arith)).0 in let more = x.counts in
    absurd (let e = ap (λ (u : View _). u.sight.found) q in omega arith))
