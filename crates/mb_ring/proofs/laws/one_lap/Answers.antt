use Rattle.mb_ring.proofs.Base.{arith, subst}
use Rattle.mb_segment.proofs.Spots.{all_length, below_length}
use Rattle.mb_ring.specs.Vocabulary.{Half, HalfFits, all_entries}
use Rattle.mb_ring.proofs.Loads.{at1}
use Rattle.mb_ring.proofs.Laps.{not_again}
use Rattle.mb_ring.proofs.Places.{drawn_is}
use Rattle.mb_ring.proofs.laws.one_lap.Goals as goal

pub returns-clause-reads : goal.returns-clause-reads
returns-clause-reads g c s k n v p x at half =
    let f = subst (λ (h : Half _). HalfFits k.history k.size k.states n h) half (k.fits n v at).half in
    let lt = below_length k.history.claims p record { entry = record { by = f.0.0; value = x }; to = n } f.0.1 in
    let last = not_again s k p f.1 in
    let d = drawn_is s k in let t = at1 s k in let m = k.sized.1 in (omega arith, omega arith)

pub returns-clause-writes : goal.returns-clause-writes
returns-clause-writes g c s k n v p x at half =
    let f = subst (λ (h : Half _). HalfFits k.history k.size k.states n h) half (k.fits n v at).half in
    let le = f.0 in
    let lt = below_length (all_entries k.history) p record { by = n; value = x } f.1 in
    let l = all_length k.history in let w = k.within in
    let d = drawn_is s k in let t = at1 s k in let m = k.sized.1 in (omega arith, omega arith, omega arith)
