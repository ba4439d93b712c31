use Rattle.mb_ring.proofs.Base.{arith, dec_lt, dite, sym, ◌∙◌}
use Rattle.mb_ring.specs.Vocabulary.{Has, all_entries, drawn_in}
use Rattle.mb_segment.proofs.Spots.{all_length, at_below}
use Rattle.mb_segment.proofs.Places.{is_cutter, some_cutter}
use Rattle.mb_ring.proofs.Loads.{at0}
use Rattle.mb_ring.proofs.Places.{cut_by, drawn_by, drawn_is, new_open, only_hub}
use Rattle.mb_ring.proofs.laws.one_cutter.Goals as goal

pub returns-clause-cutter : goal.returns-clause-cutter
returns-clause-cutter g c s k cut =
    let e = at0 s k in let m = k.small in let w = k.cutter in
    let n = some_cutter k.history.cutter (omega arith) in (n.0, n.1, cut_by s k n.0 n.1)

pub returns-clause-cut : goal.returns-clause-cut
returns-clause-cut g c s k n v at on =
    let q = is_cutter n k.history.cutter (sym ((k.fits n v at.0).member at.1).cut ∙ on) in
    let some_ = q.0 in let e = at0 s k in let w = k.cutter in (omega arith, q.1)

pub returns-clause-new : goal.returns-clause-new
returns-clause-new g c s k hub =
    let d = drawn_is s k in let l = all_length k.history in (
      dite (dec_lt 0 (drawn_in s))
          (λ some_. let b = at_below (all_entries k.history) 0 (omega arith) in
          absurd (only_hub s b.0.by (λ a. Has 0 b.0.value a.sent) hub (drawn_by s k 0 b.0 b.1)))
          (λ none_. omega arith),
      new_open s k hub,
    )
