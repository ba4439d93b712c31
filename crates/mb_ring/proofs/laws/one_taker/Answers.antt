use Rattle.mb_ring.proofs.Base.{ap, arith, some-injective, sym, ◌∙◌, ◌≡◌}
use Rattle.mb_segment.proofs.Spots.{all_length, at_below, entry_of}
use Rattle.mb_ring.specs.Vocabulary.{Claim, Entry, all_entries}
use Rattle.mb_ring.proofs.Loads.{at1}
use Rattle.mb_ring.proofs.Places.{claimed_by, drawn_by, drawn_is, is_claimed, is_drawn}
use Rattle.mb_ring.proofs.laws.one_taker.Goals as goal

pub returns-clause-taker : goal.returns-clause-taker
returns-clause-taker g c s k i j u v p x y at at' has has' =
    let a = is_claimed s k i u p x at has in
    let b = is_claimed s k j v p y at' has' in
    let one : a.0 ≡ b.0 = some-injective a.0 b.0 (sym a.1 ∙ b.1) in
    (sym a.2 ∙ (ap (λ (c : Claim _). c.to) one ∙ b.2), sym a.3 ∙ (ap (λ (c : Claim _). c.entry.value) one ∙ b.3))

pub returns-clause-drawer : goal.returns-clause-drawer
returns-clause-drawer g c s k i j u v p x y at at' has has' =
    let a = is_drawn s k i u p x at has in
    let b = is_drawn s k j v p y at' has' in
    let one : a.0 ≡ b.0 = some-injective a.0 b.0 (sym a.1 ∙ b.1) in
    (sym a.2 ∙ (ap (λ (e : Entry _). e.by) one ∙ b.2), sym a.3 ∙ (ap (λ (e : Entry _). e.value) one ∙ b.3))

pub returns-clause-same : goal.returns-clause-same
returns-clause-same g c s k i j u v p x y at at' has has' =
    let a = is_drawn s k i u p x at has in
    let b = is_claimed s k j v p y at' has' in
    let here = entry_of k.history.claims k.history.rest p b.0 b.1 in
    let one : a.0 ≡ b.0.entry = some-injective a.0 b.0.entry (sym a.1 ∙ here) in
    sym a.3 ∙ (ap (λ (e : Entry _). e.value) one ∙ b.3)

pub returns-clause-beginning : goal.returns-clause-beginning
returns-clause-beginning g c s k p lt =
    let t = at1 s k in let b = at_below k.history.claims p (omega arith) in
    (b.0, b.1, claimed_by s k p b.0 b.1)

pub returns-clause-drawn : goal.returns-clause-drawn
returns-clause-drawn g c s k p lt =
    let d = drawn_is s k in let l = all_length k.history in
    let b = at_below (all_entries k.history) p (omega arith) in
    (b.0, b.1, drawn_by s k p b.0 b.1)

pub returns-clause-back : goal.returns-clause-back
returns-clause-back g c s k n v at role = ((k.fits n v at).hub_ role).ends
