use Rattle.mb_segment.proofs.Base.{ap, arith, get_elem?, some-injective, sym, ◌∙◌, ◌≡◌}
use Rattle.mb_segment.specs.Vocabulary.{Claim, Entry, all_entries}
use Rattle.mb_segment.proofs.Spots.{all_length, at_below, entry_of}
use Rattle.mb_segment.proofs.Kept.{at1}
use Rattle.mb_segment.proofs.Places.{claimed_by, drawn_by, drawn_is, is_claimed, is_drawn}
use Rattle.mb_segment.proofs.laws.one_taker.Goals as goal

pub returns-clause-taker : goal.returns-clause-taker
returns-clause-taker g c s k i j u v p x y at at' has has' =
    let a = is_claimed s k i u p x at has in
    let b = is_claimed s k j v p y at' has' in
    let qa = a.2 in let qb = b.2 in
    let m : a.0 ≡ b.0 = omega arith in
    let one : a.1 ≡ b.1 = some-injective a.1 b.1 (sym a.3 ∙ (ap (get_elem? k.history.claims) m ∙ b.3)) in
    (sym a.4 ∙ (ap (λ (c : Claim _). c.to) one ∙ b.4), sym a.5 ∙ (ap (λ (c : Claim _). c.entry.value) one ∙ b.5))

pub returns-clause-drawer : goal.returns-clause-drawer
returns-clause-drawer g c s k i j u v p x y at at' has has' =
    let a = is_drawn s k i u p x at has in
    let b = is_drawn s k j v p y at' has' in
    let qa = a.2 in let qb = b.2 in
    let m : a.0 ≡ b.0 = omega arith in
    let one : a.1 ≡ b.1 = some-injective a.1 b.1 (sym a.3 ∙ (ap (get_elem? (all_entries k.history)) m ∙ b.3)) in
    (sym a.4 ∙ (ap (λ (e : Entry _). e.by) one ∙ b.4), sym a.5 ∙ (ap (λ (e : Entry _). e.value) one ∙ b.5))

pub returns-clause-same : goal.returns-clause-same
returns-clause-same g c s k i j u v p x y at at' has has' =
    let a = is_drawn s k i u p x at has in
    let b = is_claimed s k j v p y at' has' in
    let qa = a.2 in let qb = b.2 in
    let m : a.0 ≡ b.0 = omega arith in
    let here = entry_of k.history.claims k.history.rest b.0 b.1 b.3 in
    let one : a.1 ≡ b.1.entry = some-injective a.1 b.1.entry
    (sym a.3 ∙ (ap (get_elem? (all_entries k.history)) m ∙ here)) in
    sym a.5 ∙ (ap (λ (e : Entry _). e.value) one ∙ b.5)

pub returns-clause-beginning : goal.returns-clause-beginning
returns-clause-beginning g c s k p lt =
    let t = at1 s k in let b = at_below k.history.claims p (omega arith) in
    (b.0, b.1, claimed_by s k p b.0 b.1)

pub returns-clause-drawn : goal.returns-clause-drawn
returns-clause-drawn g c s k p lt =
    let d = drawn_is s k in let l = all_length k.history in
    let b = at_below (all_entries k.history) p (omega arith) in
    (b.0, b.1, drawn_by s k p b.0 b.1)

pub returns-clause-back : goal.returns-clause-back
returns-clause-back g c s k n v at role = ((k.fits n v at).hub_ role).ends
