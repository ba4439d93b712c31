-- What the samples refuse.
use Rattle.std.proofs.Common.{ℕ, zero, suc, true, true≢false, List, [], refl, sym, ap, ⊎_elim, arith, ◌≡◌, ◌+◌, ◌∷◌, ◌∙◌}
use Rattle.std.specs.Prelude.{Option, None, Some, slice_index}
use mathlib.Core.Option.{none, some, some-injective, some-ne-none}
use lib.ListN.{get_elem?}
use Rattle.atomic_table.specs.Table.{opening}
use Rattle.mb_segment.specs.declared.view.Spot.{Spot as Position}
use Rattle.mb_segment.specs.Vocabulary.{nothing_done}
use Rattle.mb_ring.specs.Vocabulary.{blank}
use Rattle.mb_bounded.specs.BoundedSamples.{having, sent_ten, two_ends}
use Rattle.mb_bounded.specs.Desks.{HasCounted, HasHired, HasRetired, IsFree, IsHeld, Keeps, first_view, knows, locked, newcomer, settled, splits_off}
use Rattle.mb_bounded.specs.Ends.{HasCut, IsSame, NoMore, OneGot, OneSent}
use Rattle.mb_bounded.specs.Types.{Account, Desk, Global, Knows, Ring, Seat}
use Rattle.mb_bounded.specs.declared.end.End.{End}
use Rattle.mb_bounded.proofs.DeskMoves.{holder}

pub deserted : (r : Ring ℕ Global) (d : Desk ℕ) → d.senders ≡ 0
    → Keeps r (opening (0 ∷ []) (Some d ∷ []) (first_view r)) → ⊥
deserted r d none_ k = ⊎_elim
    (λ (free : IsFree r (opening (0 ∷ []) (Some d ∷ []) (first_view r))).
    let same = some-injective (Some d) (Some free.0) (some-injective (some (Some d)) (some (Some free.0))
    (ap (λ l. get_elem? l 0) free.2)) in
    let n : d.senders ≡ free.0.senders = ap senders_of same in
    let m = free.4.0 in absurd (omega arith))
    (λ (held : IsHeld (opening (0 ∷ []) (Some d ∷ []) (first_view r))).
    let e : 0 ≡ 1 = ap (λ l. slice_index l 0) held.1 in absurd (omega arith))
    k.lock
  where
    senders_of : Option (Desk ℕ) → ℕ
    senders_of None = 0
    senders_of (Some x) = x.senders

pub out_ : (r : Ring ℕ Global) → Keeps r record { words = 1 ∷ []; homes = none ∷ []; views = two_ends r } → ⊥
out_ r k = let h = holder r record { words = 1 ∷ []; homes = none ∷ []; views = two_ends r } k refl in
    nobody h.0 h.1.0 h.1.1 h.1.2
  where
    nobody : (j : ℕ) (v : Knows ℕ) → get_elem? (two_ends r) j ≡ some v → v.holds ≡ true → ⊥
    nobody zero v at on = true≢false (sym on ∙ ap (λ (z : Knows ℕ). z.holds)
        (sym (some-injective (newcomer r 1 0) v at)))
    nobody (suc zero) v at on = true≢false (sym on ∙ ap (λ (z : Knows ℕ). z.holds)
        (sym (some-injective (newcomer r 0 1) v at)))
    nobody (suc (suc j)) v at on = some-ne-none v (sym at)

pub before : (v : Knows ℕ) → HasCounted v v v.senders v.receivers → ⊥
before v h = let e : v.looks ≡ v.looks + 1 = ap (λ (z : Knows ℕ). z.looks) h.3 in omega arith

pub phantom : (d e : Desk ℕ) (v : Knows ℕ) (m n : ℕ) → e.senders ≡ d.senders + 1
    → HasCounted v (splits_off 1 0 (settled e (locked d v))) m n → ⊥
phantom d e v m n more h =
    let found : d.senders ≡ h.0.senders = ap (λ (z : Knows ℕ). z.senders) h.3 in
    let left : e.senders ≡ h.0.senders = ap (λ (z : Knows ℕ). z.left_senders) h.3 in absurd (omega arith)

pub not_hired : (d : Desk ℕ) (v : Knows ℕ) → HasHired 1 0 v (settled d (locked d v)) → ⊥
not_hired d v h = let e : d.senders ≡ d.senders + 1 = h.1 in absurd (omega arith)

pub split_off : (d : Desk ℕ) (v : Knows ℕ) → HasRetired 1 0 v (splits_off 1 0 (settled d (locked d v))) → ⊥
split_off d v h = let e : d.senders ≡ d.senders + 1 = h.1 in absurd (omega arith)

pub there : (e f : End ℕ) → (knows f.chair).looks ≡ (knows e.chair).looks + 1 → IsSame e f → ⊥
there e f more same = let as_many : (knows f.chair).looks ≡ (knows e.chair).looks =
    ap (λ (c : Seat (Option (Desk ℕ)) (Knows ℕ)). (knows c).looks) same.1 in absurd (omega arith)

abbrev first_value : List (Position ℕ) → ℕ
first_value [] = 0
first_value (s ∷ ss) = s.value

pub another : OneSent 11 blank (having sent_ten) → ⊥
another o = let e : ◌≡◌ {A = ℕ} 10 11 = ap (λ (a : Account ℕ). first_value a.sent) o.1 in absurd (omega arith)

pub not_got : OneGot 10 blank (having sent_ten) → ⊥
not_got o = let e : ◌≡◌ {A = ℕ} 0 10 = ap (λ (a : Account ℕ). first_value a.got) o.1 in absurd (omega arith)

pub busy : NoMore blank (having sent_ten) → ⊥
busy e = let x : ◌≡◌ {A = ℕ} 10 0 = ap (λ (a : Account ℕ). first_value a.sent) e in absurd (omega arith)

pub uncut : HasCut blank (having nothing_done) → ⊥
uncut h = true≢false (sym h.0)
