use Rattle.std.proofs.Common.{◌≡◌, ℕ, zero, suc, ◌+◌, ◌*◌, ◌/◌, ◌%◌, ◌<◌, ◌≤◌, List, [], ◌∷◌, length, refl, sym, ◌∙◌, subst, inl, inr, arith}
use Rattle.std.specs.Prelude.{slice_get}
use Rattle.std.proofs.lemmas.Bool.{cases_lt}
use Rattle.std.proofs.Math.Nat.{mul-le-mul_right}
use Rattle.mb_mailbox.proofs.Lists.{some_same}
use Rattle.mb_mailbox.proofs.laws.hubs_have_one_report.Goals as goal

-- two lists of one length with the same elements at each place are equal
lists_same : {X : Type 0} (xs ys : List X) → length xs ≡ length ys
    → ((i : ℕ) → i < length xs → slice_get xs i ≡ slice_get ys i) → xs ≡ ys
lists_same [] [] e each = refl
lists_same [] (y ∷ ys) e each = absurd (omega arith)
lists_same (x ∷ xs) [] e each = absurd (omega arith)
lists_same (x ∷ xs) (y ∷ ys) e each =
    let head : x ≡ y = some_same x y (each 0 (omega arith)) in
    let tail = lists_same xs ys (omega arith) (λ i low. each (suc i) (omega arith)) in
    λ j. head j ∷ tail j

-- each number below n * w is c * w + p for some c below n and some p below w
placed : (w n i : ℕ) → i < n * w → (c p : ℕ) × (c < n) × (p < w) × (c * w + p ≡ i)
placed zero n i low = absurd (omega arith)
placed (suc w) n i low =
    let c = i / suc w in
    let p = i % suc w in
    let below : p < suc w = omega arith in
    let is : c * suc w + p ≡ i = omega arith in (
      c,
      p,
      elim (cases_lt c n) [
        | inl less ↦ less
        | inr not ↦ let most : n * suc w ≤ c * suc w = mul-le-mul_right (suc w) not
            in absurd (omega (arith, most, is, low))
      ],
      below,
      is,
    )

pub returns : goal.returns
returns c lanes consumers h r s one two =
    let same : r.lanes ≡ s.lanes = lists_same r.lanes s.lanes (one.lanes_count ∙ sym two.lanes_count)
    (λ p low. let here : p < lanes = subst (λ n. p < n) one.lanes_count low in one.lane p here
    ∙ sym (two.lane p here)) in
    let diaries : r.diaries ≡ s.diaries = lists_same r.diaries s.diaries (one.diaries_count ∙ sym two.diaries_count)
    (λ i low.
    let t = placed lanes consumers i (subst (λ n. i < n) one.diaries_count low) in
    subst (λ k. slice_get r.diaries k ≡ slice_get s.diaries k) t.4
    (one.diary t.0 t.1 t.2 t.3 ∙ sym (two.diary t.0 t.1 t.2 t.3))) in
    λ j. record { lanes = same j; diaries = diaries j }
