-- How many values were sent in a segment: what the accounts count is what its history has.
use Rattle.std.proofs.Common.{ℕ, suc, Bool, true, false, List, [], length, nat_eq, sym, refl, ap, subst, inl, inr, ⊎_elim, arith, eq-eqb, ne_eqb}
use Rattle.std.proofs.Common.{◌≡◌, ◌+◌, ◌∷◌, ◌∙◌, if◌then◌else◌}
use mathlib.Core.Option.{some}
use lib.ListN.{get_elem?}
use native.Mathlib.Decide.{ℕ_discrete}
use Rattle.std.proofs.lemmas.List.{length-map}
use Rattle.mb_segment.specs.History as seg
use Rattle.mb_segment.specs.Passes.{Distinct, In, Match}
use Rattle.mb_segment.specs.Whole.{IsWhole as IsToldWhole}
use Rattle.mb_channel.specs.Types.{Account}
use Rattle.mb_channel.specs.Segments.{drawn}
use Rattle.mb_channel.specs.Lives.{count_sent}
use Rattle.mb_channel.proofs.Accounts.{all_same, entry, history_of}

abbrev is_one : ℕ → ℕ → ℕ
is_one k n = if nat_eq k n then 1 else 0

abbrev sum_of : (ℕ → ℕ) → List ℕ → ℕ
sum_of f [] = 0
sum_of f (n ∷ ns) = f n + sum_of f ns

no_sum : (ns : List ℕ) → sum_of (λ n. 0) ns ≡ 0
no_sum [] = refl
no_sum (n ∷ ns) = let r = no_sum ns in omega arith

none_is : (k : ℕ) (ns : List ℕ) → (In k ns → ⊥) → sum_of (is_one k) ns ≡ 0
none_is k [] un = refl
none_is k (n ∷ ns) un = let a = none_is k ns (λ r. un (inr r)) in
    let b : is_one k n ≡ 0 = ap (λ (b : Bool). if b then 1 else 0) (ne_eqb k n (λ e. un (inl e))) in omega arith

one_is : (k : ℕ) (ns : List ℕ) → Distinct ns → In k ns → sum_of (is_one k) ns ≡ 1
one_is k [] apart is = absurd is
one_is k (n ∷ ns) apart is = go (λ r. one_is k ns apart.1 r) (ℕ_discrete k n)
  where
    go : (In k ns → sum_of (is_one k) ns ≡ 1) → Dec (k ≡ n) → is_one k n + sum_of (is_one k) ns ≡ 1
    go rec (yes e) = let a = none_is k ns (λ r. apart.0 (subst (λ j. In j ns) e r)) in
        let b : is_one k n ≡ 1 = ap (λ (b : Bool). if b then 1 else 0) (eq-eqb k n e) in omega arith
    go rec (no e) = let a = rec (⊎_elim (λ q. absurd (e q)) (λ r. r) is) in
        let b : is_one k n ≡ 0 = ap (λ (b : Bool). if b then 1 else 0) (ne_eqb k n e) in omega arith

module _ {T : Type 0} where
  one_more : (p n : ℕ) (e : seg.Entry T) (es : List (seg.Entry T))
      → length (seg.spots_by n p (e ∷ es)) ≡ is_one e.by n + length (seg.spots_by n (suc p) es)
  one_more p n e es = go (nat_eq e.by n)
    where
      go : (b : Bool)
          → length (if b then seg.spot p e.value ∷ seg.spots_by n (suc p) es else seg.spots_by n (suc p) es)
          ≡ (if b then 1 else 0) + length (seg.spots_by n (suc p) es)
      go true = omega arith
      go false = omega arith

  sums_up : (p : ℕ) (e : seg.Entry T) (es : List (seg.Entry T)) (ns : List ℕ)
      → sum_of (λ n. length (seg.spots_by n p (e ∷ es))) ns
      ≡ sum_of (is_one e.by) ns + sum_of (λ n. length (seg.spots_by n (suc p) es)) ns
  sums_up p e es [] = refl
  sums_up p e es (n ∷ ns) = let a = sums_up p e es ns in let b = one_more p n e es in omega arith

  all_sent : (p : ℕ) (es : List (seg.Entry T)) (ns : List ℕ) → Distinct ns
      → ((k : ℕ) (e : seg.Entry T) → get_elem? es k ≡ some e → In e.by ns)
      → sum_of (λ n. length (seg.spots_by n p es)) ns ≡ length es
  all_sent p [] ns apart by = no_sum ns
  all_sent p (e ∷ es) ns apart by = let a = all_sent (suc p) es ns apart (λ k d at. by (suc k) d at) in
      let b = sums_up p e es ns in let c = one_is e.by ns apart (by 0 e refl) in omega arith

  counted : (h : seg.History T) (ns : List ℕ) (xs : List (Account T)) → Match h ns xs
      → count_sent xs ≡ sum_of (λ n. length (seg.spots_by n 0 (seg.all_entries h))) ns
  counted h [] [] is = refl
  counted h (n ∷ ns) [] is = absurd is
  counted h [] (a ∷ xs) is = absurd is
  counted h (n ∷ ns) (a ∷ xs) is = let r = counted h ns xs is.3 in let e = ap length is.0 in omega arith

  pub drawn_told : (xs : List (Account T)) (left : List T) (w : IsToldWhole xs left)
      → drawn (history_of w.history) ≡ count_sent xs
  drawn_told xs left w = ap length (sym (all_same w.history)) ∙ length-map (seg.all_entries w.history) entry
      ∙ sym (all_sent 0 (seg.all_entries w.history) w.numbers w.apart w.senders)
      ∙ sym (counted w.history w.numbers xs w.accounts_)
