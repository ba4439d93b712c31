-- Sums over the views, and the list of views itself.
use Rattle.mb_segment.proofs.Base.{List, [], ap, arith, get_elem?, inl, inr, length, refl, slice_set, some}
use Rattle.mb_segment.proofs.Base.{some-injective, some-ne-none, suc, sym, zero, ℕ, ⊎_elim, ◌++◌, ◌+◌, ◌<◌}
use Rattle.mb_segment.proofs.Base.{◌∷◌, ◌≡◌, ◌≢◌, ◌≤◌, ◌⊎◌}
use Rattle.mb_segment.specs.Vocabulary.{View, listed, new_hub, sleeping, total}

module _ {T : Type 0} where
  pub total_set : (f : View T → ℕ) (views : List (View T)) (n : ℕ) (v w : View T) → get_elem? views n ≡ some v
      → total f (slice_set views n w) + f v ≡ total f views + f w
  total_set f [] n v w at = absurd (some-ne-none v (sym at))
  total_set f (x ∷ xs) zero v w at = let e : f x ≡ f v = ap f (some-injective x v at) in omega arith
  total_set f (x ∷ xs) (suc n) v w at = let r = total_set f xs n v w at in omega arith

  pub total_snoc : (f : View T → ℕ) (views : List (View T)) (w : View T)
      → total f (views ++ w ∷ []) ≡ total f views + f w
  total_snoc f [] w = omega arith
  total_snoc f (x ∷ xs) w = let r = total_snoc f xs w in omega arith

  pub below_total : (f : View T → ℕ) (views : List (View T)) (n : ℕ) (v : View T) → get_elem? views n ≡ some v
      → f v ≤ total f views
  below_total f [] n v at = absurd (some-ne-none v (sym at))
  below_total f (x ∷ xs) zero v at = let e : f x ≡ f v = ap f (some-injective x v at) in omega arith
  below_total f (x ∷ xs) (suc n) v at = let r = below_total f xs n v at in omega arith

  pub asleep_listed : (views : List (View T)) → total sleeping views ≤ total listed views
  asleep_listed [] = omega arith
  asleep_listed (x ∷ xs) = let r = asleep_listed xs in omega arith

  pub none_in_total : (f : View T → ℕ) (views : List (View T))
      → ((n : ℕ) (v : View T) → get_elem? views n ≡ some v → f v ≡ 0) → total f views ≡ 0
  none_in_total f [] all = refl
  none_in_total f (x ∷ xs) all =
      let a = all 0 x refl in let r = none_in_total f xs (λ n v at. all (suc n) v at) in omega arith

  -- the sum is that of one view, where all others have nothing
  pub one_in_total : (f : View T → ℕ) (views : List (View T)) (n : ℕ) (v : View T) → get_elem? views n ≡ some v
      → ((j : ℕ) (u : View T) → get_elem? views j ≡ some u → j ≢ n → f u ≡ 0) → total f views ≡ f v
  one_in_total f [] n v at all = absurd (some-ne-none v (sym at))
  one_in_total f (x ∷ xs) zero v at all =
      let r = none_in_total f xs (λ j u e. all (suc j) u e (λ q. omega arith)) in
      let e : f x ≡ f v = ap f (some-injective x v at) in omega arith
  one_in_total f (x ∷ xs) (suc n) v at all =
      let r = one_in_total f xs n v at (λ j u e ne. all (suc j) u e (λ q. ne (omega arith))) in
      let a = all 0 x refl (λ q. omega arith) in omega arith

  pub length_set : (views : List (View T)) (n : ℕ) (w : View T) → length (slice_set views n w) ≡ length views
  length_set [] n w = refl
  length_set (x ∷ xs) zero w = refl
  length_set (x ∷ xs) (suc n) w = let r = length_set xs n w in omega arith

  pub length_snoc : (views : List (View T)) (w : View T) → length (views ++ w ∷ []) ≡ length views + 1
  length_snoc [] w = omega arith
  length_snoc (x ∷ xs) w = let r = length_snoc xs w in omega arith

  -- a view that is there stands before the end
  pub there : (views : List (View T)) (n : ℕ) (v : View T) → get_elem? views n ≡ some v → n < length views
  there [] n v at = absurd (some-ne-none v (sym at))
  there (x ∷ xs) zero v at = omega arith
  there (x ∷ xs) (suc n) v at = let r = there xs n v at in omega arith

  pub first_is : (n : ℕ) (v : View T) → get_elem? (new_hub ∷ []) n ≡ some v → (0 ≡ n) × (new_hub ≡ v)
  first_is zero v at = (refl, some-injective new_hub v at)
  first_is (suc n) v at = absurd (some-ne-none v (sym at))

  pub some_view : (views : List (View T)) (n : ℕ) → n < length views → (v : View T) × (get_elem? views n ≡ some v)
  some_view [] n lt = absurd (omega arith)
  some_view (x ∷ xs) zero lt = (x, refl)
  some_view (x ∷ xs) (suc n) lt = some_view xs n (omega arith)

  pub snoc_cases : (l : List (View T)) (a b : View T) (j : ℕ) → get_elem? (l ++ a ∷ []) j ≡ some b
      → (get_elem? l j ≡ some b) ⊎ ((j ≡ length l) × (a ≡ b))
  snoc_cases [] a b zero e = inr (refl, some-injective a b e)
  snoc_cases [] a b (suc j) e = absurd (some-ne-none b (sym e))
  snoc_cases (x ∷ xs) a b zero e = inl e
  snoc_cases (x ∷ xs) a b (suc j) e =
      ⊎_elim (λ t. inl t) (λ t. let i = t.0 in inr (omega arith, t.1)) (snoc_cases xs a b j e)
