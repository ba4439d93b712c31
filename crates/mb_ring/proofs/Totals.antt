-- Sums over the views.
use Rattle.mb_ring.proofs.Base.{List, [], ap, arith, get_elem?, refl, slice_set, some, some-injective, some-ne-none, suc}
use Rattle.mb_ring.proofs.Base.{sym, zero, ℕ, ◌++◌, ◌+◌, ◌∷◌, ◌≡◌, ◌≢◌, ◌≤◌}
use Rattle.mb_ring.specs.Vocabulary.{View, Want, listed, sleeping, total}

module _ {T : Type 0} where
  pub total_set : (f : View T → ℕ) (views : List (View T)) (n : ℕ) (v w : View T) → get_elem? views n ≡ some v
      → total f (slice_set views n w) + f v ≡ total f views + f w
  total_set f [] n v w at = absurd (some-ne-none v (sym at))
  total_set f (x ∷ xs) zero v w at = let e : f x ≡ f v = ap f (some-injective x v at) in omega arith
  total_set f (x ∷ xs) (suc n) v w at = let r = total_set f xs n v w at in omega arith

  pub total_snoc : (f : View T → ℕ) (views : List (View T)) (w : View T)
      → total f (views ++ w ∷ []) ≡ total f views + f w
  total_snoc f [] w = omega arith
  total_snoc f (x ∷ xs) w = let r = total_snoc f xs w in omega arith

  pub below_total : (f : View T → ℕ) (views : List (View T)) (n : ℕ) (v : View T) → get_elem? views n ≡ some v
      → f v ≤ total f views
  below_total f [] n v at = absurd (some-ne-none v (sym at))
  below_total f (x ∷ xs) zero v at = let e : f x ≡ f v = ap f (some-injective x v at) in omega arith
  below_total f (x ∷ xs) (suc n) v at = let r = below_total f xs n v at in omega arith

  pub asleep_listed : (q : Want) (views : List (View T)) → total (sleeping q) views ≤ total (listed q) views
  asleep_listed q [] = omega arith
  asleep_listed q (x ∷ xs) = let r = asleep_listed q xs in omega arith

  none_in_total : (f : View T → ℕ) (views : List (View T))
      → ((n : ℕ) (v : View T) → get_elem? views n ≡ some v → f v ≡ 0) → total f views ≡ 0
  none_in_total f [] all = refl
  none_in_total f (x ∷ xs) all =
      let a = all 0 x refl in let r = none_in_total f xs (λ n v at. all (suc n) v at) in omega arith

  -- the sum is that of one view, where all others have nothing
  pub one_in_total : (f : View T → ℕ) (views : List (View T)) (n : ℕ) (v : View T) → get_elem? views n ≡ some v
      → ((j : ℕ) (u : View T) → get_elem? views j ≡ some u → j ≢ n → f u ≡ 0) → total f views ≡ f v
  one_in_total f [] n v at all = absurd (some-ne-none v (sym at))
  one_in_total f (x ∷ xs) zero v at all =
      let r = none_in_total f xs (λ j u e. all (suc j) u e (λ q. omega arith)) in
      let e : f x ≡ f v = ap f (some-injective x v at) in omega arith
  one_in_total f (x ∷ xs) (suc n) v at all =
      let r = one_in_total f xs n v at (λ j u e ne. all (suc j) u e (λ q. ne (omega arith))) in
      let a = all 0 x refl (λ q. omega arith) in omega arith
