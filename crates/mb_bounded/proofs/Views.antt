-- Sums over views.
use Rattle.std.proofs.Common.{ℕ, zero, suc, List, [], sym, ap, arith, ◌≡◌, ◌+◌, ◌≤◌, ◌∷◌, ◌++◌}
use Rattle.std.specs.Prelude.{slice_set}
use mathlib.Core.Option.{some, some-injective, some-ne-none}
use lib.ListN.{get_elem?}
use Rattle.mb_bounded.specs.Types.{Knows}
use Rattle.mb_bounded.specs.Desks.{total}

module _ {T : Type 0} where
  pub total_set : (f : Knows T → ℕ) (views : List (Knows T)) (id : ℕ) (v w : Knows T) → get_elem? views id ≡ some v
      → total f (slice_set views id w) + f v ≡ total f views + f w
  total_set f [] id v w at = absurd (some-ne-none v (sym at))
  total_set f (x ∷ xs) zero v w at = let e : f x ≡ f v = ap f (some-injective x v at) in omega arith
  total_set f (x ∷ xs) (suc id) v w at = let r = total_set f xs id v w at in omega arith

  pub same_total : (f : Knows T → ℕ) (views : List (Knows T)) (id : ℕ) (v w : Knows T) → get_elem? views id ≡ some v
      → f w ≡ f v → total f (slice_set views id w) ≡ total f views
  same_total f views id v w at e = let t = total_set f views id v w at in omega arith

  pub total_snoc : (f : Knows T → ℕ) (views : List (Knows T)) (w : Knows T)
      → total f (views ++ w ∷ []) ≡ total f views + f w
  total_snoc f [] w = omega arith
  total_snoc f (x ∷ xs) w = let r = total_snoc f xs w in omega arith

  pub below_total : (f : Knows T → ℕ) (views : List (Knows T)) (id : ℕ) (v : Knows T) → get_elem? views id ≡ some v
      → f v ≤ total f views
  below_total f [] id v at = absurd (some-ne-none v (sym at))
  below_total f (x ∷ xs) zero v at = let e : f x ≡ f v = ap f (some-injective x v at) in omega arith
  below_total f (x ∷ xs) (suc id) v at = let r = below_total f xs id v at in omega arith
