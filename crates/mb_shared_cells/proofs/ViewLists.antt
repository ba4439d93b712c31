-- Lists of views and of parts, with one replaced or one added.
use Rattle.std.proofs.Common.{List, [], arith, ap, inl, inr, length, refl, slice_set, subst, suc, sym, zero, ℕ, ⊎_elim, ◌++◌, ◌<◌, ◌∷◌, ◌≡◌, ◌≢◌, ◌≤◌, ◌⊎◌}
use Rattle.std.specs.Prelude.{None, Option, Some, slice_get}
use mathlib.Core.Option.{some, some-injective, some-ne-none}
use lib.ListN.{get_elem?}
use Rattle.atomic_table.proofs.Lists.{at_set}
use Rattle.mb_cells.specs.Vocabulary.{History}
use Rattle.mb_shared_cells.specs.Views.{PartList}
use Rattle.mb_shared_cells.specs.declared.views.View.{View}

-- ---- lists of views
-- if P holds of a new view and of each view that it does not replace, P holds of each view after the replacement
pub all_set : (P : ℕ → View → Type 0) (views : List View) (at : ℕ) (new : View)
    → ((j : ℕ) (v : View) → j ≢ at → get_elem? views j ≡ some v → P j v) → P at new
    → (j : ℕ) (v : View) → get_elem? (slice_set views at new) j ≡ some v → P j v
all_set P views at new others mine j v e =
    ⊎_elim
    (λ (x : (j ≡ at) × (new ≡ v)). subst (λ (y : ℕ × View). P y.0 y.1) (λ i. (sym x.0 i, x.1 i)) mine)
    (λ (x : (j ≢ at) × (get_elem? views j ≡ some v)). others j v x.0 x.1)
    (at_set views at j new v e)

-- each view in a list with a new one added at the end was at its position before, or is the new one at the end
at_snoc : (views : List View) (new v : View) (j : ℕ) → get_elem? (views ++ new ∷ []) j ≡ some v
    → ((get_elem? views j ≡ some v) × (j < length views)) ⊎ ((j ≡ length views) × (new ≡ v))
at_snoc [] new v zero e = inr (refl, some-injective new v e)
at_snoc [] new v (suc j) e = absurd (some-ne-none v (sym e))
at_snoc (x ∷ xs) new v zero e = inl (e, omega arith)
at_snoc (x ∷ xs) new v (suc j) e =
    ⊎_elim (λ t. let h = t.1 in inl (t.0, omega arith)) (λ t. inr (ap suc t.0, t.1)) (at_snoc xs new v j e)

-- if P holds of each view and of a new one, it holds of each view after the new one is added
pub all_snoc : (P : ℕ → View → Type 0) (views : List View) (new : View)
    → ((j : ℕ) (v : View) → get_elem? views j ≡ some v → P j v) → P (length views) new
    → (j : ℕ) (v : View) → get_elem? (views ++ new ∷ []) j ≡ some v → P j v
all_snoc P views new others mine j v e =
    ⊎_elim
    (λ (x : (get_elem? views j ≡ some v) × (j < length views)). others j v x.0)
    (λ (x : (j ≡ length views) × (new ≡ v)).
    subst (λ (y : ℕ × View). P y.0 y.1) (λ i. (sym x.0 i, x.1 i)) mine)
    (at_snoc views new v j e)

-- a seat that has a view in the list is below the length of the list
pub at_within : (views : List View) (j : ℕ) (v : View) → get_elem? views j ≡ some v → j < length views
at_within [] j v e = absurd (some-ne-none v (sym e))
at_within (x ∷ xs) zero v e = omega arith
at_within (x ∷ xs) (suc j) v e = let h = at_within xs j v e in omega arith

-- ---- lists of parts
-- after a number without a part is added to a list of parts, the list still has what it had
pub longer_has : (xs : PartList) (k : ℕ) (b : Option History) → slice_get xs k ≡ Some b
    → slice_get (xs ++ None ∷ []) k ≡ Some b
longer_has [] k b e = absurd (cc)
longer_has (x ∷ xs) zero b e = e
longer_has (x ∷ xs) (suc k) b e = longer_has xs k b e

-- after a number without a part is added to a list of parts, each part in the list was there before
pub longer_had : (xs : PartList) (k : ℕ) (done : History) → slice_get (xs ++ None ∷ []) k ≡ Some (Some done)
    → slice_get xs k ≡ Some (Some done)
longer_had [] zero done e = absurd (cc)
longer_had [] (suc k) done e = absurd (cc)
longer_had (x ∷ xs) zero done e = e
longer_had (x ∷ xs) (suc k) done e = longer_had xs k done e

-- after the element at one number of a list is replaced, each element is the new one, or was at its number before
pub set_had : (xs : PartList) (i k : ℕ) (a b : Option History) → slice_get (slice_set xs i a) k ≡ Some b
    → ((i ≡ k) × (a ≡ b)) ⊎ (slice_get xs k ≡ Some b)
set_had [] i k a b e = absurd (cc)
set_had (x ∷ xs) zero zero a b e = inl (refl, cc)
set_had (x ∷ xs) zero (suc k) a b e = inr e
set_had (x ∷ xs) (suc i) zero a b e = inr e
set_had (x ∷ xs) (suc i) (suc k) a b e =
    ⊎_elim (λ t. inl (ap suc t.0, t.1)) (λ t. inr t) (set_had xs i k a b e)

-- after an element is stored at a number that the list has, the list has it at that number
pub set_here : (xs : PartList) (k : ℕ) (a b : Option History) → slice_get xs k ≡ Some b
    → slice_get (slice_set xs k a) k ≡ Some a
set_here [] k a b e = absurd (cc)
set_here (x ∷ xs) zero a b e = refl
set_here (x ∷ xs) (suc k) a b e = set_here xs k a b e

-- a number that had a part still has one after a part is stored at some number
pub set_has : (xs : PartList) (i k : ℕ) (done d : History) → slice_get xs k ≡ Some (Some d)
    → (part : History) × (slice_get (slice_set xs i (Some done)) k ≡ Some (Some part))
set_has [] i k done d e = absurd (cc)
set_has (x ∷ xs) zero zero done d e = (done, refl)
set_has (x ∷ xs) zero (suc k) done d e = (d, e)
set_has (x ∷ xs) (suc i) zero done d e = (d, e)
set_has (x ∷ xs) (suc i) (suc k) done d e = set_has xs i k done d e

-- at each number below its length a list has None (not returned), or a part
pub out_or_in : (xs : PartList) (k : ℕ) → k < length xs
    → (slice_get xs k ≡ Some None) ⊎ ((done : History) × (slice_get xs k ≡ Some (Some done)))
out_or_in [] k low = absurd (omega arith)
out_or_in (None ∷ rest) zero low = inl refl
out_or_in (Some done ∷ rest) zero low = inr (done, refl)
out_or_in (x ∷ rest) (suc k) low = out_or_in rest k (omega arith)

-- a number at which a list has nothing is not below its length
pub none_past : (xs : PartList) (k : ℕ) → slice_get xs k ≡ None → length xs ≤ k
none_past [] k e = omega arith
none_past (x ∷ xs) zero e = absurd (cc)
none_past (x ∷ xs) (suc k) e = let low = none_past xs k e in omega arith
