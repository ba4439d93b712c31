-- The views and parts that seats have, after one view is replaced or added.
use Rattle.std.proofs.Common.{◌≡◌, ◌≢◌, ◌⊎◌, ℕ, zero, suc, List, [], ◌∷◌, ◌++◌, length, set, refl, sym, ap, ◌∙◌}
use Rattle.std.proofs.Common.{subst, ⊎_elim, inl, inr}
use mathlib.Core.Option.{some-injective, some-ne-none}
use native.Mathlib.Decide.{ℕ_discrete}
use Rattle.atomic_table.proofs.Lists.{at_set, at_longer, at_last, set_else}
use Rattle.mb_shared_claims.specs.Types.{ClaimAccess, View}
use Rattle.mb_shared_claims.specs.Views.{HasPart, IsViewAt, HasPartAt}

-- a seat whose view was replaced has the new one
pub at_replaced : (views : List View) (id : ℕ) (v w : View) → IsViewAt views id v → IsViewAt (set views id w) id w
at_replaced [] id v w e = absurd (some-ne-none v (sym e))
at_replaced (x ∷ xs) zero v w e = refl
at_replaced (x ∷ xs) (suc id) v w e = at_replaced xs id v w e

-- if P holds of each other view and of the new one, it holds of each view after one is replaced
pub all_set :
    (P : ℕ → View → Type 0) (views : List View) (id : ℕ) (w : View)
    → ((j : ℕ) (u : View) → j ≢ id → IsViewAt views j u → P j u) → P id w
    → (j : ℕ) (u : View) → IsViewAt (set views id w) j u → P j u
all_set P views id w others mine j u e =
    ⊎_elim
    (λ (x : (j ≡ id) × (w ≡ u)). subst (λ (y : ℕ × View). P y.0 y.1) (λ i. (sym x.0 i, x.1 i)) mine)
    (λ (x : (j ≢ id) × IsViewAt views j u). others j u x.0 x.1)
    (at_set views id j w u e)

-- a view of a list with one view added is one of those before, or the added one, at the end
at_added :
    (views : List View) (w u : View) (j : ℕ) → IsViewAt (views ++ w ∷ []) j u
    → IsViewAt views j u ⊎ ((j ≡ length views) × (w ≡ u))
at_added [] w u zero e = inr (refl, some-injective w u e)
at_added [] w u (suc j) e = absurd (some-ne-none u (sym e))
at_added (x ∷ xs) w u zero e = inl e
at_added (x ∷ xs) w u (suc j) e = ⊎_elim inl (λ t. inr (ap suc t.0, t.1)) (at_added xs w u j e)

-- if P holds of each view and of the new one, it holds of each view after that is added
pub all_added :
    (P : ℕ → View → Type 0) (views : List View) (w : View)
    → ((j : ℕ) (u : View) → IsViewAt views j u → P j u) → P (length views) w
    → (j : ℕ) (u : View) → IsViewAt (views ++ w ∷ []) j u → P j u
all_added P views w others mine j u e =
    ⊎_elim (others j u)
    (λ (x : (j ≡ length views) × (w ≡ u)). subst (λ (y : ℕ × View). P y.0 y.1) (λ i. (sym x.0 i, x.1 i)) mine)
    (at_added views w u j e)

-- a part at a seat is still there after a view is replaced, if the new view has that part in case the old one had it.
-- Either the seat is that of the view, or it is another
kept_by :
    (views : List View) (id j c : ℕ) (v w : View) (xs : List ClaimAccess) → IsViewAt views id v
    → (HasPart v c xs → HasPart w c xs) → HasPartAt views j c xs → Dec (j ≡ id) → HasPartAt (set views id w) j c xs
kept_by views id j c v w xs at keeps has (yes same) =
    let is : has.0 ≡ v = some-injective has.0 v (sym has.1 ∙ ap (λ n. lib.ListN.get_elem? views n) same ∙ at) in
    subst (λ n. HasPartAt (set views id w) n c xs) (sym same)
    (w, at_replaced views id v w at, keeps (subst (λ u. HasPart u c xs) is has.2))
kept_by views id j c v w xs at keeps has (no apart) = (has.0, set_else views id j w apart ∙ has.1, has.2)

-- a part at a seat is still there after a view is replaced, if the new view has that part in case the old one had it
pub kept_at :
    (views : List View) (id j c : ℕ) (v w : View) (xs : List ClaimAccess) → IsViewAt views id v
    → (HasPart v c xs → HasPart w c xs) → HasPartAt views j c xs → HasPartAt (set views id w) j c xs
kept_at views id j c v w xs at keeps has = kept_by views id j c v w xs at keeps has (ℕ_discrete j id)

-- a part at a seat is still there after a view is added at the end
pub kept_beside :
    (views : List View) (w : View) (j c : ℕ) (xs : List ClaimAccess) → HasPartAt views j c xs
    → HasPartAt (views ++ w ∷ []) j c xs
kept_beside views w j c xs has = (has.0, at_longer views (w ∷ []) j has.0 has.1, has.2)

-- a part that an added view has is at the new seat, the last
pub has_added :
    (views : List View) (w : View) (c : ℕ) (xs : List ClaimAccess) → HasPart w c xs
    → HasPartAt (views ++ w ∷ []) (length views) c xs
has_added views w c xs has = (w, at_last views w (length views) refl, has)

-- a part that the new view of a seat has is at that seat
pub has_replaced :
    (views : List View) (id c : ℕ) (v w : View) (xs : List ClaimAccess) → IsViewAt views id v → HasPart w c xs
    → HasPartAt (set views id w) id c xs
has_replaced views id c v w xs at has = (w, at_replaced views id v w at, has)
