-- Grids: rows and columns in one list, row by row. What holds of all elements after none has changed, or one.
use Rattle.std.proofs.Common.{◌≡◌, ◌⊎◌, ℕ, zero, suc, ◌+◌, ◌*◌, ◌<◌, List, [], ◌∷◌, length, Some, refl, sym, ◌∙◌, ap, subst, inl, inr, arith}
use Rattle.std.specs.Prelude.{slice_get, slice_set}
use Rattle.std.proofs.lemmas.Bool.{cases_eq}
use Rattle.std.proofs.lemmas.Nat.{same_from_place}
use Rattle.mb_world.proofs.NewWorlds.{position_within}

-- an element set at a position within a list is at that position then
pub get_set_same : {X : Type 0} (xs : List X) (i : ℕ) (x : X) → i < length xs → slice_get (slice_set xs i x) i ≡ Some x
get_set_same [] i x less = absurd (omega arith)
get_set_same (y ∷ xs) zero x less = refl
get_set_same (y ∷ xs) (suc i) x less = get_set_same xs i x (omega arith)

-- at each other position the list stays as it was
pub get_set_other : {X : Type 0} (xs : List X) (i j : ℕ) (x : X) → (j ≡ i → ⊥)
    → slice_get (slice_set xs i x) j ≡ slice_get xs j
get_set_other [] i j x other = refl
get_set_other (y ∷ xs) zero zero x other = absurd (other refl)
get_set_other (y ∷ xs) zero (suc j) x other = refl
get_set_other (y ∷ xs) (suc i) zero x other = refl
get_set_other (y ∷ xs) (suc i) (suc j) x other = get_set_other xs i j x (λ e. other (ap suc e))

module _ {X : Type 0} (rows columns : ℕ) where
  -- each element of the grid has the property P at its row and its column
  abbrev pub HasAll : (ℕ → ℕ → X → Type 0) → List X → Type 0
  HasAll P xs =
      (c p : ℕ) → c < rows → p < columns → (x : X) × (slice_get xs (c * columns + p) ≡ Some x) × P c p x

  module _ (P Q : ℕ → ℕ → X → Type 0) (xs : List X) (all : HasAll P xs) where
    -- if no element changes, and each that has P has Q, all have Q
    pub all_kept : ((c p : ℕ) (x : X) → c < rows → p < columns → slice_get xs (c * columns + p) ≡ Some x → P c p x
        → Q c p x) → HasAll Q xs
    all_kept keeps c p cs ps = let old = all c p cs ps in (old.0, old.1, keeps c p old.0 cs ps old.1 old.2)

    -- one element changes: that at row c and column p
    module _ (c p : ℕ) (cs : c < rows) (ps : p < columns) (count : length xs ≡ rows * columns) (y : X) (new : Q c p y)
        (keeps : (d q : ℕ) (x : X) → d < rows → q < columns → (d ≡ c → q ≡ p → ⊥) → P d q x → Q d q x) where
      -- the position of the element that changes is within the list
      inside : c * columns + p < length xs
      inside = omega (arith, count, position_within c p rows columns cs ps)

      -- if the new element has Q, and each other that has P has Q, all have Q after the change
      pub all_set : HasAll Q (slice_set xs (c * columns + p) y)
      all_set d q ds qs = by (cases_eq (d * columns + q) (c * columns + p))
        where
          by : (d * columns + q ≡ c * columns + p) ⊎ (d * columns + q ≡ c * columns + p → ⊥)
              → (x : X) × (slice_get (slice_set xs (c * columns + p) y) (d * columns + q) ≡ Some x) × Q d q x
          by (inl same) =
              let at = same_from_place d q c p columns qs ps same in (
                y,
                ap (slice_get (slice_set xs (c * columns + p) y)) same ∙ get_set_same xs (c * columns + p) y inside,
                subst (λ (i : ℕ). Q i q y) (sym at.0) (subst (λ (i : ℕ). Q c i y) (sym at.1) new),
              )
          by (inr other) =
              let old = all d q ds qs in (
                old.0,
                get_set_other xs (c * columns + p) (d * columns + q) y other ∙ old.1,
                keeps d q old.0 ds qs (λ e f. other
                    (ap (λ (i : ℕ). i * columns + q) e ∙ ap (λ (i : ℕ). c * columns + i) f))
                    old.2,
              )
