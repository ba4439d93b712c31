-- Reversed lists (`reverse`), and places counted from the end of a list.
use Rattle.std.proofs.Common.{◌≡◌, ◌⊎◌, ℕ, ◌<◌, List, [], ◌∷◌, ◌++◌, length, sym, ◌∙◌, ap, subst, inl, inr, ⊎_elim, arith}
use Rattle.std.proofs.lemmas.List.{length-reverse}
use Rattle.std.specs.Prelude.{Some, reverse, slice_get}
use mathlib.Core.List.{reverse-cons}
use Rattle.mb_world.proofs.Positions.{get-last, get-front, get-snoc}

-- if i is the length of a list, the element added at its end is element i
pub get_end : {X : Type 0} (xs : List X) (y : X) (i : ℕ) → i ≡ length xs → slice_get (xs ++ y ∷ []) i ≡ Some y
get_end xs y i e = subst (λ j. slice_get (xs ++ y ∷ []) j ≡ Some y) (sym e) (get-last xs y)

-- x is the element at place j from the end of the list, whose last element is at place 0
abbrev pub FromEnd : {X : Type 0} → List X → ℕ → X → Type 0
FromEnd [] j x = ⊥
FromEnd (y ∷ ys) j x = ((j ≡ length ys) × (y ≡ x)) ⊎ FromEnd ys j x

-- element j of the reversed list is the one at place j from the end, and by `at_end` the converse holds
pub from_end : {X : Type 0} (xs : List X) (j : ℕ) (x : X) → slice_get (reverse xs) j ≡ Some x → FromEnd xs j x
from_end [] j x e = absurd (cc)
from_end {X} (y ∷ ys) j x e =
    ⊎_elim (λ h. inr (from_end ys j x h)) (λ h. inl (h.0 ∙ length-reverse ys, h.1))
    (get-snoc (reverse ys) y j x (subst (λ (zs : List X). slice_get zs j ≡ Some x) (reverse-cons y ys) e))

pub at_end : {X : Type 0} (xs : List X) (j : ℕ) (x : X) → FromEnd xs j x → slice_get (reverse xs) j ≡ Some x
at_end [] j x h = absurd h
at_end {X} (y ∷ ys) j x (inl h) =
    subst (λ (zs : List X). slice_get zs j ≡ Some x) (sym (reverse-cons y ys))
    (get_end (reverse ys) y j (h.0 ∙ sym (length-reverse ys)) ∙ ap Some h.1)
at_end {X} (y ∷ ys) j x (inr h) =
    subst (λ (zs : List X). slice_get zs j ≡ Some x) (sym (reverse-cons y ys))
    (get-front (reverse ys) (y ∷ []) j x (at_end ys j x h))

-- if there is an element at place j from the end, j is below the length of the list
pub end_within : {X : Type 0} (xs : List X) (j : ℕ) (x : X) → FromEnd xs j x → j < length xs
end_within [] j x h = absurd h
end_within (y ∷ ys) j x (inl h) = let e = h.0 in omega arith
end_within (y ∷ ys) j x (inr h) = let low = end_within ys j x h in omega arith
