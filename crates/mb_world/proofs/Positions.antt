-- Positions in lists. In lists with the newest element first they count from the right: the oldest is at position 0.
use Rattle.std.proofs.Common.{◌≡◌, ◌⊎◌, ℕ, zero, suc, ◌<◌, List, [], ◌∷◌, ◌++◌, length, Some, refl, sym, ◌∙◌, ap, subst, inl, inr, arith}
use Rattle.std.proofs.lemmas.Bool.{cases_lt}
use Rattle.std.proofs.lemmas.List.{length-map, length-reverse}
use Rattle.std.specs.Prelude.{map, reverse, slice_get}
use Rattle.mb_world.specs.Imports.{Has, IsOnceEach}
use mathlib.Core.List.{reverse-cons}

-- ---- positions counted from the left
-- an element of the first of two joined lists keeps its position
pub get-front : {A : Type 0} (xs ys : List A) (j : ℕ) (x : A) → slice_get xs j ≡ Some x → slice_get (xs ++ ys) j
    ≡ Some x
get-front [] ys j x e = absurd (cc)
get-front (a ∷ xs) ys zero x e = e
get-front (a ∷ xs) ys (suc j) x e = get-front xs ys j x e

-- an element put at the end of a list is at the position that is the list's length
pub get-last : {A : Type 0} (xs : List A) (y : A) → slice_get (xs ++ y ∷ []) (length xs) ≡ Some y
get-last [] y = refl
get-last (a ∷ xs) y = get-last xs y

-- an element of a list with one more at its end is at the same position of the list, or is the one at the end
pub get-snoc : {A : Type 0} (xs : List A) (y : A) (j : ℕ) (x : A) → slice_get (xs ++ y ∷ []) j ≡ Some x
    → (slice_get xs j ≡ Some x) ⊎ ((j ≡ length xs) × (y ≡ x))
get-snoc [] y zero x e = inr (refl, cc)
get-snoc [] y (suc j) x e = absurd (cc)
get-snoc (a ∷ xs) y zero x e = inl e
get-snoc (a ∷ xs) y (suc j) x e = elim (get-snoc xs y j x e) [ inl h ↦ inl h | inr h ↦ inr (ap suc h.0, h.1) ]

-- ---- positions counted from the right
-- k is at position j of the list, counted from the right
abbrev pub HasPosition : List ℕ → ℕ → ℕ → Type 0
HasPosition [] j k = ⊥
HasPosition (x ∷ xs) j k = ((j ≡ length xs) × (x ≡ k)) ⊎ HasPosition xs j k

-- if the reversed list has k at position j from the left, the list has it at position j from the right
pub at_reverse : (xs : List ℕ) (j k : ℕ) → slice_get (reverse xs) j ≡ Some k → HasPosition xs j k
at_reverse [] j k e = absurd (cc)
at_reverse (x ∷ xs) j k e =
    elim (get-snoc (reverse xs) x j k (subst (λ (ys : List ℕ). slice_get ys j ≡ Some k) (reverse-cons x xs) e)) [
      | inl h ↦ inr (at_reverse xs j k h)
      | inr h ↦ inl (h.0 ∙ length-reverse xs, h.1)
    ]

-- if the list has k at position j from the right, the reversed list has it at position j from the left
pub reverse_at : (xs : List ℕ) (j k : ℕ) → HasPosition xs j k → slice_get (reverse xs) j ≡ Some k
reverse_at [] j k h = absurd h
reverse_at (x ∷ xs) j k (inl h) =
    subst (λ (ys : List ℕ). slice_get ys j ≡ Some k) (sym (reverse-cons x xs))
    (subst (λ (i : ℕ). slice_get (reverse xs ++ x ∷ []) i ≡ Some k) (length-reverse xs ∙ sym h.0)
    (get-last (reverse xs) x ∙ ap Some h.1))
reverse_at (x ∷ xs) j k (inr h) =
    subst (λ (ys : List ℕ). slice_get ys j ≡ Some k) (sym (reverse-cons x xs))
    (get-front (reverse xs) (x ∷ []) j k (reverse_at xs j k h))

-- an element at a position is in the list
pub at_has : (xs : List ℕ) (j k : ℕ) → HasPosition xs j k → Has xs k
at_has [] j k h = h
at_has (x ∷ xs) j k (inl h) = inl h.1
at_has (x ∷ xs) j k (inr h) = inr (at_has xs j k h)

-- each element of the list has a position
pub has_at : (xs : List ℕ) (k : ℕ) → Has xs k → (j : ℕ) × HasPosition xs j k
has_at [] k h = absurd h
has_at (x ∷ xs) k (inl e) = (length xs, inl (refl, e))
has_at (x ∷ xs) k (inr h) = let q = has_at xs k h in (q.0, inr q.1)

-- a position with an element is below the length of the list
pub at_within : (xs : List ℕ) (j k : ℕ) → HasPosition xs j k → j < length xs
at_within [] j k h = absurd h
at_within (x ∷ xs) j k (inl h) = omega (arith, h.0)
at_within (x ∷ xs) j k (inr h) = omega (arith, at_within xs j k h)

-- each position below the length of the list has an element
pub at_some : (xs : List ℕ) (j : ℕ) → j < length xs → (k : ℕ) × HasPosition xs j k
at_some [] j h = absurd (omega arith)
at_some (x ∷ xs) j h = elim (cases_lt j (length xs)) [
  | inl inside ↦ let q = at_some xs j inside in (q.0, inr q.1)
  | inr past ↦ (x, inl (omega arith, refl))
]

-- two elements at one position are equal
pub at_one : (xs : List ℕ) (j k m : ℕ) → HasPosition xs j k → HasPosition xs j m → k ≡ m
at_one [] j k m h g = absurd h
at_one (x ∷ xs) j k m (inl h) (inl g) = sym h.1 ∙ g.1
at_one (x ∷ xs) j k m (inl h) (inr g) = absurd (omega (arith, h.0, at_within xs j m g))
at_one (x ∷ xs) j k m (inr h) (inl g) = absurd (omega (arith, g.0, at_within xs j k h))
at_one (x ∷ xs) j k m (inr h) (inr g) = at_one xs j k m h g

-- if a list has each element once, each element has one position
pub at_once : (xs : List ℕ) (i j k : ℕ) → IsOnceEach xs → HasPosition xs i k → HasPosition xs j k → i ≡ j
at_once [] i j k once h g = absurd h
at_once (x ∷ xs) i j k once (inl h) (inl g) = h.0 ∙ sym g.0
at_once (x ∷ xs) i j k once (inl h) (inr g) = absurd (once.0 (subst (Has xs) (sym h.1) (at_has xs j k g)))
at_once (x ∷ xs) i j k once (inr h) (inl g) = absurd (once.0 (subst (Has xs) (sym g.1) (at_has xs i k h)))
at_once (x ∷ xs) i j k once (inr h) (inr g) = at_once xs i j k once.1 h g

-- elements keep their positions if others come in front of them
pub at_start : (later ks : List ℕ) (j k : ℕ) → HasPosition ks j k → HasPosition (later ++ ks) j k
at_start [] ks j k h = h
at_start (x ∷ later) ks j k h = inr (at_start later ks j k h)

-- if a list has k at position j from the right, the list mapped by f and reversed has f of k there from the left
pub mapped_at : {A : Type 0} (f : ℕ → A) (xs : List ℕ) (j k : ℕ) → HasPosition xs j k
    → slice_get (reverse (map f xs)) j ≡ Some (f k)
mapped_at f [] j k h = absurd h
mapped_at {A} f (x ∷ xs) j k (inl h) =
    subst (λ (ys : List A). slice_get ys j ≡ Some (f k)) (sym (reverse-cons (f x) (map f xs)))
    (subst (λ (i : ℕ). slice_get (reverse (map f xs) ++ f x ∷ []) i ≡ Some (f k))
    (length-reverse (map f xs) ∙ (length-map xs f ∙ sym h.0))
    (get-last (reverse (map f xs)) (f x) ∙ ap (λ (i : ℕ). Some (f i)) h.1))
mapped_at {A} f (x ∷ xs) j k (inr h) =
    subst (λ (ys : List A). slice_get ys j ≡ Some (f k)) (sym (reverse-cons (f x) (map f xs)))
    (get-front (reverse (map f xs)) (f x ∷ []) j (f k) (mapped_at f xs j k h))
