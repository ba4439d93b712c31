-- Lists with one element set, elements at places, and lists that are mapped.
use Rattle.std.proofs.Common.{◌≡◌, ◌∙◌, ◌≢◌, ◌⊎◌, ℕ, zero, suc, ◌<◌, List, [], ◌∷◌, map, length, refl, sym, ap, inl, inr, ⊎_elim, arith}
use Rattle.std.specs.Prelude.{Some, slice_get, slice_set}
use Rattle.std.specs.Option.{option_map}
use Rattle.std.proofs.lemmas.Option.{slice_get-map}

pub some_same : {X : Type 0} (a b : X) → Some a ≡ Some b → a ≡ b
some_same a b e = cc

-- after element i is set to a, element k is a if k is i, and else what it was before
pub set_get : {X : Type 0} (xs : List X) (i k : ℕ) (a b : X) → slice_get (slice_set xs i a) k ≡ Some b
    → ((k ≡ i) × (a ≡ b)) ⊎ ((k ≢ i) × (slice_get xs k ≡ Some b))
set_get [] i k a b e = absurd (cc)
set_get (x ∷ xs) zero zero a b e = inl (refl, cc)
set_get (x ∷ xs) zero (suc k) a b e = inr ((λ h. omega arith), e)
set_get (x ∷ xs) (suc i) zero a b e = inr ((λ h. omega arith), e)
set_get (x ∷ xs) (suc i) (suc k) a b e =
    ⊎_elim (λ t. inl (ap suc t.0, t.1)) (λ t. let n = t.0 in inr ((λ h. n (omega arith)), t.1)) (set_get xs i k a b e)

-- an element that is set to itself changes nothing
pub set_same : {X : Type 0} (xs : List X) (i : ℕ) (a : X) → slice_get xs i ≡ Some a → slice_set xs i a ≡ xs
set_same [] i a e = refl
set_same (x ∷ xs) zero a e = let f : x ≡ a = cc in ap (λ y. y ∷ xs) (sym f)
set_same (x ∷ xs) (suc i) a e = ap (λ ys. x ∷ ys) (set_same xs i a e)

-- if two elements are set at one place, one after the other, the list is as if only the second was set
pub set_twice : {X : Type 0} (xs : List X) (i : ℕ) (a b : X) → slice_set (slice_set xs i a) i b ≡ slice_set xs i b
set_twice [] i a b = refl
set_twice (x ∷ xs) zero a b = refl
set_twice (x ∷ xs) (suc i) a b = ap (λ ys. x ∷ ys) (set_twice xs i a b)

-- if a list has an element i, that element is a after it is set to a
pub set_here : {X : Type 0} (xs : List X) (i : ℕ) (a b : X) → slice_get xs i ≡ Some b
    → slice_get (slice_set xs i a) i ≡ Some a
set_here [] i a b e = absurd (cc)
set_here (x ∷ xs) zero a b e = refl
set_here (x ∷ xs) (suc i) a b e = set_here xs i a b e

-- to set element i leaves each other element as it is
pub set_else : {X : Type 0} (xs : List X) (i k : ℕ) (a : X) → k ≢ i → slice_get (slice_set xs i a) k ≡ slice_get xs k
set_else [] i k a ne = refl
set_else (x ∷ xs) zero zero a ne = absurd (ne refl)
set_else (x ∷ xs) zero (suc k) a ne = refl
set_else (x ∷ xs) (suc i) zero a ne = refl
set_else (x ∷ xs) (suc i) (suc k) a ne = set_else xs i k a (λ e. ne (ap suc e))

-- there is an element at each place within a list
pub get_some : {X : Type 0} (xs : List X) (i : ℕ) → i < length xs → (a : X) × (slice_get xs i ≡ Some a)
get_some [] i low = absurd (omega arith)
get_some (x ∷ xs) zero low = (x, refl)
get_some (x ∷ xs) (suc i) low = get_some xs i (omega arith)

-- a mapped list has the mapped element at each place
pub map_get : {X Y : Type 0} (f : X → Y) (xs : List X) (i : ℕ) (a : X) → slice_get xs i ≡ Some a
    → slice_get (map f xs) i ≡ Some (f a)
map_get f xs i a e = slice_get-map f xs i ∙ ap (option_map f) e

-- to set an element and then map the list is to map the list and then set the mapped element
pub map_set : {X Y : Type 0} (f : X → Y) (xs : List X) (i : ℕ) (a : X)
    → map f (slice_set xs i a) ≡ slice_set (map f xs) i (f a)
map_set f [] i a = refl
map_set f (x ∷ xs) zero a = refl
map_set f (x ∷ xs) (suc i) a = ap (λ ys. f x ∷ ys) (map_set f xs i a)
