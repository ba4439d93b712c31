-- Lists that are read or changed at one position, and functions that are changed at one number.
use Rattle.std.proofs.Common.{◌≡◌, ◌≢◌, ◌⊎◌, ℕ, zero, suc, ◌<◌, cond, eqb, Option, Some, None, List, [], ◌∷◌, ◌++◌}
use Rattle.std.proofs.Common.{length, set, refl, ap, ⊎_elim, inl, inr, arith, replicate, slice_get, slice_index}
use Rattle.std.proofs.lemmas.Bool.{eq-eqb, ne_eqb}

module _ {A : Type 0} where
  -- an element of a list with one added at the end was in the list before, at the same position, or is the added one
  pub get-snoc :
      (xs : List A) (a b : A) (k : ℕ) → slice_get (xs ++ a ∷ []) k ≡ Some b
      → (slice_get xs k ≡ Some b) ⊎ (a ≡ b)
  get-snoc [] a b zero e = inr (cc)
  get-snoc [] a b (suc k) e = absurd (cc)
  get-snoc (x ∷ xs) a b zero e = inl e
  get-snoc (x ∷ xs) a b (suc k) e = get-snoc xs a b k e

  -- an element of the first list is at the same position in both lists joined
  pub get_front : (xs ys : List A) (k : ℕ) (a : A) → slice_get xs k ≡ Some a → slice_get (xs ++ ys) k ≡ Some a
  get_front [] ys k a e = absurd (cc)
  get_front (x ∷ xs) ys zero a e = e
  get_front (x ∷ xs) ys (suc k) a e = get_front xs ys k a e

  -- after the element at a position is replaced, that position has the new element
  pub get-set_same : (xs : List A) (i : ℕ) (a b : A) → slice_get xs i ≡ Some b → slice_get (set xs i a) i ≡ Some a
  get-set_same [] i a b e = absurd (cc)
  get-set_same (x ∷ xs) zero a b e = refl
  get-set_same (x ∷ xs) (suc i) a b e = get-set_same xs i a b e

  -- after the element at a position is replaced, every other position has the same element as before
  pub get-set_other : (xs : List A) (i k : ℕ) (a : A) → k ≢ i → slice_get (set xs i a) k ≡ slice_get xs k
  get-set_other [] i k a n = refl
  get-set_other (x ∷ xs) zero zero a n = absurd (n refl)
  get-set_other (x ∷ xs) zero (suc k) a n = refl
  get-set_other (x ∷ xs) (suc i) zero a n = refl
  get-set_other (x ∷ xs) (suc i) (suc k) a n = get-set_other xs i k a (λ e. n (ap suc e))

  -- after the element at i is replaced by a, an element at k is a, and k is i, or it was at k before
  pub get-set :
      (xs : List A) (i k : ℕ) (a b : A) → slice_get (set xs i a) k ≡ Some b
      → ((k ≡ i) × (a ≡ b)) ⊎ (slice_get xs k ≡ Some b)
  get-set [] i k a b e = absurd (cc)
  get-set (x ∷ xs) zero zero a b e = inl (refl, cc)
  get-set (x ∷ xs) zero (suc k) a b e = inr e
  get-set (x ∷ xs) (suc i) zero a b e = inr e
  get-set (x ∷ xs) (suc i) (suc k) a b e = ⊎_elim (λ t. inl (ap suc t.0, t.1)) inr (get-set xs i k a b e)

  -- at each position of a list of options there is None, or Some value
  pub given_at :
      (xs : List (Option A)) (k : ℕ) → k < length xs
      → (slice_get xs k ≡ Some None) ⊎ ((a : A) × (slice_get xs k ≡ Some (Some a)))
  given_at [] k low = absurd (omega arith)
  given_at (None ∷ xs) zero low = inl refl
  given_at (Some a ∷ xs) zero low = inr (a, refl)
  given_at (x ∷ xs) (suc k) low = given_at xs k (omega arith)

-- the function `place`, but with value `to` at number c
pub moved : (ℕ → ℕ) → ℕ → ℕ → ℕ → ℕ
moved place c to d = cond (eqb d c) to (place d)

-- the changed function has the new value at that number
pub moved-here : (place : ℕ → ℕ) (c to : ℕ) → moved place c to c ≡ to
unfolding moved
moved-here place c to = ap (λ b. cond b to (place c)) (eq-eqb c c refl)

-- the changed function has the old value at any other number
pub moved-else : (place : ℕ → ℕ) (c to d : ℕ) → d ≢ c → moved place c to d ≡ place d
unfolding moved
moved-else place c to d n = ap (λ b. cond b to (place d)) (ne_eqb d c n)

-- each element of a list of zeros is 0
pub zeros : (n i : ℕ) → slice_index (replicate n 0) i ≡ 0
zeros zero i = refl
zeros (suc n) zero = refl
zeros (suc n) (suc i) = zeros n i
