-- Marks at some places of a list.
use Rattle.std.proofs.Common.{◌≡◌, ◌≢◌, ◌⊎◌, ⊎_elim, ℕ, zero, suc, ◌+◌, ◌-◌, ◌≤◌, ◌<◌, Bool, true, false, List, [], ◌∷◌, length, refl, ap, inl, inr, slice_set, arith}
use Rattle.std.specs.Int.{from_bool}
use Rattle.std.specs.Prelude.{slice_index_or}
use Rattle.mb_mailbox.specs.Jobs.{count_marks}

-- if a place is marked after one more mark, it is the place of that mark, or was marked before
pub marked : (xs : List Bool) (k p : ℕ) → slice_index_or (slice_set xs k true) p false ≡ true
    → (p ≡ k) ⊎ ((p ≢ k) × (slice_index_or xs p false ≡ true))
marked [] k p e = absurd (cc)
marked (x ∷ xs) zero zero e = inl refl
marked (x ∷ xs) zero (suc p) e = inr ((λ h. omega (arith, h)), e)
marked (x ∷ xs) (suc k) zero e = inr ((λ h. omega (arith, h)), e)
marked (x ∷ xs) (suc k) (suc p) e = by (marked xs k p e)
  where
    by : (p ≡ k) ⊎ ((p ≢ k) × (slice_index_or xs p false ≡ true)) → (suc p ≡ suc k)
        ⊎ ((suc p ≢ suc k) × (slice_index_or xs p false ≡ true))
    by (inl h) = inl (ap suc h)
    by (inr t) = let ne = t.0 in inr ((λ h. ne (omega (arith, h))), t.1)

-- a place that is not marked and a place that is marked are different
pub apart : (xs : List Bool) (k p : ℕ) → slice_index_or xs k true ≡ false → slice_index_or xs p false ≡ true → p ≢ k
apart [] k p e f = absurd (cc)
apart (x ∷ xs) zero zero e f = absurd (cc)
apart (x ∷ xs) zero (suc p) e f = λ h. omega (arith, h)
apart (x ∷ xs) (suc k) zero e f = λ h. omega (arith, h)
apart (x ∷ xs) (suc k) (suc p) e f = λ h. apart xs k p e f (omega (arith, h))

-- no place of this list is marked
abbrev pub AreClear : List Bool → Type 0
AreClear [] = Unit {0}
AreClear (false ∷ xs) = AreClear xs
AreClear (true ∷ xs) = ⊥

-- if `AreClear` holds of a list, the mark at each place is `false`, also past the end
pub clear : (xs : List Bool) (p : ℕ) → AreClear xs → slice_index_or xs p false ≡ true → ⊥
clear [] p a e = absurd (cc)
clear (true ∷ xs) p a e = absurd a
clear (false ∷ xs) zero a e = absurd (cc)
clear (false ∷ xs) (suc p) a e = clear xs p a e

-- if a place within the list is marked by the default `true`, it is so by the default `false`: the default is not used
pub within : (xs : List Bool) (p : ℕ) → p < length xs → slice_index_or xs p true ≡ true
    → slice_index_or xs p false ≡ true
within [] p low e = absurd (omega (arith, low))
within (x ∷ xs) zero low e = e
within (x ∷ xs) (suc p) low e = within xs p (omega (arith, low)) e

-- ---- how many are marked
-- after a place without a mark is marked, one more is marked
pub marks_more : (xs : List Bool) (k : ℕ) → slice_index_or xs k true ≡ false
    → count_marks (slice_set xs k true) ≡ count_marks xs + 1
marks_more [] k e = absurd (cc)
marks_more (true ∷ xs) zero e = absurd (cc)
marks_more (false ∷ xs) zero e = omega arith
marks_more (x ∷ xs) (suc k) e = let rest = marks_more xs k e in omega (arith, rest)

-- if all marks are within these bounds, there are no more marks than places within them
pub marks_most : (xs : List Bool) (from end : ℕ)
    → ((p : ℕ) → slice_index_or xs p false ≡ true → (from ≤ p) × (p < end))
    → count_marks xs ≤ end - from
marks_most [] from end m = omega arith
marks_most (true ∷ xs) from end m =
    let low = (m 0 refl).0 in
    let high = (m 0 refl).1 in
    let rest = marks_most xs 0 (end - 1) (λ p e. (omega arith, let t = (m (suc p) e).1 in omega (arith, t))) in
    omega (arith, low, high, rest)
marks_most (false ∷ xs) from end m =
    let rest = marks_most xs (from - 1) (end - 1)
    (λ p e. (let t = (m (suc p) e).0 in omega (arith, t), let t = (m (suc p) e).1 in omega (arith, t))) in
    omega (arith, rest)

-- if each place within these bounds is marked, there are no fewer marks than places within them
marks_least : (xs : List Bool) (from end : ℕ)
    → ((p : ℕ) → from ≤ p → p < end → slice_index_or xs p false ≡ true)
    → end ≤ from + count_marks xs
marks_least xs from zero m = omega arith
marks_least [] zero (suc end) m = let no : false ≡ true = m 0 (omega arith) (omega arith) in absurd (cc)
marks_least [] (suc from) (suc end) m =
    let rest = marks_least [] from end (λ p low high. m (suc p) (omega (arith, low)) (omega (arith, high))) in
    omega (arith, rest)
marks_least (x ∷ xs) zero (suc end) m =
    let one : from_bool x ≡ 1 = ap from_bool (m 0 (omega arith) (omega arith)) in
    let rest = marks_least xs 0 end (λ p low high. m (suc p) (omega arith) (omega (arith, high))) in
    omega (arith, one, rest)
marks_least (x ∷ xs) (suc from) (suc end) m =
    let rest = marks_least xs from end (λ p low high. m (suc p) (omega (arith, low)) (omega (arith, high))) in
    omega (arith, rest)

-- if all marks are within these bounds, and each place there has one, there are as many marks as places there
pub marks_all : (xs : List Bool) (from end : ℕ) → ((p : ℕ) → slice_index_or xs p false ≡ true → (from ≤ p) × (p < end))
    → ((p : ℕ) → from ≤ p → p < end → slice_index_or xs p false ≡ true) → count_marks xs ≡ end - from
marks_all xs from end only all =
    let most = marks_most xs from end only in
    let least = marks_least xs from end all in
    omega (arith, most, least)

-- if all marks are within these bounds, and one place there has none, there are fewer marks than places there
pub marks_fewer : (xs : List Bool) (from end k : ℕ)
    → ((p : ℕ) → slice_index_or xs p false ≡ true → (from ≤ p) × (p < end))
    → slice_index_or xs k true ≡ false → from ≤ k → k < end → count_marks xs < end - from
marks_fewer xs from end k m e low high =
    let more = marks_more xs k e in
    let most = marks_most (slice_set xs k true) from end
    (λ p f. ⊎_elim (λ (same : p ≡ k). (omega (arith, same, low), omega (arith, same, high)))
    (λ (t : (p ≢ k) × (slice_index_or xs p false ≡ true)). m p t.1) (marked xs k p f)) in
    omega (arith, more, most)
