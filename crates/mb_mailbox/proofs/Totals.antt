-- Sums over the numbers below n, and over lists.
use Rattle.std.proofs.Common.{◌≡◌, ℕ, zero, suc, ◌+◌, ◌<◌, ◌≤◌, List, [], ◌∷◌, length, refl, ap, arith}
use Rattle.std.specs.Prelude.{Some, slice_get, sum_by}
use Rattle.std.proofs.lemmas.List.Sums.{sum_by-cons}
use Rattle.mb_cells.specs.Vocabulary.{items_put, put_list}
use Rattle.mb_mailbox.specs.Imports.{History}

-- the sum of f over the numbers below n
pub total : (ℕ → ℕ) → ℕ → ℕ
total f zero = 0
total f (suc n) = f n + total f n

-- a sum is its first term and the sum of the others
pub shift : (f : ℕ → ℕ) (n : ℕ) → total f (suc n) ≡ f 0 + total (λ j. f (suc j)) n
unfolding total
shift f zero = refl
shift f (suc n) = omega (arith, shift f n)

-- if g of each element is f of its place, the sum of g over the list is the sum of f over the places
pub summed : {X : Type 0} (g : X → ℕ) (f : ℕ → ℕ) (xs : List X)
    → ((j : ℕ) (x : X) → slice_get xs j ≡ Some x → g x ≡ f j)
    → sum_by g xs ≡ total f (length xs)
unfolding total
summed g f [] each = refl
summed g f (x ∷ xs) each =
    let rest = summed g (λ j. f (suc j)) xs (λ j y e. each (suc j) y e) in
    let here = each 0 x refl in
    let whole = shift f (length xs) in
    let next = sum_by-cons g x xs in
    omega (arith, rest, here, whole, next)

-- the number of items put on the first n lanes is the sum over these lanes
pub put_total : (n : ℕ) (pool : History) → items_put n pool ≡ total (λ p. length (put_list p pool)) n
unfolding total
put_total zero pool = refl
put_total (suc n) pool = ap (λ k. length (put_list n pool) + k) (put_total n pool)

-- if f is at most g at each number, the sum of f is at most the sum of g
pub total_most : (f g : ℕ → ℕ) (n : ℕ) → ((j : ℕ) → f j ≤ g j) → total f n ≤ total g n
unfolding total
total_most f g zero each = omega arith
total_most f g (suc n) each = let here = each n in let rest = total_most f g n each in omega (arith, here, rest)

-- if g of each element is at most f of its place, the sum of g over the list is at most the sum of f over the places
pub sum_most : {X : Type 0} (g : X → ℕ) (f : ℕ → ℕ) (xs : List X)
    → ((j : ℕ) (x : X) → slice_get xs j ≡ Some x → g x ≤ f j)
    → sum_by g xs ≤ total f (length xs)
unfolding total
sum_most g f [] each = omega arith
sum_most g f (x ∷ xs) each =
    let rest = sum_most g (λ j. f (suc j)) xs (λ j y e. each (suc j) y e) in
    let here = each 0 x refl in
    let whole = shift f (length xs) in
    let next = sum_by-cons g x xs in
    omega (arith, rest, here, whole, next)

-- if, besides, g of one element is less than f of its place, the sum of g is less than the sum of f
pub sum_less : {X : Type 0} (g : X → ℕ) (f : ℕ → ℕ) (xs : List X) (p : ℕ) → p < length xs
    → ((j : ℕ) (x : X) → slice_get xs j ≡ Some x → g x ≤ f j)
    → ((x : X) → slice_get xs p ≡ Some x → g x < f p) → sum_by g xs < total f (length xs)
unfolding total
sum_less g f [] p low each less = absurd (omega (arith, low))
sum_less g f (x ∷ xs) zero low each less =
    let rest = sum_most g (λ j. f (suc j)) xs (λ j y e. each (suc j) y e) in
    let here = less x refl in
    let whole = shift f (length xs) in
    let next = sum_by-cons g x xs in
    omega (arith, rest, here, whole, next)
sum_less g f (x ∷ xs) (suc p) low each less =
    let rest = sum_less g (λ j. f (suc j)) xs p (omega (arith, low)) (λ j y e. each (suc j) y e) less in
    let here = each 0 x refl in
    let whole = shift f (length xs) in
    let next = sum_by-cons g x xs in
    omega (arith, rest, here, whole, next)
