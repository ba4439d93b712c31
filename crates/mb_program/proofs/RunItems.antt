-- Lists with one value for each number below n, as items and lists of items, grow by one value at their end.
use Rattle.std.proofs.Common.{◌≡◌, ◌+◌, ◌*◌, ◌++◌, ℕ, zero, suc, List, [], ◌∷◌, map, refl, sym, ap, ◌∙◌, arith}
use Rattle.std.specs.List.{range_with_len}
use Rattle.std.specs.Prelude.{Vec}
use Rattle.std.proofs.lemmas.List.{map-append}
use Rattle.mb_mailbox.specs.Worked.{lists_in}
use Rattle.mb_program.specs.Running.{items_of, item_lists}

-- the first n + 1 numbers from a on are the first n, and then a + n
range_more : (a n : ℕ) → range_with_len a (suc n) ≡ range_with_len a n ++ (a + n) ∷ []
range_more a zero = let e : a + 0 ≡ a = omega arith in rw e refl
range_more a (suc n) = ap (λ xs. a ∷ xs)
    (range_more (a + 1) n ∙ (let e : a + 1 + n ≡ a + suc n = omega arith in rw e refl))

-- the values of f for the numbers below n + 1 are those for the numbers below n, and then f n
pub map_more : {X : Type 0} (f : ℕ → X) (n : ℕ) → map f (range_with_len 0 (n + 1))
    ≡ map f (range_with_len 0 n) ++ f n ∷ []
map_more f n =
    let next : n + 1 ≡ suc n = omega arith in
    let last : 0 + n ≡ n = omega arith in
    ap (λ k. map f (range_with_len 0 k)) next
    ∙ ap (map f) (range_more 0 n ∙ ap (λ k. range_with_len 0 n ++ k ∷ []) last)
    ∙ map-append f (range_with_len 0 n) (n ∷ [])

-- a producer's list of n items with the next item at its end is its list of n + 1 items
pub items_more : (p n : ℕ) (xs : List ℕ) → xs ≡ items_of p n → xs ++ (1000 * p + n) ∷ [] ≡ items_of p (n + 1)
items_more p n xs is = ap (λ ys. ys ++ (1000 * p + n) ∷ []) is ∙ sym (map_more (λ i. 1000 * p + i) n)

-- the lists of p producers with one more list at their end are those of p + 1 producers
pub lists_more : {Z : Type 0} (p count : ℕ) (vs : List (Vec ℕ Z)) (v : Vec ℕ Z) → lists_in vs
    ≡ item_lists p count → v.items ≡ items_of p count
    → lists_in (vs ++ v ∷ []) ≡ item_lists (p + 1) count
lists_more p count vs v are is =
    map-append (λ v. v.items) vs (v ∷ []) ∙ ap (λ ys. ys ++ v.items ∷ []) are
    ∙ ap (λ (y : List ℕ). item_lists p count ++ y ∷ []) is
    ∙ sym (map_more (λ p. items_of p count) p)
