-- Different words have different addresses. Also how many words objects have, how many lie before an object, and where
-- the words of a row of pairs lie.
use Rattle.std.proofs.Common.{◌≡◌, ◌+◌, ◌*◌, ◌<◌, ◌≤◌, ◌⊎◌, ℕ, zero, suc, List, [], ◌∷◌, refl, sym, ap, subst, inl, inr}
use Rattle.std.proofs.Common.{Some, length, slice_get}
use Rattle.std.proofs.Common.{arith, mul-le-mul_right, suc-mul}
use Rattle.std.proofs.lemmas.Bool.{cases_order}
use Rattle.std.proofs.lemmas.Option.{none-some, same_Some}
use Rattle.mb_deciding.specs.Vocabulary.{HasReg}
use Rattle.mb_claim.specs.{Reg, Kind, Value, Proposal, Quorum, Last, Conciliator, Ratifier, LastObject, width, offset, words_before}
use Rattle.mb_claim.specs.{row_words, address_of, pairs_of, IsWordOf}

-- ---- different words have different addresses
-- the position of a word in its object is below the number of the object's words
in_object : (r : ℕ) (k : Kind) (reg : Reg) → HasReg r k reg → offset reg < width r k
in_object r (Conciliator s) Value h = omega arith
in_object r (Conciliator s) Proposal h = absurd h
in_object r (Conciliator s) (Quorum i) h = absurd h
in_object r Ratifier Value h = absurd h
in_object r Ratifier Proposal h = omega arith
in_object r Ratifier (Quorum i) h = omega arith
in_object r (Conciliator s) Last h = absurd h
in_object r Ratifier Last h = absurd h
in_object r LastObject Last h = omega arith
in_object r LastObject Value h = absurd h
in_object r LastObject Proposal h = absurd h
in_object r LastObject (Quorum i) h = absurd h

-- two words of an object that lie at one position are the same
same_word : (r : ℕ) (k : Kind) (p q : Reg) → HasReg r k p → HasReg r k q → offset p ≡ offset q → p ≡ q
same_word r (Conciliator s) Value Value h g e = refl
same_word r (Conciliator s) Value Proposal h g e = absurd g
same_word r (Conciliator s) Value (Quorum i) h g e = absurd g
same_word r (Conciliator s) Proposal q h g e = absurd h
same_word r (Conciliator s) (Quorum i) q h g e = absurd h
same_word r Ratifier Proposal Proposal h g e = refl
same_word r Ratifier Proposal (Quorum i) h g e = absurd (omega arith)
same_word r Ratifier Proposal Value h g e = absurd g
same_word r Ratifier (Quorum i) (Quorum j) h g e = ap Quorum (omega arith)
same_word r Ratifier (Quorum i) Proposal h g e = absurd (omega arith)
same_word r Ratifier (Quorum i) Value h g e = absurd g
same_word r Ratifier Value q h g e = absurd h
same_word r (Conciliator s) Value Last h g e = absurd g
same_word r (Conciliator s) Last q h g e = absurd h
same_word r Ratifier Proposal Last h g e = absurd g
same_word r Ratifier (Quorum i) Last h g e = absurd g
same_word r Ratifier Last q h g e = absurd h
same_word r LastObject Last Last h g e = refl
same_word r LastObject Last Value h g e = absurd g
same_word r LastObject Last Proposal h g e = absurd g
same_word r LastObject Last (Quorum i) h g e = absurd g
same_word r LastObject Value q h g e = absurd h
same_word r LastObject Proposal q h g e = absurd h
same_word r LastObject (Quorum i) q h g e = absurd h

-- a word of object 0 of a row is a word of the row's first kind
first_word : (r : ℕ) (k : Kind) (ks : List Kind) (reg : Reg) → IsWordOf r (k ∷ ks) 0 reg → HasReg r k reg
first_word r k ks reg p = subst (λ j. HasReg r j reg) (sym (same_Some k p.0 p.1)) p.2

-- the position of a word in its cell is below the number of the cell's words
in_cell :
    (r : ℕ) (kinds : List Kind) (o : ℕ) (reg : Reg) → IsWordOf r kinds o reg
    → words_before r kinds o + offset reg < row_words r kinds
in_cell r [] o reg p = absurd (none-some p.0 p.1)
in_cell r (k ∷ ks) zero reg p = let h = in_object r k reg (first_word r k ks reg p) in omega arith
in_cell r (k ∷ ks) (suc o) reg p = let h = in_cell r ks o reg p in omega arith

-- two words of a cell that lie at one position are the same word of the same object
apart :
    (r : ℕ) (kinds : List Kind) (o n : ℕ) (p q : Reg) → IsWordOf r kinds o p → IsWordOf r kinds n q
    → words_before r kinds o + offset p ≡ words_before r kinds n + offset q → (o ≡ n) × (p ≡ q)
apart r [] o n p q a b e = absurd (none-some a.0 a.1)
apart r (k ∷ ks) zero zero p q a b e =
    (refl, same_word r k p q (first_word r k ks p a) (first_word r k ks q b) (omega arith))
apart r (k ∷ ks) zero (suc n) p q a b e = let h = in_object r k p (first_word r k ks p a) in absurd (omega arith)
apart r (k ∷ ks) (suc o) zero p q a b e = let h = in_object r k q (first_word r k ks q b) in absurd (omega arith)
apart r (k ∷ ks) (suc o) (suc n) p q a b e = let h = apart r ks o n p q a b (omega arith) in (ap suc h.0, h.1)

-- if each cell has w words, no position in cell k is one in a later cell n
row_before : (w k n a b : ℕ) → k < n → a < w → k * w + a ≡ n * w + b → ⊥
row_before w k n a b l h e =
    let m : suc k * w ≤ n * w = mul-le-mul_right w l in
    let s : suc k * w ≡ k * w + w = suc-mul k w in
    omega arith

-- different words have different addresses. Cases: whether they are on one cell, or which cell comes first
distinct_by :
    (r : ℕ) (kinds : List Kind) (k n o m : ℕ) (p q : Reg) → IsWordOf r kinds o p → IsWordOf r kinds m q
    → address_of r kinds k o p ≡ address_of r kinds n m q
    → (k ≡ n) ⊎ ((k < n) ⊎ (n < k)) → (k ≡ n) × (o ≡ m) × (p ≡ q)
distinct_by r kinds k n o m p q a b e (inl f) =
    let g : k * row_words r kinds ≡ n * row_words r kinds = ap (λ x. x * row_words r kinds) f in
    let h = apart r kinds o m p q a b (omega arith) in (f, h.0, h.1)
distinct_by r kinds k n o m p q a b e (inr (inl l)) =
    absurd (row_before (row_words r kinds) k n (words_before r kinds o + offset p)
    (words_before r kinds m + offset q) l (in_cell r kinds o p a) e)
distinct_by r kinds k n o m p q a b e (inr (inr l)) =
    absurd (row_before (row_words r kinds) n k (words_before r kinds m + offset q)
    (words_before r kinds o + offset p) l (in_cell r kinds m q b) (sym e))

-- different words have different addresses
pub distinct :
    (r : ℕ) (kinds : List Kind) (k n o m : ℕ) (p q : Reg) → IsWordOf r kinds o p → IsWordOf r kinds m q
    → address_of r kinds k o p ≡ address_of r kinds n m q → (k ≡ n) × (o ≡ m) × (p ≡ q)
distinct r kinds k n o m p q a b e = distinct_by r kinds k n o m p q a b e (cases_order k n)

-- the address of each word of `cells` cells is below the number of their words
pub within :
    (r : ℕ) (kinds : List Kind) (cells k o : ℕ) (reg : Reg) → IsWordOf r kinds o reg → k < cells
    → address_of r kinds k o reg < cells * row_words r kinds
within r kinds cells k o reg p l =
    let h = in_cell r kinds o reg p in
    let m : suc k * row_words r kinds ≤ cells * row_words r kinds = mul-le-mul_right (row_words r kinds) l in
    let s : suc k * row_words r kinds ≡ k * row_words r kinds + row_words r kinds = suc-mul k (row_words r kinds) in
    omega arith

-- ---- how many words objects have, and how many lie before one
-- an object has at most as many words as a ratifier
pub width_few : (r : ℕ) (k : Kind) → width r k ≤ 1 + r
width_few r (Conciliator s) = omega arith
width_few r Ratifier = omega arith
width_few r LastObject = omega arith

-- no words come before the first object
pub words_before-first : (r : ℕ) (kinds : List Kind) → words_before r kinds 0 ≡ 0
words_before-first r [] = refl
words_before-first r (k ∷ ks) = refl

-- before the next object lie the words before this one, and this one's own words
pub words_before-next :
    (r : ℕ) (kinds : List Kind) (o : ℕ) (kind : Kind) → slice_get kinds o ≡ Some kind
    → words_before r kinds (suc o) ≡ words_before r kinds o + width r kind
words_before-next r [] o kind e = absurd (none-some kind e)
words_before-next r (k ∷ ks) zero kind e =
    let same : width r k ≡ width r kind = ap (width r) (same_Some k kind e) in
    omega (arith, same, words_before-first r ks)
words_before-next r (k ∷ ks) (suc o) kind e = omega (arith, words_before-next r ks o kind e)

-- the words before the end of a row are all its words
pub words_before-all : (r : ℕ) (kinds : List Kind) → words_before r kinds (length kinds) ≡ row_words r kinds
words_before-all r [] = refl
words_before-all r (k ∷ ks) = omega (arith, words_before-all r ks)

-- before object o lie at most o times the words of a ratifier
pub words_before-few : (r : ℕ) (kinds : List Kind) (o : ℕ) → words_before r kinds o ≤ o * (1 + r)
words_before-few r [] o = omega arith
words_before-few r (k ∷ ks) zero = omega arith
words_before-few r (k ∷ ks) (suc o) = omega (arith, width_few r k, words_before-few r ks o, suc-mul o (1 + r))

-- before an object there are at most as many words as the whole row has
pub words_before-within : (r : ℕ) (kinds : List Kind) (o : ℕ) → words_before r kinds o ≤ row_words r kinds
words_before-within r [] o = omega arith
words_before-within r (k ∷ ks) zero = omega arith
words_before-within r (k ∷ ks) (suc o) = omega (arith, words_before-within r ks o)

-- a row has at most as many words as if all its objects were ratifiers
pub row_words-few : (r : ℕ) (kinds : List Kind) → row_words r kinds ≤ length kinds * (1 + r)
row_words-few r kinds = omega (arith, words_before-all r kinds, words_before-few r kinds (length kinds))

-- ---- the words of a row of pairs
-- a row of n pairs has n times the words of a conciliator and a ratifier
pub row_words-pairs_of : (r s n : ℕ) → row_words r (pairs_of s n) ≡ n * (2 + r)
row_words-pairs_of r s zero = omega arith
row_words-pairs_of r s (suc n) = let h = row_words-pairs_of r s n in omega arith

-- before object j of pair i lie the words of i pairs, and one word more if j is 1
pub words_before-pairs_of :
    (r s n i j o : ℕ) → o ≡ 2 * i + j → j < 2 → i < n → words_before r (pairs_of s n) o ≡ i * (2 + r) + j
words_before-pairs_of r s zero i j o e f h = absurd (omega arith)
words_before-pairs_of r s (suc n) zero j zero e f h = omega arith
words_before-pairs_of r s (suc n) (suc i) j zero e f h = absurd (omega arith)
words_before-pairs_of r s (suc n) zero j (suc zero) e f h = omega arith
words_before-pairs_of r s (suc n) (suc i) j (suc zero) e f h = absurd (omega arith)
words_before-pairs_of r s (suc n) zero j (suc (suc o)) e f h = absurd (omega arith)
words_before-pairs_of r s (suc n) (suc i) j (suc (suc o)) e f h =
    let g = words_before-pairs_of r s n i j o (omega arith) f (omega arith) in omega arith

-- the address of a word of object j of pair i, by its position in that object
pub pair_address :
    (r s n k i j : ℕ) (reg : Reg) → i < n → j < 2
    → address_of r (pairs_of s n) k (2 * i + j) reg ≡ k * (n * (2 + r)) + i * (2 + r) + (j + offset reg)
pair_address r s n k i j reg h f =
    let row : k * row_words r (pairs_of s n) ≡ k * (n * (2 + r)) = ap (λ w. k * w) (row_words-pairs_of r s n) in
    omega (arith, row, words_before-pairs_of r s n i j (2 * i + j) refl f h)
