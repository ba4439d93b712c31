-- Where the words of a row of any shape lie.
use Rattle.std.proofs.Common.{◌≡◌, ◌+◌, ◌*◌, ◌<◌, ℕ, zero, suc, Bool, true, false, List, [], ◌∷◌, ◌++◌, length, refl, ap, arith}
use Rattle.mb_claim.specs.{Reg, Kind, Shape, offset, words_before, row_words, address_of, pairs_of, fast_row, last_row}
use Rattle.mb_claim.specs.{row_of, shaped_words}
use Rattle.mb_claim.proofs.Addresses.{row_words-pairs_of, words_before-pairs_of}
use Rattle.mb_claim.proofs.LayoutObjects.{length-pairs_of}

-- ---- two rows joined
-- two rows joined have the words of both
row_words-append : (r : ℕ) (xs ys : List Kind) → row_words r (xs ++ ys) ≡ row_words r xs + row_words r ys
row_words-append r [] ys = omega arith
row_words-append r (x ∷ xs) ys = omega (arith, row_words-append r xs ys)

-- before an object of the first row lie as many words as before the rows were joined
before_ahead : (r : ℕ) (xs ys : List Kind) (o : ℕ) → o < length xs → words_before r (xs ++ ys) o ≡ words_before r xs o
before_ahead r [] ys o h = absurd (omega (arith, h))
before_ahead r (x ∷ xs) ys zero h = refl
before_ahead r (x ∷ xs) ys (suc o) h = omega (arith, before_ahead r xs ys o (omega (arith, h)))

-- before an object of the second row lie all words of the first, and those before it in the second
before_behind :
    (r : ℕ) (xs ys : List Kind) (n o : ℕ) → n ≡ length xs + o
    → words_before r (xs ++ ys) n ≡ row_words r xs + words_before r ys o
before_behind r [] ys n o e = let same : n ≡ o = omega (arith, e) in omega (arith, ap (words_before r ys) same)
before_behind r (x ∷ xs) ys zero o e = absurd (omega (arith, e))
before_behind r (x ∷ xs) ys (suc n) o e = omega (arith, before_behind r xs ys n o (omega (arith, e)))

-- ---- the words of the fast path and of the last object
-- a fast path has the words of a ratifier for each of its objects, if it has any
fast_words : (r : ℕ) (b : Bool) → row_words r (fast_row b) ≡ length (fast_row b) * (1 + r)
fast_words r true = omega arith
fast_words r false = omega arith

-- before object o of a fast path lie the words of o ratifiers
fast_before : (r : ℕ) (b : Bool) (o : ℕ) → o < length (fast_row b) → words_before r (fast_row b) o ≡ o * (1 + r)
fast_before r true zero h = omega arith
fast_before r true (suc zero) h = omega arith
fast_before r true (suc (suc o)) h = absurd (omega (arith, h))
fast_before r false o h = absurd (omega (arith, h))

-- the last object has one word, if there is one
last_words : (r : ℕ) (b : Bool) → row_words r (last_row b) ≡ length (last_row b)
last_words r true = omega arith
last_words r false = omega arith

-- among the objects after the pairs no word lies before the last object's
nothing_before : (r : ℕ) (b : Bool) → words_before r (last_row b) 0 ≡ 0
nothing_before r true = refl
nothing_before r false = refl

-- ---- a row of any shape
-- a row of any shape has `shaped_words` words
pub row_words-row_of : (r s n : ℕ) (shape : Shape) → row_words r (row_of shape s n) ≡ shaped_words r shape n
row_words-row_of r s n shape =
    omega (
      arith,
      row_words-append r (fast_row shape.fast) (pairs_of s n ++ last_row shape.last),
      row_words-append r (pairs_of s n) (last_row shape.last),
      fast_words r shape.fast,
      row_words-pairs_of r s n,
      last_words r shape.last,
    )

-- an address counts the words of the cells before and of the objects before, and then adds the position in the object
address_in_row :
    (r s n k o : ℕ) (shape : Shape) (reg : Reg) (before : ℕ) → words_before r (row_of shape s n) o ≡ before
    → address_of r (row_of shape s n) k o reg ≡ k * shaped_words r shape n + (before + offset reg)
address_in_row r s n k o shape reg before e =
    let cells : k * row_words r (row_of shape s n) ≡ k * shaped_words r shape n =
    ap (λ w. k * w) (row_words-row_of r s n shape) in
    omega (arith, cells, e)

-- the address of a word of object i of the fast path: before it lie the cells before, and i ratifiers
pub fast_address :
    (r s n k i : ℕ) (shape : Shape) (reg : Reg) → i < length (fast_row shape.fast)
    → address_of r (row_of shape s n) k i reg ≡ k * shaped_words r shape n + (i * (1 + r) + offset reg)
fast_address r s n k i shape reg h =
    address_in_row r s n k i shape reg (i * (1 + r))
    (omega (
      arith,
      before_ahead r (fast_row shape.fast) (pairs_of s n ++ last_row shape.last) i h,
      fast_before r shape.fast i h,
    ))

-- the address of a word of object j of pair i: before it lie the cells before, the fast path, i pairs and j words
pub shaped_address :
    (r s n k i j o : ℕ) (shape : Shape) (reg : Reg) → i < n → j < 2 → o ≡ length (fast_row shape.fast) + (2 * i + j)
    → address_of r (row_of shape s n) k o reg
    ≡ k * shaped_words r shape n + (length (fast_row shape.fast) * (1 + r) + i * (2 + r) + j + offset reg)
shaped_address r s n k i j o shape reg h f e =
    address_in_row r s n k o shape reg (length (fast_row shape.fast) * (1 + r) + i * (2 + r) + j)
    (omega (
      arith,
      before_behind r (fast_row shape.fast) (pairs_of s n ++ last_row shape.last) o (2 * i + j) e,
      fast_words r shape.fast,
      before_ahead r (pairs_of s n) (last_row shape.last) (2 * i + j) (omega (arith, length-pairs_of s n, h, f)),
      words_before-pairs_of r s n i j (2 * i + j) refl f h,
    ))

-- the address of a word of the object after n pairs: before it lie the cells before, the fast path and the pairs
pub last_address :
    (r s n k : ℕ) (shape : Shape) (reg : Reg)
    → address_of r (row_of shape s n) k (length (fast_row shape.fast) + 2 * n) reg
    ≡ k * shaped_words r shape n + (length (fast_row shape.fast) * (1 + r) + n * (2 + r) + offset reg)
last_address r s n k shape reg =
    address_in_row r s n k (length (fast_row shape.fast) + 2 * n) shape reg
    (length (fast_row shape.fast) * (1 + r) + n * (2 + r))
    (omega (
      arith,
      before_behind r (fast_row shape.fast) (pairs_of s n ++ last_row shape.last)
          (length (fast_row shape.fast) + 2 * n) (2 * n) refl,
      fast_words r shape.fast,
      before_behind r (pairs_of s n) (last_row shape.last) (2 * n) 0 (omega (arith, length-pairs_of s n)),
      row_words-pairs_of r s n,
      nothing_before r shape.last,
    ))
