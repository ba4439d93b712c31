-- Lists with one more element at their end: what is missing or chosen in them. Places in a grid.
use Rattle.std.proofs.Common.{◌≡◌, ℕ, suc, ◌+◌, ◌*◌, ◌<◌, ◌≤◌, Bool, true, false, List, [], ◌∷◌, ◌++◌, length, get_or, take, refl, sym, ◌∙◌, ap, arith, append-nil}
use Rattle.std.specs.Prelude.{Option, Some, None, if◌then◌else◌}
use Rattle.std.proofs.lemmas.List.{length-take-le, take_more}
use Rattle.std.proofs.Math.Nat.{mul-le-mul_right}
use Rattle.mb_world.specs.Theorem.{items_where}
use Rattle.mb_mailbox.specs.Gathering.{count_missing}

-- ---- what is missing
-- with one more element at the end of a list, those missing are those of the list, and this one if it is missing
count_end : {X : Type 0} (xs : List (Option X)) (x : Option X) → count_missing (xs ++ x ∷ [])
    ≡ count_missing xs + count_missing (x ∷ [])
count_end [] x = omega arith
count_end (Some y ∷ xs) x = count_end xs x
count_end (None ∷ xs) x = omega (arith, count_end xs x)

-- the first i + 1 elements have as many missing as the first i, and one more if element i is missing
pub count_more : {X : Type 0} (xs : List (Option X)) (i : ℕ) (x : Option X) → i < length xs → x ≡ get_or xs i x
    → count_missing (take (i + 1) xs) ≡ count_missing (take i xs) + count_missing (x ∷ [])
count_more xs i x low is =
    ap count_missing (take_more xs i x low) ∙ count_end (take i xs) (get_or xs i x)
    ∙ ap (λ y. count_missing (take i xs) + count_missing (y ∷ [])) (sym is)

-- ---- items at chosen positions
-- with one more item at the end of a list, the chosen ones are those of the list, and this one if it is chosen
chosen_end : (f : ℕ → Bool) (xs : List ℕ) (x : ℕ) → items_where f (xs ++ x ∷ []) ≡ items_where f xs
    ++ (if f (length xs) then x ∷ [] else [])
chosen_end f [] x = refl
chosen_end f (y ∷ xs) x = by (f 0) (chosen_end (λ j. f (suc j)) xs x)
  where
    by : (b : Bool) → items_where (λ j. f (suc j)) (xs ++ x ∷ []) ≡ items_where (λ j. f (suc j)) xs
        ++ (if f (suc (length xs)) then x ∷ [] else [])
        → (if b then y ∷ items_where (λ j. f (suc j)) (xs ++ x ∷ []) else items_where (λ j. f (suc j)) (xs ++ x ∷ []))
        ≡ (if b then y ∷ items_where (λ j. f (suc j)) xs else items_where (λ j. f (suc j)) xs)
        ++ (if f (suc (length xs)) then x ∷ [] else [])
    by true rest = ap (λ zs. y ∷ zs) rest
    by false rest = rest

-- the chosen ones of the first i + 1 items are those of the first i, and item i if it is chosen
chosen_more : (f : ℕ → Bool) (xs left : List ℕ) (i : ℕ) → i < length xs → left ≡ items_where f (take i xs)
    → left ++ (if f i then get_or xs i 0 ∷ [] else []) ≡ items_where f (take (i + 1) xs)
chosen_more f xs left i low old =
    sym (ap (items_where f) (take_more xs i 0 low) ∙ chosen_end f (take i xs) (get_or xs i 0)
    ∙ (λ j. sym old j ++ (if f (length-take-le i xs (omega arith) j) then get_or xs i 0 ∷ [] else [])))

-- if item i is chosen, it is added to those chosen before. By `chosen_none`, if it is not, nothing is added
pub chosen_one : (f : ℕ → Bool) (xs left : List ℕ) (i : ℕ) → i < length xs → left
    ≡ items_where f (take i xs) → f i ≡ true
    → left ++ get_or xs i 0 ∷ [] ≡ items_where f (take (i + 1) xs)
chosen_one f xs left i low old e =
    ap (λ b. left ++ (if b then get_or xs i 0 ∷ [] else [])) (sym e) ∙ chosen_more f xs left i low old

pub chosen_none : (f : ℕ → Bool) (xs left : List ℕ) (i : ℕ) → i < length xs → left
    ≡ items_where f (take i xs) → f i ≡ false
    → left ≡ items_where f (take (i + 1) xs)
chosen_none f xs left i low old e =
    sym (append-nil left) ∙ ap (λ b. left ++ (if b then get_or xs i 0 ∷ [] else [])) (sym e)
    ∙ chosen_more f xs left i low old

-- ---- places in a grid, row by row
-- in n rows of w places each, place p of row c has a number below n * w
pub within_grid : (w n c p : ℕ) → c < n → p < w → c * w + p < n * w
within_grid w n c p known low =
    let most : suc c * w ≤ n * w = mul-le-mul_right w known in
    let more : suc c * w ≡ c * w + w = grind arith in
    omega (arith, most, more, low)
