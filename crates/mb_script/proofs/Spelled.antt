-- Words and numbers that are spelled are read again, a word that was read as a number is its decimal, and lines of
-- words are ASCII. A word as `IsWord` says is not empty, is ASCII and has no space.
use Rattle.std.proofs.Common.{◌≡◌, ℕ, suc, zero, ◌<◌, ◌^◌, Bool, true, false, cond, nat_eq, nat_lt, ◌&&◌, ◌||◌, List, [], ◌∷◌, ◌++◌, length, get_or, map}
use Rattle.std.proofs.Common.{Option, Some, None, refl, ap, sym, subst, ◌∙◌, arith, lit<, inl, inr}
use Rattle.std.specs.Prelude.{slice_index, option_and_then}
use Rattle.std.specs.Fmt.{decimal}
use Rattle.std.specs.Char.{is_ascii_digit, is_ascii}
use Rattle.std.specs.List.{join_with_byte, AllByRecursion, list_all, onto_first}
use Rattle.std.specs.Str.{all_ascii_digits}
use Rattle.std.specs.Str.Parse.{digits_value}
use Rattle.std.proofs.lemmas.Bool.{and_parts, ltb-true, lt-ltb, eqb-true, false≢true, or_cases}
use Rattle.std.proofs.lemmas.Bool.Decides.{nat_tests}
use Rattle.std.proofs.lemmas.Fmt.{digits_decimal, digits_value-decimal, decimal_nonempty, first_decimal, decimal-digits_value, decimal_digit}
use Rattle.std.proofs.lemmas.List.Splits.{slice_split_none, slice_split_at}
use Rattle.std.proofs.lemmas.List.Elements.{All-from_recursion}
use Rattle.mb_script.specs.Text.{IsWord, IsWordLine, lines_of, words_in_line, has_empty, is_numeral, number_of, numbers_of}
use Rattle.mb_script.proofs.Numerals.{own}

-- if one word or more are joined, with one space between two, the line is cut into the same words again
pub words_join : (w : List ℕ) (ws : List (List ℕ)) → AllByRecursion IsWord (w ∷ ws)
    → words_in_line (join_with_byte 32 (w ∷ ws)) ≡ w ∷ ws
words_join w [] are = slice_split_none (λ b. nat_eq b 32) w (All-from_recursion _ w are.0.0)
words_join w (v ∷ ws) are =
    slice_split_at (λ b. nat_eq b 32) w 32 (join_with_byte 32 (v ∷ ws)) (All-from_recursion _ w are.0.0) refl
    ∙ ap (λ (t : List (List ℕ)). w ∷ t) (words_join v ws are.1)

-- if all words are as `IsWord` says, none of them is empty
pub none_empty : (ws : List (List ℕ)) → AllByRecursion IsWord ws → has_empty ws ≡ false
none_empty [] are = refl
none_empty (w ∷ ws) are = rw (are.0.1) (none_empty ws are.1)

-- if a byte is a digit, the result t of the test whether it is a space is false
digit_no_space : (b : ℕ) (t : Bool) → nat_eq b 32 ≡ t → is_ascii_digit b ≡ true → t ≡ false
digit_no_space b true e d = absurd (false≢true (subst (λ (k : ℕ). is_ascii_digit k ≡ true) (eqb-true b 32 e) d))
digit_no_space b false e d = refl

-- among digits there is no space
digits_no_space : (w : List ℕ) → all_ascii_digits w ≡ true → AllByRecursion (λ b. nat_eq b 32 ≡ false) w
digits_no_space [] h = tt
digits_no_space (b ∷ w) h =
    let p = and_parts (is_ascii_digit b) (all_ascii_digits w) h in
    (digit_no_space b _ refl p.0, digits_no_space w p.1)

-- the test whether a number above 0 is 0 is false
above_zero : (k : ℕ) → 0 < k → nat_eq k 0 ≡ false
above_zero k h = grind (arith, nat_tests)

-- digits are ASCII
digits_ascii : (w : List ℕ) → all_ascii_digits w ≡ true → list_all is_ascii w ≡ true
digits_ascii [] h = refl
digits_ascii (b ∷ w) h =
    let p = and_parts (is_ascii_digit b) (all_ascii_digits w) h in
    let below : nat_lt b 128 ≡ true = lt-ltb b 128 (grind (arith, nat_tests, p.0)) in
    rw (below) (digits_ascii w p.1)

-- the decimal of a number below 2^64 is a word as `IsWord` says
pub decimal_word : (n : ℕ) → n < 2 ^ 64 → IsWord (decimal n)
decimal_word n h =
    let digits = digits_decimal own n h in
    (digits_no_space (decimal n) digits, above_zero _ (decimal_nonempty n h), digits_ascii (decimal n) digits)

-- the decimals of numbers below 2^64 are words as `IsWord` says
pub decimal_words : (ns : List ℕ) → AllByRecursion (λ n. n < 2 ^ 64) ns → AllByRecursion IsWord (map decimal ns)
decimal_words [] h = tt
decimal_words (n ∷ ns) h = (decimal_word n h.0, decimal_words ns h.1)

-- the decimal of a number below 2^64 has no needless 0 in front
lead : (n : ℕ) → n < 2 ^ 64 → (nat_lt 48 (slice_index (decimal n) 0) || nat_eq (length (decimal n)) 1) ≡ true
lead zero h = rw (decimal_digit 0 (lit< tt)) refl
lead (suc n) h = rw (lt-ltb 48 (get_or (decimal (suc n)) 0 0) (first_decimal (suc n) (omega arith) h)) refl

-- the decimal of a number below 2^64 is read as that number
pub number_again : (n : ℕ) → n < 2 ^ 64 → number_of (decimal n) ≡ Some n
unfolding number_of
number_again n h = rw (digits_decimal own n h, lead n h, digits_value-decimal own n h, lt-ltb n (2 ^ 64) h) refl

-- the decimals of numbers below 2^64 are read as these numbers
pub numbers_again : (ns : List ℕ) → AllByRecursion (λ n. n < 2 ^ 64) ns → numbers_of (map decimal ns) ≡ Some ns
unfolding numbers_of
numbers_again [] h = refl
numbers_again (n ∷ ns) h = rw (number_again n h.0, numbers_again ns h.1) refl

-- if a test chooses between the value v and none, and the value n was chosen, the test holds, and v is n
guard : (b : Bool) (v n : ℕ) → cond b (Some v) None ≡ Some n → (b ≡ true) × (v ≡ n)
guard true v n e = (refl, cc)
guard false v n e = absurd (cc)

-- a word that has one byte, or a first byte above that of 0, is not empty, and begins with 0 only if it has one byte
led : (w : List ℕ) → (nat_lt 48 (slice_index w 0) || nat_eq (length w) 1) ≡ true
    → (0 < length w) × (get_or w 0 0 ≡ 48 → length w ≡ 1)
led [] h = absurd (false≢true h)
led (c ∷ cs) h = (
  omega arith,
  λ e. elim (or_cases (nat_lt 48 c) (nat_eq (suc (length cs)) 1) h) [
    | inl t ↦ absurd (omega (arith, e, ltb-true 48 c t))
    | inr t ↦ eqb-true _ _ t
  ],
)

-- a word that was read as a number is the decimal of that number, which is below 2^64
pub number_takes : (w : List ℕ) (n : ℕ) → number_of w ≡ Some n → (w ≡ decimal n) × (n < 2 ^ 64)
unfolding number_of
number_takes w n e =
    let g = guard (is_numeral w && nat_lt (digits_value 10 w) (2 ^ 64)) (digits_value 10 w) n e in
    let a = and_parts (is_numeral w) _ g.0 in
    let d = and_parts (all_ascii_digits w) _ a.0 in
    let f = led w d.1 in
    let small = ltb-true _ _ a.1 in
    (sym (decimal-digits_value own w d.0 f.0 f.1 small) ∙ ap decimal g.1, subst (λ (k : ℕ). k < 2 ^ 64) g.1 small)

-- if two steps in a row gave y, the first gave some x, and the second gave y for it
bind_some : {A B : Type 0} (o : Option A) (f : A → Option B) (y : B) → option_and_then f o ≡ Some y
    → (x : A) × (o ≡ Some x) × (f x ≡ Some y)
bind_some (Some x) f y e = (x, refl, e)
bind_some None f y e = absurd (cc)

-- `Some x`, written so that the type of the option is known
abbrev some : {A : Type 0} → A → Option A
some x = Some x

-- if `Some x` and `Some y` are equal, x and y are
some_is : {A : Type 0} (x y : A) → some x ≡ some y → x ≡ y
some_is x y e = cc

-- words that were read as numbers are the decimals of these numbers, which are below 2^64
pub numbers_take : (ws : List (List ℕ)) (ns : List ℕ) → numbers_of ws ≡ Some ns
    → (ws ≡ map decimal ns) × AllByRecursion (λ n. n < 2 ^ 64) ns
unfolding numbers_of
numbers_take [] [] e = (refl, tt)
numbers_take [] (n ∷ ns) e = absurd (cc)
numbers_take (w ∷ ws) ns e =
    let a = bind_some (number_of w) (λ n. option_and_then (λ ns. Some (n ∷ ns)) (numbers_of ws)) ns e in
    let b = bind_some (numbers_of ws) (λ rest. Some (a.0 ∷ rest)) ns a.2 in
    let first = number_takes w a.0 a.1 in
    let rest = numbers_take ws b.0 b.1 in
    let one : w ∷ ws ≡ map decimal (a.0 ∷ b.0) =
    ap (λ (x : List ℕ). x ∷ ws) first.0 ∙ ap (λ (x : List (List ℕ)). decimal a.0 ∷ x) rest.0 in
    subst (λ (l : List ℕ). (w ∷ ws ≡ map decimal l) × AllByRecursion (λ n. n < 2 ^ 64) l)
    (some_is (a.0 ∷ b.0) ns b.2) (one, (first.1, rest.1))

-- if two lists are ASCII, both joined are ASCII
ascii_append : (xs ys : List ℕ) → list_all is_ascii xs ≡ true → list_all is_ascii ys ≡ true
    → list_all is_ascii (xs ++ ys) ≡ true
ascii_append [] ys h k = k
ascii_append (x ∷ xs) ys h k =
    let p = and_parts (is_ascii x) (list_all is_ascii xs) h in rw (p.0) (ascii_append xs ys p.1 k)

-- if all words are as `IsWord` says, the line of them is ASCII
pub ascii_join : (w : List ℕ) (ws : List (List ℕ)) → AllByRecursion IsWord (w ∷ ws)
    → list_all is_ascii (join_with_byte 32 (w ∷ ws)) ≡ true
ascii_join w [] are = are.0.2
ascii_join w (v ∷ ws) are = ascii_append w (32 ∷ join_with_byte 32 (v ∷ ws)) are.0.2 (ascii_join v ws are.1)

-- if the lines of a text are ASCII, the text is: its first byte b, whether it ends a line or not, and the rest bs
ascii_step : (b : ℕ) (bs : List ℕ) (lines : List (List ℕ)) (t : Bool) → nat_eq b 10 ≡ t
    → AllByRecursion (λ l. list_all is_ascii l ≡ true) (cond t ([] ∷ lines) (onto_first b lines))
    → (AllByRecursion (λ l. list_all is_ascii l ≡ true) lines → list_all is_ascii bs ≡ true)
    → list_all is_ascii (b ∷ bs) ≡ true
ascii_step b bs lines true e h rest =
    subst (λ (k : ℕ). list_all is_ascii (k ∷ bs) ≡ true) (sym (eqb-true b 10 e)) (rest h.1)
ascii_step b bs [] false e h rest = let p = and_parts (is_ascii b) true h.0 in rw (p.0) (rest tt)
ascii_step b bs (l ∷ lines) false e h rest =
    let p = and_parts (is_ascii b) (list_all is_ascii l) h.0 in rw (p.0) (rest (p.1, h.1))

-- a text whose lines are ASCII is ASCII
pub ascii_lines : (bs : List ℕ) → AllByRecursion (λ l. list_all is_ascii l ≡ true) (lines_of bs)
    → list_all is_ascii bs ≡ true
ascii_lines [] h = refl
ascii_lines (b ∷ bs) h = ascii_step b bs (lines_of bs) (nat_eq b 10) refl h (ascii_lines bs)

-- if the words of all lines are as `IsWord` says, the lines are ASCII
pub words_ascii : (lines : List (List (List ℕ))) → AllByRecursion IsWordLine lines
    → AllByRecursion (λ l. list_all is_ascii l ≡ true) (map (join_with_byte 32) lines)
words_ascii [] are = tt
words_ascii ([] ∷ lines) are = absurd are.0
words_ascii ((w ∷ ws) ∷ lines) are = (ascii_join w ws are.0, words_ascii lines are.1)
