-- A text is cut at its first end of a part. The words of a line are cut off one by one, and their numbers.
use Rattle.std.proofs.Common.{append-nil, option_map, ◌≡◌, ℕ, suc, Option, Some, None, ◌+◌, ◌<◌, ◌≤◌, nat_lt, sym, ◌∙◌, Bor, append_assoc, length-append}
use Rattle.std.proofs.Common.{slice_set, Bool, true, false, cond, nat_eq, List, [], ◌∷◌, ◌++◌, length, take, drop, map, ◌||◌, refl, ap, arith}
use Rattle.std.specs.Prelude.{not, option_and_then}
use Rattle.std.proofs.lemmas.Bool.{lt-ltb, or_right}
use Rattle.std.proofs.lemmas.List.{length-map, length-take-le, map-append, take_more_set}
use Rattle.std.specs.List.{position_or_len, before_first, after_first, onto_first}
use Rattle.mb_script.specs.Text.{words_in_line, has_empty, number_of, numbers_of}

-- a text is cut into parts after each byte that ends one. By `more` that goes byte by byte
module _ (ends : ℕ → Bool) (parts : List ℕ → List (List ℕ))
    (more : (b : ℕ) (bs : List ℕ) → parts (b ∷ bs) ≡ cond (ends b) ([] ∷ parts bs) (onto_first b (parts bs))) where
  -- if bs is cut at its first end, so is bs with a byte b in front: b is that first end, or part of the first part
  cut_step : (b : ℕ) (bs : List ℕ) (t : Bool) → cond (not t) (1 + position_or_len ends bs) 0 < suc (length bs)
      → (position_or_len ends bs < length bs → parts bs ≡ before_first ends bs ∷ parts (after_first ends bs))
      → cond t ([] ∷ parts bs) (onto_first b (parts bs))
      ≡ take (cond (not t) (1 + position_or_len ends bs) 0) (b ∷ bs)
      ∷ parts (drop (cond (not t) (1 + position_or_len ends bs) 0 + 1) (b ∷ bs))
  cut_step b bs true within rest = refl
  cut_step b bs false within rest =
      let n = position_or_len ends bs in
      let one : 1 + n ≡ suc n = omega arith in
      let two : 1 + n + 1 ≡ suc (n + 1) = omega arith in
      let cut = rest (omega arith) in
      rw (cut, two, one) refl

  -- if a text has an end, its first part stands before the first end, and its other parts are those of the rest
  pub parts_cut : (bs : List ℕ) → position_or_len ends bs < length bs
      → parts bs ≡ before_first ends bs ∷ parts (after_first ends bs)
  parts_cut [] within = absurd (omega arith)
  parts_cut (b ∷ bs) within = more b bs ∙ cut_step b bs (ends b) within (parts_cut bs)

  -- a text with no end stays its only part if a byte that is no end is put in front
  last_step : ((b : ℕ) → onto_first b (parts []) ≡ (b ∷ []) ∷ []) → (b : ℕ) (bs : List ℕ) (t : Bool)
      → cond (not t) (1 + position_or_len ends bs) 0 ≡ suc (length bs)
      → (position_or_len ends bs ≡ length bs → 0 < length bs → parts bs ≡ bs ∷ [])
      → cond t ([] ∷ parts bs) (onto_first b (parts bs)) ≡ (b ∷ bs) ∷ []
  last_step first b bs true none rest = absurd (omega arith)
  last_step first b [] false none rest = first b
  last_step first b (x ∷ bs) false none rest = ap (onto_first b) (rest (omega arith) (omega arith))

  -- if a text has no end and is not empty, it is its only part
  pub parts_last : ((b : ℕ) → onto_first b (parts []) ≡ (b ∷ []) ∷ []) → (bs : List ℕ)
      → position_or_len ends bs ≡ length bs → 0 < length bs → parts bs ≡ bs ∷ []
  parts_last first [] none some = absurd (omega arith)
  parts_last first (b ∷ bs) none some = more b bs ∙ last_step first b bs (ends b) none (parts_last first bs)

-- ---- the words of a line
-- whether a byte parts words: it is a space
abbrev pub is_space : ℕ → Bool
is_space b = nat_eq b 32

-- if a line has a space, its first word stands before the first space, and its other words are those of the rest
pub words_cut : (bs : List ℕ) → position_or_len is_space bs < length bs
    → words_in_line bs ≡ before_first is_space bs ∷ words_in_line (after_first is_space bs)
words_cut = parts_cut is_space words_in_line (λ b bs. refl)

-- if a line has no space, it is its only word
pub words_last : (bs : List ℕ) → position_or_len is_space bs ≡ length bs → words_in_line bs ≡ bs ∷ []
words_last [] none = refl
words_last (b ∷ bs) none = parts_last is_space words_in_line (λ c cs. refl) (λ c. refl) (b ∷ bs) none (omega arith)

-- a line that has a word has one, too, with one byte more in front
first_step : (b : ℕ) (ws : List (List ℕ)) (t : Bool) → 0 < length ws → 0 < length (cond t ([] ∷ ws) (onto_first b ws))
first_step b ws true some = omega arith
first_step b [] false some = omega (arith, some)
first_step b (w ∷ ws) false some = omega arith

-- each line has at least one word, which may be empty
pub some_word : (bs : List ℕ) → 0 < length (words_in_line bs)
some_word [] = omega arith
some_word (b ∷ bs) = first_step b (words_in_line bs) (nat_eq b 32) (some_word bs)

-- ---- empty words, and too many words
-- if the test a is `b or c`, the test `t or a` is `t or b, or c`
any_step : (a b c t : Bool) → a ≡ (b || c) → (t || a) ≡ ((t || b) || c)
any_step a b c true e = refl
any_step a b c false e = e

-- an empty word is among two lists of words if one of the lists has one
empty_among : (ws vs : List (List ℕ)) → has_empty (ws ++ vs) ≡ (has_empty ws || has_empty vs)
empty_among [] vs = refl
empty_among (w ∷ ws) vs = any_step _ (has_empty ws) (has_empty vs) (nat_eq (length w) 0) (empty_among ws vs)

-- if an empty word comes after others, all the words together have an empty one
pub empty_behind : (ws : List (List ℕ)) (w : List ℕ) (vs all : List (List ℕ)) (long : Bool) → has_empty ws ≡ false
    → nat_eq (length w) 0 ≡ true → ws ++ w ∷ vs ≡ all → (has_empty all || long) ≡ true
empty_behind ws w vs all long full empty cut = rw (sym cut, empty_among ws (w ∷ vs), full, empty) refl

-- if none of the words ws is empty, and w is not empty, there is no empty word among all of these
pub none_behind : (ws : List (List ℕ)) (w : List ℕ) → has_empty ws ≡ false → nat_eq (length w) 0 ≡ false
    → has_empty (ws ++ w ∷ []) ≡ false
none_behind ws w full some = rw (empty_among ws (w ∷ []), full, some) refl

-- if `most` words were cut off and something of the line is left, the line has more than `most` words
pub too_many : (ws : List (List ℕ)) (w bs : List ℕ) (all : List (List ℕ)) (most : ℕ) → length ws + 1 ≡ most
    → ws ++ w ∷ words_in_line bs ≡ all → (has_empty all || nat_lt most (length all)) ≡ true
too_many ws w bs all most count cut =
    let long : length all ≡ length ws + suc (length (words_in_line bs)) =
    ap (λ (l : List (List ℕ)). length l) (sym cut) ∙ length-append ws (w ∷ words_in_line bs) in
    let some = some_word bs in
    or_right (has_empty all) _ (lt-ltb most (length all) (omega (arith, long, some, count)))

-- if the next word is cut off the line, the words cut off so far and those of the rest are still all its words
pub word_moves : (ws : List (List ℕ)) (w bs after : List ℕ) (all : List (List ℕ)) → words_in_line bs
    ≡ w ∷ words_in_line after
    → ws ++ words_in_line bs ≡ all → (ws ++ w ∷ []) ++ words_in_line after ≡ all
word_moves ws w bs after all cut whole =
    append_assoc ws (w ∷ []) (words_in_line after) ∙ ap (λ (l : List (List ℕ)). ws ++ l) (sym cut) ∙ whole

-- ---- words in an array
-- if a word is stored at position i, the first i + 1 words are the first i and this word
pub word_kept : (ws : List (Bor (List ℕ))) (i : ℕ) (w : Bor (List ℕ)) → i < length ws
    → map (λ x. x.now) (take (i + 1) (slice_set ws i w)) ≡ map (λ x. x.now) (take i ws) ++ w.now ∷ []
word_kept ws i w low =
    ap (λ (l : List (Bor (List ℕ))). map (λ x. x.now) l) (take_more_set ws i w low)
    ∙ map-append (λ (x : Bor (List ℕ)). x.now) (take i ws) (w ∷ [])

-- if an array has i words or more, its first i words are i in number
pub words_taken : (ws : List (Bor (List ℕ))) (i : ℕ) → i ≤ length ws → length (map (λ x. x.now) (take i ws)) ≡ i
words_taken ws i low = length-map (take i ws) (λ (x : Bor (List ℕ)). x.now) ∙ length-take-le i ws low

-- ---- the numbers that words spell
-- 1 more than the number of bytes that are left to be cut into words, or 0 if no word is left
abbrev pub bytes_left : Option (List ℕ) → ℕ
bytes_left None = 0
bytes_left (Some rest) = suc (length rest)

-- if one word spells no number, there is no list of the numbers of all words (`whole`)
pub number_fails : (done : List ℕ) (w : List ℕ) (ws : List (List ℕ)) (whole : Option (List ℕ)) → number_of w ≡ None
    → option_map (λ ns. done ++ ns) (numbers_of (w ∷ ws)) ≡ whole → None ≡ whole
unfolding numbers_of
number_fails done w ws whole fails same = sym (rw fails refl) ∙ same

-- one more number may be put after the numbers `done`, or before the further ones: the whole is the same
map_one : (done : List ℕ) (n : ℕ) (o : Option (List ℕ)) → option_map (λ (ns : List ℕ). (done ++ n ∷ []) ++ ns) o
    ≡ option_map (λ ns. done ++ ns) (option_and_then (λ ns. Some (n ∷ ns)) o)
map_one done n None = refl
map_one done n (Some ns) = ap (λ (l : List ℕ). Some l) (append_assoc done (n ∷ []) ns)

-- if the next word spells a number, this comes after the numbers `done`, and the numbers of all words stay `whole`
pub number_works : (done : List ℕ) (w : List ℕ) (ws : List (List ℕ)) (n : ℕ)
    (whole : Option (List ℕ)) → number_of w ≡ Some n
    → option_map (λ ns. done ++ ns) (numbers_of (w ∷ ws)) ≡ whole
    → option_map (λ (ns : List ℕ). (done ++ n ∷ []) ++ ns) (numbers_of ws) ≡ whole
unfolding numbers_of
number_works done w ws n whole works same = map_one done n (numbers_of ws) ∙ sym (rw works refl) ∙ same

-- if no word is left, the numbers of all words (`whole`) are those `done`
pub numbers_end : (done : List ℕ) (whole : Option (List ℕ)) → option_map (λ ns. done ++ ns) (numbers_of []) ≡ whole
    → Some done ≡ whole
unfolding numbers_of
numbers_end done whole same = ap (λ (l : List ℕ). Some l) (sym (append-nil done)) ∙ same
