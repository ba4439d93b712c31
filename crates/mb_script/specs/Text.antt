-- Lines, words and numbers of a text.
use Rattle.std.specs.Prelude.{◌≡◌, ℕ, ◌^◌, Bool, true, false, ◌&&◌, ◌||◌, List, [], ◌∷◌, length, nat_lt, slice_index, ◌==◌, if◌then◌else◌, Option, Some, None, option_and_then}
use Rattle.std.specs.Char.{is_ascii}
use Rattle.std.specs.List.{AllByRecursion, slice_split, onto_first, list_all, list_any}
use Rattle.std.specs.Str.{all_ascii_digits}
use Rattle.std.specs.Str.Parse.{digits_value}

-- the lines of a text. LF ends a line. What comes after the last LF is a line too, unless it is empty.
abbrev pub lines_of : List ℕ → List (List ℕ)
lines_of [] = []
lines_of (b ∷ bytes) = if b == 10 then [] ∷ lines_of bytes else onto_first b (lines_of bytes)

-- the words of a line, which is cut at each space
abbrev pub words_in_line : List ℕ → List (List ℕ)
words_in_line line = slice_split (λ b. b == 32) line

-- the words of what stands after the first word of a line, if anything does
abbrev pub words_behind : Option (List ℕ) → List (List ℕ)
words_behind None = []
words_behind (Some rest) = words_in_line rest

-- whether some word is empty
abbrev pub has_empty : List (List ℕ) → Bool
has_empty words = list_any (λ w. length w == 0) words

-- whether a word is a numeral: digits alone, the first of them 0 only in 0 itself
abbrev pub is_numeral : List ℕ → Bool
is_numeral word = all_ascii_digits word && (nat_lt 48 (slice_index word 0) || length word == 1)

-- the number that a word spells, if the word is a numeral and the number is below 2^64
unfoldable pub number_of : List ℕ → Option ℕ
number_of word =
    if is_numeral word && nat_lt (digits_value 10 word) (2 ^ 64) then Some (digits_value 10 word) else None

-- the numbers of words, if each word has one
unfoldable pub numbers_of : List (List ℕ) → Option (List ℕ)
numbers_of [] = Some []
numbers_of (w ∷ ws) =
    option_and_then (λ n. option_and_then (λ ns. Some (n ∷ ns)) (numbers_of ws)) (number_of w)

-- a word that is not empty, is ASCII and has no space. An LF, which no line has, is not ruled out here
abbrev pub IsWord : List ℕ → Type 0
IsWord w = AllByRecursion (λ b. (b == 32) ≡ false) w × ((length w == 0) ≡ false) × (list_all is_ascii w ≡ true)

-- the words of one line: at least one word, each as `IsWord` says
abbrev pub IsWordLine : List (List ℕ) → Type 0
IsWordLine [] = ⊥
IsWordLine (w ∷ ws) = AllByRecursion IsWord (w ∷ ws)
