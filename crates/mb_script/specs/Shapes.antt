-- The shapes of cells in a script: the word that may end its first line.
use Rattle.std.specs.Prelude.{ℕ, Bool, true, false, List, [], ◌∷◌, codes, Option, Some, None, if◌then◌else◌}
use Rattle.std.specs.Str.{bytes_eq}
use Rattle.mb_claim.specs.declared.shape.Shape.{Shape}
use Rattle.mb_claim.specs.Rows.{plain}

-- the shape with a fast path or without, and with a last object or without
abbrev pub shape_with : Bool → Bool → Shape
shape_with fast last = record { fast = fast; last = last }

-- the words of a shape: none if it has neither a fast path nor a last object, and else one
abbrev pub words_with : Bool → Bool → List (List ℕ)
words_with false false = []
words_with true false = codes "fast" ∷ []
words_with false true = codes "last" ∷ []
words_with true true = codes "fastlast" ∷ []

-- the words of a shape on the first line of a script
abbrev pub shape_words : Shape → List (List ℕ)
shape_words shape = words_with shape.fast shape.last

-- the shape that a word names, if it names one
abbrev pub shape_of_word : List ℕ → Option Shape
shape_of_word word =
    if bytes_eq word (codes "fast") then Some (shape_with true false)
    else if bytes_eq word (codes "last") then Some (shape_with false true)
    else if bytes_eq word (codes "fastlast") then Some (shape_with true true)
    else None

-- the shape that the words after a table's name say, if they say one. If there are no words, cells have pairs alone
abbrev pub shape_named : List (List ℕ) → Option Shape
shape_named [] = Some plain
shape_named (word ∷ []) = shape_of_word word
shape_named (word ∷ other ∷ words) = None
