-- What `get_str` of clap returns for the option of a shape, by the rows that clap found.
use Rattle.std.proofs.Common.{◌≡◌, ◌∙◌, ap, sym, Option, Some, None, codes}
use Rattle.std.specs.Prelude.{option_map, unwrap_or}
use Rattle.std.specs.Borrow.{Bor}
use Rattle.clap.specs.Words.{Text, first_value, rows_of}
use Rattle.clap.specs.declared.parser.matches.Found.{Found}
use Rattle.clap.proofs.WalkLemmas.{first_value-rows}
use Rattle.mb_claim.specs.declared.shape.Shape.{Shape}
use Rattle.mb_claim.specs.Rows.{plain}
use Rattle.mb_script.specs.Vocabulary.{shape_of_word}
use Rattle.mb_program.specs.RunOptions.{shape_from, shape_in}

-- the shape that the text returned by `get_str` names, or else pairs alone, is the shape of the rows
shape_read : (f : Found) (o p : Option (Bor Text))
    → option_map (λ (s : Bor Text). s.now) o ≡ first_value f (codes "shape") → o ≡ p
    → shape_from (option_map (λ (s : Bor Text). s.now) p) ≡ shape_in (rows_of f)
shape_read f o p gives is =
    ap (λ (q : Option (Bor Text)). shape_from (option_map (λ (s : Bor Text). s.now) q)) (sym is)
    ∙ ap shape_from (gives ∙ first_value-rows f (codes "shape"))

-- if `get_str` returns a word, the shape of the rows is the one that it names, or pairs alone if it names none
pub word_read : (f : Found) (o : Option (Bor Text)) (word : Bor Text) (named : Option Shape)
    (r : Shape)
    → option_map (λ (s : Bor Text). s.now) o ≡ first_value f (codes "shape") → o ≡ Some word
    → named ≡ shape_of_word word.now
    → r ≡ unwrap_or named plain → r ≡ shape_in (rows_of f)
word_read f o word named r gives is found made =
    made ∙ ap (λ (q : Option Shape). unwrap_or q plain) found
    ∙ shape_read f o (Some word) gives is

-- if `get_str` returns no word, the shape of the rows is pairs alone
pub none_read : (f : Found) (o : Option (Bor Text))
    → option_map (λ (s : Bor Text). s.now) o ≡ first_value f (codes "shape") → o ≡ None
    → plain ≡ shape_in (rows_of f)
none_read f o gives is = shape_read f o None gives is
