-- The options of `run` that the words of a command line give. A row is what clap found for one option.
use Rattle.std.specs.Prelude.{ℕ, ◌≡◌, ◌≤◌, ◌-◌, ◌^◌, max, min, List, codes, Option, Some, None, option_map, unwrap_or, if◌then◌else◌}
use Rattle.std.specs.Str.Parse.{digits_value, without_leading_plus}
use Rattle.clap.specs.Words.{Row, Text, first_of, one_of, subcommand_of}
use Rattle.clap.specs.ValueTests.{is_unsigned_in}
use Rattle.mb_claim.specs.declared.shape.Shape.{Shape}
use Rattle.mb_claim.specs.Rows.{plain}
use Rattle.mb_script.specs.Vocabulary.{shape_of_word}
use Rattle.mb_program.specs.declared.command.Choice.{Choice}
use Rattle.mb_program.specs.declared.command.Choice.TheVariants.{Run}
use Rattle.mb_program.specs.declared.options.Options.{Options}
use Rattle.mb_program.specs.declared.options.TheConstants.{MAX_BUDGET}
use Rattle.mb_program.specs.CommandLine.{program}

-- the number that the text spells, or 0 if there is no text or it spells no number below 2^64
abbrev pub number_from : Option Text → ℕ
number_from None = 0
number_from (Some text) =
    if is_unsigned_in 0 (2 ^ 64 - 1) text then digits_value 10 (without_leading_plus text) else 0

-- the number of the option of this name in the rows that clap found. Clap finds one, since each option has a default
abbrev pub number_in : Text → List Row → ℕ
number_in name rows = number_from (one_of name rows)

-- the budget in the rows that clap found, or the nearest number of its range
abbrev pub budget_in : List Row → ℕ
budget_in rows = max 1 (min (number_in (codes "budget") rows) MAX_BUDGET)

-- the shape that a word names as on a setup line, else pairs alone
abbrev pub shape_from : Option Text → Shape
shape_from None = plain
shape_from (Some word) = unwrap_or (shape_of_word word) plain

-- the shape that the option `shape` of the rows names
abbrev pub shape_in : List Row → Shape
shape_in rows = shape_from (first_of (codes "shape") rows)

-- the options of `run` that the rows give
abbrev pub options_in : List Row → Options
options_in rows = record {
  producers = number_in (codes "producers") rows;
  consumers = number_in (codes "consumers") rows;
  items = number_in (codes "items") rows;
  pairs = number_in (codes "pairs") rows;
  budget = budget_in rows;
  seed = number_in (codes "seed") rows;
  shape = shape_in rows;
}

-- If the choice is `run`, its options are those of the rows that clap found with the command's name
abbrev pub HasOptions : Option (Text × List Row) → Choice → Type 0
HasOptions found (Run options) = option_map (λ f. options_in f.1) found ≡ Some options
HasOptions found _ = Unit {0}

-- If the choice is `run`, its options are those that the words of the command line give
abbrev pub HasToldOptions : List Text → Choice → Type 0
HasToldOptions words choice = HasOptions (subcommand_of program words) choice

-- if the choice is `run`, its budget lies in its range
abbrev pub HasBudget : Choice → Type 0
HasBudget (Run options) = (1 ≤ options.budget) × (options.budget ≤ MAX_BUDGET)
HasBudget _ = Unit {0}
