-- The command line, as clap describes it.
use Rattle.std.specs.Prelude.{◌≡◌, ◌≢◌, ◌⊎◌, ℕ, ◌-◌, ◌^◌, List, [], ◌∷◌, codes, map, true, Option, Some, option_map}
use Rattle.std.specs.Borrow.{Bor}
use Rattle.clap.specs.Words.{App, IsAmong, Rule, Text, fault_of, new_app, new_rule, subcommand_of, with_rule, with_subcommand}
use Rattle.clap.specs.declared.error.ErrorKind.{ErrorKind}
use Rattle.clap.specs.declared.error.ErrorKind.TheVariants.{InvalidSubcommand, OutOfMemory}
use Rattle.clap.specs.Simple.{on_top}
use Rattle.clap.specs.declared.builder.action.ArgAction.TheVariants.{Set}
use Rattle.clap.specs.declared.builder.value_parser.ValueParser.TheVariants.{Names, Unsigned}
use Rattle.mb_program.specs.declared.command.Choice.{Choice}
use Rattle.mb_program.specs.declared.command.Choice.TheVariants.{Ratify, Replay, Run}
use Rattle.mb_program.specs.declared.options.TheConstants.{MAX_BUDGET}

-- an option that takes a number from `low` to `high`, and has this default if it is not given
abbrev pub number_rule : Text → Text → ℕ → ℕ → Rule
number_rule name default low high = record (new_rule name) {
  long = Some name;
  action = Some Set;
  value_names = 1;
  defaults = default ∷ [];
  parser = Some (Unsigned low high);
}

-- an option that takes any number below 2^64, with this default
abbrev pub any_number : Text → Text → Rule
any_number name default = number_rule name default 0 (2 ^ 64 - 1)

-- the type of references to texts, as clap takes them
abbrev pub TextsAt : Type 0
TextsAt = Bor (List (Bor Text))

-- a reference to a value, at an address that is the same for all: clap reads what texts say, and not where they lie
abbrev pub somewhere : {X : Type 0} → X → Bor X
somewhere x = record { ref_ptr = (0, 0); now = x }

-- references to texts, each at that address
abbrev pub texts_at : List Text → TextsAt
texts_at texts = somewhere (map somewhere texts)

-- an option that takes one of these names, and has this default if it is not given
abbrev pub named_rule : Text → Text → TextsAt → Rule
named_rule name default names = record (new_rule name) {
  long = Some name;
  action = Some Set;
  value_names = 1;
  defaults = default ∷ [];
  parser = Some (Names names);
}

-- the names of shapes
abbrev pub shape_names : List Text
shape_names = codes "plain" ∷ codes "fast" ∷ codes "last" ∷ codes "fastlast" ∷ []

-- the command `run`: it takes six numbers, and the name of a shape
abbrev pub run_with : TextsAt → App
run_with names =
    with_rule (with_rule (with_rule (with_rule (with_rule (with_rule (with_rule (new_app (codes "run"))
    (any_number (codes "producers") (codes "2"))) (any_number (codes "consumers") (codes "2")))
    (any_number (codes "items") (codes "8"))) (any_number (codes "pairs") (codes "4")))
    (number_rule (codes "budget") (codes "64") 1 MAX_BUDGET)) (any_number (codes "seed") (codes "0")))
    (named_rule (codes "shape") (codes "plain") names)

-- the program without its commands. It prints its version, and one of its commands has to be named
abbrev pub root_command : App
root_command =
    on_top (λ top. record top { subcommand_required = true; has_version = true }) (new_app (codes "mailbox"))

-- the program with its commands: `ratify` and `replay`, which take nothing more, and `run`, over these names of shapes
abbrev pub program_with : TextsAt → App
program_with names =
    with_subcommand (with_subcommand (with_subcommand root_command (new_app (codes "ratify")).top)
    (new_app (codes "replay")).top) (run_with names).top

-- the program, over the names of shapes
abbrev pub program : App
program = program_with (texts_at shape_names)

-- the app is `app_with` of these texts, wherever they lie in memory
abbrev pub IsHanded : (TextsAt → App) → List Text → App → Type 0
IsHanded app_with texts app =
    (names : TextsAt) × (map (λ (n : Bor Text). n.now) names.now ≡ texts) × (app ≡ app_with names)

-- the app is the command `run`, wherever the names of shapes lie
abbrev pub IsRunApp : App → Type 0
IsRunApp = IsHanded run_with shape_names

-- the app is the program, wherever the names of shapes lie
abbrev pub IsProgramApp : App → Type 0
IsProgramApp = IsHanded program_with shape_names

-- the name of the command that clap finds in the words, if it finds one. The first word is the program's name
abbrev pub command_in : List Text → Option Text
command_in words = option_map (λ found. found.0) (subcommand_of program words)

-- the name of the command that was chosen
abbrev pub choice_name : Choice → Text
choice_name Ratify = codes "ratify"
choice_name Replay = codes "replay"
choice_name (Run options) = codes "run"

-- why clap may return no choice for these words: memory ran out, its rules give a fault of this kind, or they give none
-- and the words name none of the commands
abbrev pub IsRefusalOf : List Text → ErrorKind → Type 0
IsRefusalOf words kind =
    (kind ≡ OutOfMemory) ⊎ IsAmong kind (fault_of program words)
    ⊎ ((kind ≡ InvalidSubcommand) × (fault_of program words ≡ [])
    × ((choice : Choice) → command_in words ≢ Some (choice_name choice)))
