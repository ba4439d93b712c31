-- The command that the words name, in what clap finds and in what it refuses.
use Rattle.std.proofs.Common.{◌≡◌, inl, inr, subst, Bool, false, List, [], ◌∷◌, true, Option, Some, None, option_map, refl, sym, ap, ◌∙◌, arith, Result, Ok, Err}
use Rattle.std.proofs.lemmas.Grind.{common_steps}
use Rattle.std.specs.Prelude.{IfErr, IsErrAnd, IsSome}
use Rattle.clap.specs.Words.{App, HasKind, IsAmong, Kinds, Text, HasMatchesOf, fault_of, kind_of, subcommand_name_of, subcommand_of, subcommand_rows_of}
use Rattle.clap.specs.declared.parser.matches.ArgMatches.{ArgMatches}
use Rattle.clap.specs.declared.error.Error.{Error}
use Rattle.clap.specs.declared.error.ErrorKind.{ErrorKind}
use Rattle.clap.specs.declared.error.ErrorKind.TheVariants.{InvalidSubcommand, OutOfMemory}
use Rattle.clap.proofs.OnLiterals.{clap_on_literals}
use Rattle.mb_program.specs.declared.command.Choice.{Choice}
use Rattle.mb_program.specs.declared.command.Choice.TheVariants.{Ratify, Replay, Run}
use Rattle.mb_program.specs.CommandLine.{IsProgramApp, IsRefusalOf, program, command_in, choice_name}
use Rattle.mb_program.proofs.Programs.{commands_same, faults_alike, program_is_simple}

-- ---- a command that stands alone on the command line
-- clap finds no fault in a command that stands alone
pub alone_taken : (name : Text) (choice : Choice) → fault_of program (name ∷ choice_name choice ∷ []) ≡ []
unfolding clap_on_literals
alone_taken name Ratify = refl
alone_taken name Replay = refl
alone_taken name (Run options) = refl

-- clap finds a command that stands alone
alone_found : (name : Text) (choice : Choice) → command_in (name ∷ choice_name choice ∷ []) ≡ Some (choice_name choice)
unfolding clap_on_literals
alone_found name Ratify = refl
alone_found name Replay = refl
alone_found name (Run options) = refl

-- in matches, the name beside the rows of the entered subcommand is the name of that subcommand
rows_name : (m : ArgMatches) → option_map (λ (found : _). found.0) (subcommand_rows_of m) ≡ subcommand_name_of m
rows_name m = grind (arith, common_steps)

-- the matches of a command that stands alone name that command
pub alone_named : (app : App) (words : List Text) (m : ArgMatches) (name : Text) (choice : Choice) → IsProgramApp app
    → words ≡ name ∷ choice_name choice ∷ [] → HasMatchesOf app words m → subcommand_name_of m
    ≡ Some (choice_name choice)
alone_named app words m name choice is_program alone matches =
    sym (rows_name m)
    ∙ ap (option_map (λ found. found.0))
    ((matches (program_is_simple app is_program)).1 ∙ commands_same app words is_program
    ∙ ap (subcommand_of program) alone)
    ∙ alone_found name choice

-- an option that is `None` has no value
pub not_some : {X : Type 0} (r : Option X) → r ≡ None → IsSome r → ⊥
not_some {X} (Some x) e is = let both : ◌≡◌ {A = Option X} (Some x) None = e in absurd (cc)
not_some None e is = let both : ◌≡◌ {A = Bool} false true = is in absurd (cc)

-- ---- the command that clap finds in the words
-- the subcommand and the rows of the matches are those that clap finds in the words
pub found_in : (app : App) (words : List Text) (m : ArgMatches) → IsProgramApp app → HasMatchesOf app words m
    → subcommand_rows_of m ≡ subcommand_of program words
found_in app words m is_program matches =
    (matches (program_is_simple app is_program)).1 ∙ commands_same app words is_program

-- the matches name the command that clap finds in the words
pub named_in : (app : App) (words : List Text) (m : ArgMatches) (choice : Choice) → IsProgramApp app
    → HasMatchesOf app words m
    → command_in words ≡ Some (choice_name choice) → subcommand_name_of m ≡ Some (choice_name choice)
named_in app words m choice is_program matches named =
    sym (rows_name m) ∙ ap (option_map (λ found. found.0)) (found_in app words m is_program matches) ∙ named

-- the matches name no other command than clap finds
pub told_in : (app : App) (words : List Text) (m : ArgMatches) (choice : Choice) → IsProgramApp app
    → HasMatchesOf app words m
    → subcommand_name_of m ≡ Some (choice_name choice) → command_in words ≡ Some (choice_name choice)
told_in app words m choice is_program matches named =
    sym (ap (option_map (λ found. found.0)) (found_in app words m is_program matches)) ∙ rows_name m ∙ named

-- ---- the kind of a refusal
-- if `?` returns an error, and P holds of its kind, P holds of the kind of the result's error
pub error_kept : {X : Type 0} (P : ErrorKind → Type 0) (r : Result X Error) (e : Error)
    → IsErrAnd r (λ f. f ≡ e) → P (kind_of e)
    → IfErr r (λ f. P (kind_of f))
error_kept P (Ok x) e same kind = tt
error_kept P (Err f) e same kind = subst (λ (g : Error). P (kind_of g)) (sym same) kind

-- an error of a kind that clap's rules give for the words is a refusal of these words
pub refused_by : (words : List Text) (app : App) (e : Error) → IsProgramApp app
    → HasKind (fault_of app words) e → IsRefusalOf words (kind_of e)
refused_by words app e is has = elim has [
  | inl none ↦ inl none
  | inr among ↦ inr (inl (subst (λ (kinds : Kinds). IsAmong (kind_of e) kinds) (faults_alike app words is) among))
]

-- if clap finds no fault in the words, an error of a kind that its rules give says that memory ran out
pub only_memory : (words : List Text) (app : App) (e : Error) → IsProgramApp app → fault_of program words ≡ []
    → HasKind (fault_of app words) e → kind_of e ≡ OutOfMemory
only_memory words app e is none has =
    elim (subst (λ (kinds : Kinds). HasKind kinds e) (faults_alike app words is ∙ none) has) [
      | inl memory ↦ memory
      | inr among ↦ absurd among
    ]

-- if the matches of the words give no choice, the words name no command, so `InvalidSubcommand` is a refusal of them
pub unnamed : (words : List Text) (app : App) (m : ArgMatches) (kind : ErrorKind)
    (r : Option Choice) → IsProgramApp app → HasMatchesOf app words m → fault_of app words ≡ []
    → r ≡ None → ((choice : Choice) → subcommand_name_of m ≡ Some (choice_name choice) → IsSome r)
    → kind ≡ InvalidSubcommand → IsRefusalOf words kind
unnamed words app m kind r is_program matches faultless none each is =
    inr (inr (
      is,
      sym (faults_alike app words is_program) ∙ faultless,
      λ choice named. not_some r none (each choice (named_in app words m choice is_program matches named)),
    ))
