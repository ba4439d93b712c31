-- Clap reads and refuses the words of a command line alike, wherever in memory the names of shapes lie.
use Rattle.std.proofs.Common.{◌≡◌, ◌∙◌, refl, sym, ap, true, List, map}
use Rattle.std.specs.Borrow.{Bor}
use Rattle.clap.specs.Faults.{built_fault}
use Rattle.clap.specs.Simple.{argument_words, entered, names_of}
use Rattle.clap.specs.Walk.{nothing_held, stop_after}
use Rattle.clap.specs.Words.{App, Text, built, fault_of, is_simple, is_simple_and_free, subcommand_of}
use Rattle.clap.proofs.OnLiterals.{clap_on_literals}
use Rattle.mb_program.proofs.SameProgram.{below_swapped, entered_same, fault_same}
use Rattle.mb_program.proofs.SameWalk.{moved}
use Rattle.mb_program.specs.CommandLine.{IsProgramApp, TextsAt, program, program_with, shape_names, texts_at}

-- the program over some names, with the names of its parsers elsewhere in memory, is the program over those names
built_moved : (names : TextsAt)
    → below_swapped (built (program_with names)) ≡ built (program_with (moved names))
built_moved names = refl

-- if names say the four names of shapes, wherever they lie, the program over them, with those elsewhere, is `program`
there : (names : TextsAt) → map (λ (n : Bor Text). n.now) names.now ≡ shape_names
    → below_swapped (built (program_with names)) ≡ built program
there names says =
    built_moved names ∙ ap (λ (texts : List Text). built (program_with (texts_at texts))) says

-- ---- clap's rules say what it makes of the words
-- the program is simple as clap's rules ask, so they say which matches its command line gives
pub program_is_simple : (app : App) → IsProgramApp app → is_simple app ≡ true
unfolding clap_on_literals
program_is_simple app is = ap is_simple is.2 ∙ refl

-- no argument of the program has a rule on another, so clap's rules say which faults its words have
pub program_is_free : (app : App) → IsProgramApp app → is_simple_and_free app ≡ true
unfolding clap_on_literals
program_is_free app is = ap is_simple_and_free is.2 ∙ refl

-- ---- what clap finds in the words, and why it refuses them
-- clap finds the same command in the words, wherever the names of shapes lie
pub commands_same : (app : App) (words : List Text) → IsProgramApp app
    → subcommand_of app words ≡ subcommand_of program words
commands_same app words is =
    let at = program_with is.0 in
    let stop = stop_after (built at).top.rules (names_of (built at)) (argument_words at words) in
    ap (λ x. subcommand_of x words) is.2 ∙ sym (entered_same (built at) stop)
    ∙ ap (λ x. entered x stop) (there is.0 is.1)

-- clap refuses words for the same reasons, wherever the names of shapes lie
pub faults_alike : (app : App) (words : List Text) → IsProgramApp app
    → fault_of app words ≡ fault_of program words
faults_alike app words is =
    let at = program_with is.0 in
    ap (λ x. fault_of x words) is.2
    ∙ sym (fault_same (built at) nothing_held (argument_words at words))
    ∙ ap (λ x. built_fault x nothing_held (argument_words at words)) (there is.0 is.1)
