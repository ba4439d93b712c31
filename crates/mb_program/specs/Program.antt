-- What the program does from its command line to its end.
use Rattle.std.specs.Prelude.{◌≡◌, ◌≢◌, ◌⊎◌, ℕ, List, [], Bool, Result, Ok, Err, Some, true, false}
use Rattle.std.specs.Io.KnownBytes.{Appends}
use Rattle.clap.specs.Words.{Text, fault_of}
use Rattle.clap.specs.declared.error.ErrorKind.{ErrorKind, TheVariants.DisplayHelp, TheVariants.DisplayVersion, TheVariants.OutOfMemory}
use Rattle.mb_script.specs.declared.fault.Fault.{Fault}
use Rattle.mb_script.specs.Replaying.{replaying}
use Rattle.mb_script.specs.Vocabulary.{AppendsFront, IsCommandIo, IoModel, one_more}
use Rattle.mb_program.specs.declared.command.Choice.{Choice, TheVariants.Ratify, TheVariants.Replay, TheVariants.Run}
use Rattle.mb_program.specs.declared.fault.{Failed.Failed, RatifyFault.RatifyFault, RunFault.RunFault}
use Rattle.mb_program.specs.declared.fault.Failed.TheVariants as failed
use Rattle.mb_program.specs.declared.outcome.ProgramExit.{ProgramExit}
use Rattle.mb_program.specs.declared.outcome.ProgramExit.TheVariants as ending
use Rattle.mb_program.specs.Answer.{ratifying}
use Rattle.mb_program.specs.CommandLine.{IsRefusalOf, choice_name, command_in, program}
use Rattle.mb_program.specs.Outcome.{fault_line}
use Rattle.mb_program.specs.RunOptions.{HasToldOptions}
use Rattle.mb_program.specs.Running.{IsRun}

-- how the program ends after a command with this result. `fault` turns a fault of the command into one of the program
abbrev pub ended_by : {X F : Type 0} → (F → Failed) → Result X F → ProgramExit
ended_by fault (Ok done) = ending.Done
ended_by fault (Err e) = ending.Failed (fault e)

-- the command of this choice was carried out, with its reader and its writer before it and after it, and the program
-- ends as `end` says
abbrev pub WasCarriedOut : {R W : Type 0} → Choice → IoModel R → IoModel W → R → R → W → W → ProgramExit → Type 0
WasCarriedOut Ratify source sink reader reader' writer writer' end =
    (r : Result (Unit {0}) RatifyFault) × IsCommandIo ratifying source sink reader reader' writer writer' r
    × (end ≡ ended_by failed.Ratify r)
WasCarriedOut Replay source sink reader reader' writer writer' end =
    (r : Result (Unit {0}) Fault) × IsCommandIo replaying source sink reader reader' writer writer' r
    × (end ≡ ended_by failed.Replay r)
WasCarriedOut (Run options) source sink reader reader' writer writer' end =
    (r : Result (Unit {0}) RunFault) × IsRun options sink writer writer' r × (reader' ≡ reader)
    × (end ≡ ended_by failed.Run r)

-- clap refuses none of the words, and they name this choice, with its options
abbrev pub WordsName : List Text → Choice → Type 0
WordsName words choice =
    (fault_of program words ≡ []) × (command_in words ≡ Some (choice_name choice)) × HasToldOptions words choice

-- the text was written whole, if `true`. Else a prefix of it was written and the writer failed once, or the writer is
-- as it was
abbrev pub IsPrinted : {D : Type 0} → IoModel D → D → D → List ℕ → Bool → Type 0
IsPrinted sink old new text true =
    Appends (sink.bytes old) (sink.bytes new) text × (sink.failures new ≡ sink.failures old)
IsPrinted sink old new text false =
    (AppendsFront (sink.bytes old) (sink.bytes new) text × (sink.failures new ≡ one_more (sink.failures old)))
    ⊎ (new ≡ old)

-- some text went to the writer for this kind, as `IsPrinted` says, and the other writer is as it was. Help and the
-- version go to the first, any other text to the second
abbrev pub IsTold : {W E : Type 0} → IoModel W → IoModel E → W → W → E → E → ErrorKind → Bool → Type 0
IsTold sink errs writer writer' errors errors' kind printed =
    ((kind ≡ DisplayHelp) ⊎ (kind ≡ DisplayVersion)
    → (errors' ≡ errors) × ((text : List ℕ) × IsPrinted sink writer writer' text printed))
    × (kind ≢ DisplayHelp → kind ≢ DisplayVersion
    → (writer' ≡ writer) × ((text : List ℕ) × IsPrinted errs errors errors' text printed))

-- ---- a run of the program
-- one run of the program over these words ends as the last argument says, with its reader and its two writers before
-- it and after it
abbrev pub IsProgramEnd : {R W E : Type 0} → List Text → IoModel R → IoModel W → IoModel E → R → R → W → W
    → E → E → ProgramExit → Type 0
-- the command that the words name was carried out
IsProgramEnd words source sink errs reader reader' writer writer' errors errors' ending.Done =
    ((choice : Choice) × WordsName words choice
    × WasCarriedOut choice source sink reader reader' writer writer' ending.Done)
    × (errors' ≡ errors)
-- The command that the words name failed. The line of its fault was written to the second writer: whole, or a prefix
-- if that writer failed, or nothing at all. If nothing was written, memory ran out, but no clause can say that.
IsProgramEnd words source sink errs reader reader' writer writer' errors errors' (ending.Failed fault) =
    ((choice : Choice) × WordsName words choice
    × WasCarriedOut choice source sink reader reader' writer writer' (ending.Failed fault))
    × ((whole : Bool) × IsPrinted errs errors errors' (fault_line fault) whole)
-- Clap refused the words, as `IsRefusalOf` says, so nothing was read. Help and the version go to the first writer only,
-- other text to the second only. Words in which clap finds no fault, and that name a command, are refused only if
-- memory ran out.
IsProgramEnd words source sink errs reader reader' writer writer' errors errors' (ending.Refused kind printed) =
    (reader' ≡ reader) × IsRefusalOf words kind
    × IsTold sink errs writer writer' errors errors' kind printed
    × ((choice : Choice) → fault_of program words ≡ [] → command_in words ≡ Some (choice_name choice)
    → kind ≡ OutOfMemory)
-- These two ends come only if the words of the command line could not be had. Here the words are given.
IsProgramEnd words source sink errs reader reader' writer writer' errors errors' ending.NonUtf8Args = ⊥
IsProgramEnd words source sink errs reader reader' writer writer' errors errors' ending.ArgsUnavailable = ⊥
