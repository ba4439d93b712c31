-- How the program ends: the line of each fault, and the exit statuses.
use Rattle.std.specs.Prelude.{ℕ, List, ◌++◌, Bool, true, false, codes}
use Rattle.std.specs.Fmt.{decimal}
use Rattle.clap.specs.declared.error.ErrorKind.{ErrorKind}
use Rattle.clap.specs.declared.error.ErrorKind.TheVariants.{DisplayHelp, DisplayVersion, OutOfMemory}
use Rattle.mb_world.specs.declared.setup.SetupFault.{SetupFault}
use Rattle.mb_world.specs.declared.setup.SetupFault.TheVariants.{BadProducers, BadConsumers, BadCells, BadRounds}
use Rattle.mb_script.specs.declared.fault.Fault.TheVariants as replay
use Rattle.mb_program.specs.declared.fault.Failed.{Failed}
use Rattle.mb_program.specs.declared.fault.Failed.TheVariants.{Ratify, Replay, Run}
use Rattle.mb_program.specs.declared.fault.RatifyFault.TheVariants as ratify
use Rattle.mb_program.specs.declared.fault.RunFault.TheVariants as run
use Rattle.mb_program.specs.declared.outcome.ProgramExit.{ProgramExit}
use Rattle.mb_program.specs.declared.outcome.ProgramExit.TheVariants as ending

-- the text of a fault of a setup: its number and its name
abbrev pub setup_fault_text : SetupFault → List ℕ
setup_fault_text BadProducers = codes "1 BadProducers"
setup_fault_text BadConsumers = codes "2 BadConsumers"
setup_fault_text BadCells = codes "3 BadCells"
setup_fault_text BadRounds = codes "4 BadRounds"

-- the line of a fault
abbrev pub fault_line : Failed → List ℕ
fault_line (Ratify ratify.TooLong) = codes "fault 1 TooLong\n"
fault_line (Ratify ratify.NotAscii) = codes "fault 2 NotAscii\n"
fault_line (Ratify (ratify.BadLine line)) = codes "fault 3 BadLine " ++ decimal line ++ codes "\n"
fault_line (Ratify (ratify.BadNumber line)) = codes "fault 4 BadNumber " ++ decimal line ++ codes "\n"
fault_line (Ratify ratify.BadValues) = codes "fault 5 BadValues\n"
fault_line (Ratify (ratify.BadInput place)) = codes "fault 6 BadInput " ++ decimal place ++ codes "\n"
fault_line (Ratify (ratify.NoSuchProcess place)) = codes "fault 7 NoSuchProcess " ++ decimal place ++ codes "\n"
fault_line (Ratify ratify.NoMemory) = codes "fault 8 NoMemory\n"
fault_line (Ratify ratify.ReadFault) = codes "fault 9 ReadFault\n"
fault_line (Ratify ratify.WriteFault) = codes "fault 10 WriteFault\n"
fault_line (Replay replay.TooLong) = codes "fault 1 TooLong\n"
fault_line (Replay replay.NotAscii) = codes "fault 2 NotAscii\n"
fault_line (Replay (replay.BadLine line)) = codes "fault 3 BadLine " ++ decimal line ++ codes "\n"
fault_line (Replay (replay.BadNumber line)) = codes "fault 4 BadNumber " ++ decimal line ++ codes "\n"
fault_line (Replay replay.NoSetup) = codes "fault 5 NoSetup\n"
fault_line (Replay (replay.BadSetup line why)) =
    codes "fault 6 BadSetup " ++ decimal line ++ codes " " ++ setup_fault_text why ++ codes "\n"
fault_line (Replay (replay.NoLane line)) = codes "fault 7 NoLane " ++ decimal line ++ codes "\n"
fault_line (Replay (replay.NoConsumer line)) = codes "fault 8 NoConsumer " ++ decimal line ++ codes "\n"
fault_line (Replay replay.TooManyEvents) = codes "fault 9 TooManyEvents\n"
fault_line (Replay replay.NoMemory) = codes "fault 10 NoMemory\n"
fault_line (Replay replay.ReadFault) = codes "fault 11 ReadFault\n"
fault_line (Replay replay.WriteFault) = codes "fault 12 WriteFault\n"
fault_line (Run (run.BadSetup why)) = codes "fault 1 BadSetup " ++ setup_fault_text why ++ codes "\n"
fault_line (Run run.NoMemory) = codes "fault 2 NoMemory\n"
fault_line (Run run.NoThread) = codes "fault 3 NoThread\n"
fault_line (Run run.WriteFault) = codes "fault 4 WriteFault\n"

-- the exit status of a fault
abbrev pub fault_status : Failed → ℕ
fault_status (Ratify ratify.NoMemory) = 3
fault_status (Ratify ratify.ReadFault) = 3
fault_status (Ratify ratify.WriteFault) = 3
fault_status (Ratify fault) = 2
fault_status (Replay replay.NoMemory) = 3
fault_status (Replay replay.ReadFault) = 3
fault_status (Replay replay.WriteFault) = 3
fault_status (Replay fault) = 2
fault_status (Run (run.BadSetup why)) = 2
fault_status (Run fault) = 3

-- the exit status if clap returned no choice, and its text was printed or not. Help or a version that was asked for and
-- could not be printed counts as a failed write
abbrev pub refusal_status : ErrorKind → Bool → ℕ
refusal_status DisplayHelp true = 0
refusal_status DisplayVersion true = 0
refusal_status DisplayHelp false = 3
refusal_status DisplayVersion false = 3
refusal_status OutOfMemory printed = 3
refusal_status kind printed = 2

-- the exit status of an end of the program
abbrev pub end_status : ProgramExit → ℕ
end_status ending.Done = 0
end_status (ending.Failed failed) = fault_status failed
end_status (ending.Refused kind printed) = refusal_status kind printed
end_status ending.NonUtf8Args = 2
end_status ending.ArgsUnavailable = 3
