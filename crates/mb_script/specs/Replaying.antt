-- The answer to a replay script, or its fault.
use Rattle.std.specs.Prelude.{◌≡◌, ◌≢◌, ℕ, List, Option, Some, None, Result, Ok, Err}
use Rattle.mb_world.specs.declared.event.Answer.{Answer}
use Rattle.mb_world.specs.declared.event.Answer.TheVariants.{NoLane, NoConsumer}
use Rattle.mb_script.specs.declared.fault.Fault.{Fault}
use Rattle.mb_script.specs.declared.fault.Fault.TheVariants.{TooLong, NoMemory, ReadFault, WriteFault}
use Rattle.mb_script.specs.CommandIo.{Command}
use Rattle.mb_script.specs.ReplayText.{IsReplayText}
use Rattle.mb_script.specs.Scripts.{Script, script_of}

-- the bytes are a script without fault, and the text is that of its replay
pub record IsAnswer (bytes text : List ℕ) : Type 0 where
  -- the bytes say this script, and the text is that of the replay of its events
  pub script : Script
  pub read : script_of bytes ≡ Ok script
  pub replayed : IsReplayText script.plan script.events text

-- an answer to an event that does not say that the event's lane or consumer is missing
abbrev pub IsOfWorld : Answer → Type 0
IsOfWorld r = (r ≢ NoLane) × (r ≢ NoConsumer)

-- the fault of what was read, if reading found one
abbrev pub fault_in : Result Script Fault → Option Fault
fault_in (Err e) = Some e
fault_in (Ok s) = None

-- the first fault of the bytes, if they have one
abbrev pub fault_of : List ℕ → Option Fault
fault_of bytes = fault_in (script_of bytes)

-- the command `replay`: its answers and its faults
abbrev pub replaying : Command Fault
replaying = record {
  too_long = TooLong;
  no_memory = NoMemory;
  read_fault = ReadFault;
  write_fault = WriteFault;
  IsAnswer = IsAnswer;
  fault_of = fault_of;
}
