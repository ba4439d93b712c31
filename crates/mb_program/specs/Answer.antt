-- The answer to a ratifier script, or its fault.
use Rattle.std.specs.Prelude.{◌≡◌, ℕ, List, Option, Some, None, Result, Ok, Err, option_map}
use Rattle.mb_quorum.specs.Tables.{table_of}
use Rattle.mb_deciding.specs.declared.object.Out.{Out}
use Rattle.mb_deciding.specs.declared.object.Kind.TheVariants.{Ratifier}
use Rattle.mb_deciding.specs.declared.trace.Entry.{Entry}
use Rattle.mb_deciding.specs.Vocabulary.{setup_of, IsTrace, plain_schedule, refusal_of}
use Rattle.mb_program.specs.declared.fault.RatifyFault.{RatifyFault}
use Rattle.mb_program.specs.declared.fault.RatifyFault.TheVariants.{TooLong, NoMemory, ReadFault, WriteFault}
use Rattle.mb_script.specs.Vocabulary.{Command}
use Rattle.mb_program.specs.Refusal.{fault_from}
use Rattle.mb_program.specs.RatifyScript.{Script, script_of}
use Rattle.mb_program.specs.TraceText.{trace_text}

-- these entries and outputs are the trace of one ratifier over the script's table, inputs and turns
abbrev pub IsTraceOf : Script → List Entry → List (Option Out) → Type 0
IsTraceOf s entries outputs =
    IsTrace (setup_of (table_of s.table s.values) Ratifier s.inputs) (plain_schedule s.turns) entries outputs

-- why the function `ratify` refuses the script, if it does
abbrev pub refused_as : Script → Option RatifyFault
refused_as s = option_map fault_from (refusal_of s.values s.inputs s.turns)

-- the fault that reading found, if it found one, or else the one for which the function `ratify` refuses the script
abbrev pub fault_in : Result Script RatifyFault → Option RatifyFault
fault_in (Err e) = Some e
fault_in (Ok s) = refused_as s

-- the first fault of the bytes, if they have one
abbrev pub fault_of : List ℕ → Option RatifyFault
fault_of bytes = fault_in (script_of bytes)

-- the bytes are a script without fault, and the text is that of its trace
pub record IsAnswer (bytes text : List ℕ) : Type 0 where
  -- the bytes say this script, and the function `ratify` does not refuse it
  pub script : Script
  pub read : script_of bytes ≡ Ok script
  pub accepted : refused_as script ≡ None
  -- the entries and outputs are the script's trace, and the text is that of the trace
  pub entries : List Entry
  pub outputs : List (Option Out)
  pub made : IsTraceOf script entries outputs
  pub written : text ≡ trace_text entries outputs

-- the command `ratify`: its answers and its faults
abbrev pub ratifying : Command RatifyFault
ratifying = record {
  too_long = TooLong;
  no_memory = NoMemory;
  read_fault = ReadFault;
  write_fault = WriteFault;
  IsAnswer = IsAnswer;
  fault_of = fault_of;
}
