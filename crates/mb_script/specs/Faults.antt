-- The faults of a replay.
use Rattle.std.specs.Prelude.{Result}
use Rattle.mb_script.specs.declared.fault.Fault.{Fault}
use Rattle.mb_script.specs.declared.fault.Fault.TheVariants.{TooLong, NoMemory, ReadFault, WriteFault}
use Rattle.mb_script.specs.declared.transfer.ReadEnd.{ReadEnd}
use Rattle.mb_script.specs.declared.transfer.ReadEnd.TheVariants as end
use Rattle.mb_script.specs.Steps.{GivesUnless}

-- the fault that has the name of this end of reading
abbrev pub fault_at : ReadEnd → Fault
fault_at end.TooLong = TooLong
fault_at end.NoMemory = NoMemory
fault_at end.ReadFault = ReadFault

-- the call returned what was to be read (`read`), seen by `view`, unless memory ran out. No device fails in the call
abbrev pub Gives : {X Y : Type 0} → (X → Y) → Result X Fault → Result Y Fault → Type 0
Gives view result read = GivesUnless NoMemory ReadFault WriteFault view result read
