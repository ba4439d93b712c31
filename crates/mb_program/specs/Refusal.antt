-- The fault of the command `ratify` for each refusal of the function `ratify`, and for each end of reading.
use Rattle.mb_deciding.specs.declared.trace.Fault.{Fault}
use Rattle.mb_deciding.specs.declared.trace.Fault.TheVariants as ratify
use Rattle.mb_program.specs.declared.fault.RatifyFault.{RatifyFault}
use Rattle.mb_program.specs.declared.fault.RatifyFault.TheVariants.{TooLong, BadValues, BadInput}
use Rattle.mb_program.specs.declared.fault.RatifyFault.TheVariants.{NoSuchProcess, NoMemory, ReadFault}
use Rattle.mb_script.specs.declared.transfer.ReadEnd.{ReadEnd}
use Rattle.mb_script.specs.declared.transfer.ReadEnd.TheVariants as end

-- the fault that has the name of this refusal of the function `ratify`
abbrev pub fault_from : Fault → RatifyFault
fault_from ratify.BadValues = BadValues
fault_from (ratify.BadInput place) = BadInput place
fault_from (ratify.NoSuchProcess place) = NoSuchProcess place
fault_from ratify.NoMemory = NoMemory

-- the fault that has the name of this end of reading
abbrev pub fault_at : ReadEnd → RatifyFault
fault_at end.TooLong = TooLong
fault_at end.NoMemory = NoMemory
fault_at end.ReadFault = ReadFault
