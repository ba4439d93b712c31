-- What calls that read a script and may fail return.
use Rattle.std.specs.Prelude.{Result}
use Rattle.mb_script.specs.Vocabulary.{GivesUnless}
use Rattle.mb_program.specs.declared.fault.RatifyFault.{RatifyFault}
use Rattle.mb_program.specs.declared.fault.RatifyFault.TheVariants.{NoMemory, ReadFault, WriteFault}

-- the call returned what was to be read (`read`), seen by `view`, unless memory ran out. No device fails in the call
abbrev pub Gives : {X Y : Type 0} → (X → Y) → Result X RatifyFault → Result Y RatifyFault → Type 0
Gives view result read = GivesUnless NoMemory ReadFault WriteFault view result read
