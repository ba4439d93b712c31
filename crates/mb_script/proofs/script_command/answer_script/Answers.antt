-- Proof of `answer_script`: it reads a script to its end, and writes its answer and nothing else.
use Rattle.std.proofs.Common.{ℕ, List, Some, ◌≡◌, arith}
use Rattle.std.proofs.lemmas.Grind.{common_steps}
use Rattle.mb_script.specs.Devices.{Had}
use Rattle.mb_script.proofs.Exchanges.{too_long_read}
use Rattle.mb_script.proofs.script_command.answer_script.Goals as goal

pub returns-in-Err-TooLong-clause-exchange : goal.returns-in-Err-TooLong-clause-exchange
returns-in-Err-TooLong-clause-exchange g c =
    let said : (bytes : List ℕ) × Had (g.R.CountedRead.left c.args.reader.now) bytes
    × (g.C.ScriptCommand.command.fault_of bytes ≡ Some g.C.ScriptCommand.command.too_long) =
    too_long_read g.C.ScriptCommand.command c.faults-faults.ensures.long _ (g.R.CountedRead.left c.read_all.new.reader)
    (c.in-Err-TooLong.ensures.long (cc)) in
    grind (arith, common_steps)
