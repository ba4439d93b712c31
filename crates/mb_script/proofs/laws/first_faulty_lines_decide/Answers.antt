-- Proof of `laws::first_faulty_lines_decide`: the first faulty line of a text decides. The lines after it do not count,
-- if all is ASCII and not too long.
use Rattle.mb_script.proofs.FaultyLines.{script_before, script_same}
use Rattle.mb_script.proofs.laws.first_faulty_lines_decide.Goals as goal

pub returns : goal.returns
returns c = record { behind = script_same; before = script_before }
