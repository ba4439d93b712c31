-- Proof of `laws::further_lines_are_too_many`: in a text that is ASCII and not too long, a line after a script with the
-- most events is one too many, whatever it holds.
use Rattle.mb_script.proofs.ManyLines.{script_many}
use Rattle.mb_script.proofs.laws.further_lines_are_too_many.Goals as goal

pub returns : goal.returns
returns c = script_many
