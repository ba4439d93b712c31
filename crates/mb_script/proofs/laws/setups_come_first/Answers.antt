-- Proof of `laws::setups_come_first`: `NoSetup` comes before every other fault of a line, and only if there is no line
-- or the first word is not `setup`.
use Rattle.mb_script.proofs.FirstWords.{no_setup_always, no_setup_told}
use Rattle.mb_script.proofs.laws.setups_come_first.Goals as goal

pub returns : goal.returns
returns c = record { always = no_setup_always; only = no_setup_told }
