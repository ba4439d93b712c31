-- Proof of `parse`, which returns the script that the bytes spell, or their first fault.
use Rattle.std.proofs.Common.{subst}
use Rattle.mb_script.specs.Faults.{Gives}
use Rattle.mb_script.specs.Scripts.{view}
use Rattle.mb_script.proofs.ReadAgain.{script_again}
use Rattle.mb_script.proofs.ScriptBack.{is_found}
use Rattle.mb_script.proofs.parser.parse.Goals as goal

pub returns-clause-found : goal.returns-clause-found
returns-clause-found g c = is_found c.args.bytes.now c.read_bytes.result c.read_bytes.ensures.exact

pub returns-clause-only : goal.returns-clause-only
returns-clause-only g c =
    λ z events is short lines. subst (λ r. Gives (λ s. view s) c.read_bytes.result r)
    (script_again c.args.bytes.now z events is short lines) c.read_bytes.ensures.exact
