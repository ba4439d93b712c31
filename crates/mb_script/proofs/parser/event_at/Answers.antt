-- Proof of `event_at`, which returns the event of this world that line `n` says, or what is wrong with the line.
use Rattle.std.proofs.Common.{rules}
use Rattle.mb_script.proofs.Lined.{bad_event}
use Rattle.mb_script.proofs.parser.event_at.Goals as goal

pub returns-in_default : goal.returns-in_default
returns-in_default c = search (rules, bad_event)
