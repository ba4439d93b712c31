-- Proof of `RatifierMachine::first`: the place of a process in a ratifier before its first access.
use Rattle.std.proofs.Common.{[], sym, subst}
use Rattle.mb_deciding.specs.{Ratifier, PcIsAt}
use Rattle.mb_deciding.proofs.run.machine.RatifierMachineMachine.first.Goals as goal

pub returns : goal.returns
returns g c t same =
    subst (λ x. PcIsAt x Ratifier c.args.input c.announcing.result []) (sym same) (c.announcing.ensures.begins)
