-- Proof of `ConciliatorMachine::step`: makes the next access of a process at its place in a conciliator.
use Rattle.mb_deciding.proofs.OneStep.{conciliator_step}
use Rattle.mb_deciding.proofs.run.machine.ConciliatorMachineMachine.step.Goals as goal

pub returns : goal.returns
returns g c t same =
    rw (c.in-InConciliator.is) (conciliator_step t c.in-InConciliator.place _ c.next-op.result c.perform-seen.result
    c.args.word _ c.next-op.ensures c.perform-seen.ensures (c.after.ensures.reached t same))
