-- Proof of `RatifierMachine::step`: makes the next access of a process at its place in a ratifier.
use Rattle.std.proofs.Common.{sym, subst}
use Rattle.mb_deciding.specs.{IsStep, next_from}
use Rattle.mb_deciding.proofs.CourseTables.{ratifier_place}
use Rattle.mb_deciding.proofs.run.machine.RatifierMachineMachine.step.Goals as goal

pub step-requires-clause-place : goal.step-requires-clause-place
step-requires-clause-place g c =
    let (v, turns, at) = c.requires.place in
    ratifier_place (g.Q.Quorums.table c.args.self.now.table) v c.args.pc.now turns at

pub returns : goal.returns
returns g c t same =
    subst (λ x. IsStep x c.args.pc.now (λ op seen. g.W.Memory.makes c.args.memory.now 0 op seen c.step.new.memory)
    c.args.word (next_from c.step.result c.step.new.self)) (sym same) (c.step.ensures.step)
