use Rattle.mb_channel.specs.Ends.{AreOfOneChannel}
use Rattle.test_channel.proofs.sending.Sending.work.Given as goal

-- after each value sent the worker's keeper is still of its channel
abbrev pub invariant-loop-number : goal.invariant-loop-number
invariant-loop-number g l = AreOfOneChannel l.initial.worker.keeper.end l.worker.keeper.end
