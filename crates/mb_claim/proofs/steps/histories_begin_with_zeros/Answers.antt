-- Proof of `steps::histories_begin_with_zeros`: the empty history is lawful, and leaves words that are all 0.
use Rattle.mb_claim.proofs.States.{memory_empty}
use Rattle.mb_claim.proofs.steps.histories_begin_with_zeros.Goals as goal

pub returns-clause-memory : goal.returns-clause-memory
returns-clause-memory c = memory_empty
