-- Proof of `steps::words_follow_steps`: after each access, a pool's words in one block and its processes' parts are
-- those of the history with that access.
use Rattle.mb_cells.proofs.steps.words_follow_steps.Goals as goal
use Rattle.mb_cells.proofs.Blocks.{state_after, state_empty, state_more}

pub returns-clause-empty : goal.returns-clause-empty
returns-clause-empty c = state_empty

pub returns-clause-step : goal.returns-clause-step
returns-clause-step c = state_after

pub returns-clause-more : goal.returns-clause-more
returns-clause-more c = state_more
