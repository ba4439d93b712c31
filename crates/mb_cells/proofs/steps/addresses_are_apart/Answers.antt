-- Proof of `steps::addresses_are_apart`: different words have different addresses, and all addresses lie below the
-- number of words.
use Rattle.mb_cells.proofs.steps.addresses_are_apart.Goals as goal
use Rattle.mb_cells.proofs.Blocks.{address-apart, address-within}

pub returns-clause-apart : goal.returns-clause-apart
returns-clause-apart c = address-apart

pub returns-clause-within : goal.returns-clause-within
returns-clause-within c = address-within
