use Rattle.mb_bounded.proofs.DeskMoves.{alone, holder, numbers}
use Rattle.mb_bounded.proofs.laws.holder_knows_the_numbers.Goals as goal

pub returns-clause-there : goal.returns-clause-there
returns-clause-there g c = holder

pub returns-clause-alone : goal.returns-clause-alone
returns-clause-alone g c = alone

pub returns-clause-numbers : goal.returns-clause-numbers
returns-clause-numbers g c = numbers
