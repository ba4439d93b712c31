-- Proof of `Layout::words_of_cell`: how many words each cell has.
use Rattle.std.proofs.Common.{arith}
use Rattle.mb_claim.proofs.LayoutObjects.{cell_small}
use Rattle.mb_claim.proofs.layout.Layout.words_of_cell.Goals as goal

pub returns-clause-small : goal.returns-clause-small
returns-clause-small c = let small = cell_small c.args.self.now in omega (arith, small, c.args.self.now.size)

pub returns-clause-exact : goal.returns-clause-exact
returns-clause-exact c = c.args.self.now.size
