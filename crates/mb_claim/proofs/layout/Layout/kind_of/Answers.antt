-- Proof of `Layout::kind_of`: the kind of an object that each cell has.
use Rattle.std.proofs.Common.{arith}
use Rattle.mb_deciding.specs.Vocabulary.{spread}
use Rattle.mb_claim.specs.{Conciliator, quorums_of, kinds_of}
use Rattle.mb_claim.proofs.LayoutObjects.{told_by_row, fit_in_row, last_turn_small}
use Rattle.mb_claim.proofs.layout.Layout.kind_of.Goals as goal

pub returns-clause-exact : goal.returns-clause-exact
returns-clause-exact c =
    let layout = c.args.self.now in
    told_by_row (kinds_of layout) layout.kinds c.args.object (Conciliator 0) c.requires
    (layout.row c.args.object (omega (arith, c.requires, layout.counted)))

pub returns-clause-fit : goal.returns-clause-fit
returns-clause-fit c =
    let layout = c.args.self.now in
    fit_in_row layout.shape (spread (quorums_of layout).values) layout.pairs c.args.object _ (last_turn_small layout)
    (returns-clause-exact c)
