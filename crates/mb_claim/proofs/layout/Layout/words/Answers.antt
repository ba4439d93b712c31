-- Proof of `Layout::words`: how many words `cells` cells have.
use Rattle.std.proofs.Common.{◌*◌, ◌≤◌, ◌<◌, arith, sym, subst}
use Rattle.std.proofs.lemmas.Nat.{mul-le}
use Rattle.mb_claim.specs.{quorums_of, kinds_of, address_of, MAX_LARGE_CELLS}
use Rattle.mb_claim.specs.declared.layout.TheConstants.{MAX_OBJECTS}
use Rattle.mb_claim.proofs.layout.Layout.words.Goals as goal

pub overflow_mul-result : goal.overflow_mul-result
overflow_mul-result c =
    let few : c.args.cells * c.words_of_cell.result ≤ MAX_LARGE_CELLS * (65 * MAX_OBJECTS) =
    mul-le c.args.cells c.words_of_cell.result MAX_LARGE_CELLS (65 * MAX_OBJECTS) c.requires
    c.words_of_cell.ensures.small in
    omega (arith, few)

pub returns-clause-within : goal.returns-clause-within
returns-clause-within c k o reg word below =
    let layout = c.args.self.now in
    subst (λ w. address_of (quorums_of layout).registers (kinds_of layout) k o reg < c.args.cells * w)
    (sym c.words_of_cell.ensures.exact)
    (c.addresses_are_apart.ensures.within (quorums_of layout).registers (kinds_of layout)
    c.args.cells k o reg word below)
