-- Proof of `Layout::kind_in_row`: the kind of an object of the row, which is one of the fast path, one of a
-- pair, or the last object.
use Rattle.std.proofs.Common.{◌<◌, ◌*◌, ◌-◌, ◌∙◌, ◌/◌, arith}
use Rattle.mb_claim.proofs.LayoutObjects.{length-row_of, last_few, first_of_pair, second_of_pair, in_pairs, at_last}
use Rattle.mb_claim.proofs.layout.Layout.kind_in_row.Goals as goal

pub returns-then-place-pairs : goal.returns-then-place-pairs
returns-then-place-pairs c =
    at_last c.args.shape c.args.last_turn c.args.pairs c.args.object
    (omega (arith, c.before-before.ensures.exact, c.if-object-before.false, c.if-place-pairs.true)) c.requires.within

pub returns-then-place-eq0 : goal.returns-then-place-eq0
returns-then-place-eq0 c =
    let place = c.args.object - c.before-before.result in
    let n = c.args.pairs in
    let inside : place < 2 * n =
    omega (
      arith,
      length-row_of c.args.shape c.args.last_turn n,
      last_few c.args.shape.last,
      c.requires.within,
      c.before-before.ensures.exact,
      c.if-object-before.false,
      c.if-place-pairs.false,
    ) in
    in_pairs c.args.shape c.args.last_turn n c.args.object place
    (omega (arith, c.before-before.ensures.exact, c.if-object-before.false)) inside
    ∙ first_of_pair c.args.last_turn n (place / 2) place (omega (arith, c.if-place-eq0.true)) (omega (arith, inside))

pub returns-else-place-eq0 : goal.returns-else-place-eq0
returns-else-place-eq0 c =
    let place = c.args.object - c.before-before.result in
    let n = c.args.pairs in
    let inside : place < 2 * n =
    omega (
      arith,
      length-row_of c.args.shape c.args.last_turn n,
      last_few c.args.shape.last,
      c.requires.within,
      c.before-before.ensures.exact,
      c.if-object-before.false,
      c.if-place-pairs.false,
    ) in
    in_pairs c.args.shape c.args.last_turn n c.args.object place
    (omega (arith, c.before-before.ensures.exact, c.if-object-before.false)) inside
    ∙ second_of_pair c.args.last_turn n (place / 2) place (omega (arith, c.if-place-eq0.false)) (omega (arith, inside))
