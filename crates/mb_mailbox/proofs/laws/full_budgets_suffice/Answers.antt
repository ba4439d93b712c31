-- Proof of `laws::full_budgets_suffice`: a claim makes fewer than 1,400 accesses, whatever its layout.
use Rattle.std.proofs.Common.{◌+◌, ◌≤◌, Bool, arith, false, true, ℕ}
use Rattle.std.proofs.lemmas.Nat.{mul-le}
use Rattle.mb_quorum.specs.Vocabulary.{QuorumTable}
use Rattle.mb_quorum.specs.Width.{width_of}
use Rattle.mb_quorum.specs.WidthLaw.{width_is_least}
use Rattle.mb_deciding.specs.Vocabulary.{largest_quorum, most_turns, spread}
use Rattle.mb_deciding.specs.declared.object.Kind.TheVariants.{Ratifier}
use Rattle.mb_deciding.proofs.MostLeft.{ratifier_short}
use Rattle.mb_claim.specs.Layouts.{fast_steps, last_steps}
use Rattle.mb_claim.specs.Vocabulary.{most_accesses, pair_count, quorums_of, shape_of}
use Rattle.mb_mailbox.proofs.laws.full_budgets_suffice.Goals as goal

fast_few : (t : QuorumTable) (b : Bool) → most_turns t Ratifier ≤ 130 → fast_steps t b ≤ 260
fast_few t true few = omega (arith, few)
fast_few t false few = omega arith

last_few : (b : Bool) → last_steps b ≤ 1
last_few true = omega arith
last_few false = omega arith

pub returns : goal.returns
returns c layout cells few =
    let t = quorums_of layout in
    let shape = shape_of layout in
    let quorum = c.layouts_are_sound.ensures.table layout in
    let limit = quorum.limit in
    let short = ratifier_short t quorum in
    let ratifier : most_turns t Ratifier ≤ 130 = omega (arith, limit, short) in
    let narrow : width_of t.values ≤ 6 = (width_is_least t.values).least 6 (omega (arith, quorum.few)) in
    let pair : spread t.values + 3 + largest_quorum t.write t.values + 2 + largest_quorum t.read t.values ≤ 140 =
    omega (arith, ratifier, narrow) in
    let pairs = mul-le (pair_count layout)
    (spread t.values + 3 + largest_quorum t.write t.values + 2 + largest_quorum t.read t.values) 8 140
    (c.layouts_are_sound.ensures.pairs layout) pair in
    let fast = fast_few t shape.fast ratifier in
    let last = last_few shape.last in
    let most : most_accesses layout ≤ 1381 = omega (arith, pairs, fast, last) in
    let all = mul-le (most_accesses layout + 1) (cells + 1) 1382 16777217 (omega (arith, most)) (omega (arith, few)) in
    omega (arith, all)
