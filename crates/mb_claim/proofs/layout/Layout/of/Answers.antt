-- Proof of `Layout::of`: the layout with this table, these pairs and this shape.
use Rattle.std.proofs.Common.{◌≡◌, ◌<◌, ◌≤◌, ℕ, suc, ◌+◌, length, slice_get, slice_index, set, arith, sym, ap}
use Rattle.std.proofs.Common.{subst, subst₂, ◌∙◌}
use Rattle.std.proofs.lemmas.Nat.{mul-le}
use Rattle.std.proofs.lemmas.List.{length-set}
use Rattle.std.proofs.lemmas.List.Edits.{fill_by_more}
use Rattle.mb_quorum.specs.TablesLaw.{chosen_lawful}
use Rattle.mb_quorum.specs.Vocabulary.{chosen_table}
use Rattle.mb_deciding.specs.Vocabulary.{spread}
use Rattle.mb_claim.specs.{row_of, words_before, row_words}
use Rattle.mb_claim.specs.declared.layout.TheConstants.{MAX_OBJECTS}
use Rattle.mb_claim.proofs.Addresses.{width_few, words_before-few, words_before-next, words_before-all}
use Rattle.mb_claim.proofs.LayoutObjects.{objects_few, copied_next}
use Rattle.mb_claim.proofs.layout.Layout.of.Goals as goal

pub kind_in_row-kind-requires-clause-within : goal.kind_in_row-kind-requires-clause-within
kind_in_row-kind-requires-clause-within c =
    omega (arith, c.loop-object-test.true, c.objects_of-objects.ensures c.spread-last_turn.result)

pub bounds-kinds-object : goal.bounds-kinds-object
bounds-kinds-object c =
    omega (
      arith,
      c.loop-object-test.true,
      c.objects_of-objects.ensures 0,
      objects_few c.args.shape
          0 c.args.pairs c.requires.few,
    )

pub bounds-begins-object : goal.bounds-begins-object
bounds-begins-object c = bounds-kinds-object c

pub width-cell_size-requires : goal.width-cell_size-requires
width-cell_size-requires c =
    let quorum = chosen_lawful c.args.table in omega (arith, quorum.limit, c.registers-registers.ensures)

pub overflow_add-cell_size : goal.overflow_add-cell_size
overflow_add-cell_size c =
    let r = c.registers-registers.result in
    let quorum = chosen_lawful c.args.table in
    let below : c.loop-object.object ≤ MAX_OBJECTS =
    omega (
      arith,
      c.loop-object-test.true,
      c.objects_of-objects.ensures 0,
      objects_few c.args.shape
          0 c.args.pairs c.requires.few,
    ) in
    let narrow : 1 + r ≤ 65 = omega (arith, quorum.limit, c.registers-registers.ensures) in
    omega (
      arith,
      narrow,
      c.loop-object.invariant.size,
      words_before-few r (row_of c.args.shape c.spread-last_turn.result c.args.pairs) c.loop-object.object,
      mul-le c.loop-object.object (1 + r) MAX_OBJECTS 65 below narrow,
      width_few r c.kind_in_row-kind.result,
      c.width-cell_size.ensures,
    )

pub loop-object-preserved : goal.loop-object-preserved
loop-object-preserved c =
    let r = c.registers-registers.result in
    let row = row_of c.args.shape c.spread-last_turn.result c.args.pairs in
    let object = c.loop-object.object in
    let kind = c.kind_in_row-kind.result in
    let inside : object < length row =
    omega (arith, c.loop-object-test.true, c.objects_of-objects.ensures c.spread-last_turn.result) in
    let all = objects_few c.args.shape c.spread-last_turn.result c.args.pairs c.requires.few in
    let is = c.kind_in_row-kind.ensures in
    let one : suc object ≡ object + 1 = omega arith in
    record {
      all_kinds = length-set c.loop-object.kinds object kind ∙ c.loop-object.invariant.all_kinds;
      all_begins = length-set c.loop-object.begins object c.loop-object.cell_size ∙ c.loop-object.invariant.all_begins;
      kinds = copied_next row c.loop-object.kinds object kind
          (omega (arith, inside, all, c.loop-object.invariant.all_kinds)) is c.loop-object.invariant.kinds;
      begins = subst (λ w. (o : ℕ) → o < object + 1
          → slice_index (set c.loop-object.begins object w) o ≡ words_before r row o) (sym c.loop-object.invariant.size)
          (fill_by_more (words_before r row) c.loop-object.begins object 0
          (omega (arith, inside, all, c.loop-object.invariant.all_begins)) c.loop-object.invariant.begins);
      size = omega (
        arith,
        words_before-next r row object kind is,
        ap (words_before r row) one,
        c.loop-object.invariant.size,
        c.width-cell_size.ensures,
      );
    }

-- `last_turn`, with which the row was made, is the number s of the table's values (`spread`)
last_turn_is : (c : goal.After-loop-object) → c.spread-last_turn.result ≡ spread (chosen_table c.args.table).values
last_turn_is c = c.spread-last_turn.ensures.exact ∙ ap spread (c.from.ensures ∙ c.values.ensures)

pub invariant_of-result-clause-counted : goal.invariant_of-result-clause-counted
invariant_of-result-clause-counted c = c.objects_of-objects.ensures (spread (chosen_table c.args.table).values)

pub invariant_of-result-clause-row : goal.invariant_of-result-clause-row
invariant_of-result-clause-row c o below =
    subst (λ s. slice_get (row_of c.args.shape s c.args.pairs) o ≡ slice_get c.loop-object.kinds o) (last_turn_is c)
    (c.loop-object.invariant.kinds o (omega (arith, below, c.loop-object-test.false)))

pub invariant_of-result-clause-begin : goal.invariant_of-result-clause-begin
invariant_of-result-clause-begin c o below =
    subst₂ (λ r s. slice_index c.loop-object.begins o ≡ words_before r (row_of c.args.shape s c.args.pairs) o)
    c.registers-registers.ensures (last_turn_is c)
    (c.loop-object.invariant.begins o (omega (arith, below, c.loop-object-test.false)))

pub invariant_of-result-clause-size : goal.invariant_of-result-clause-size
invariant_of-result-clause-size c =
    let r = c.registers-registers.result in
    let row = row_of c.args.shape c.spread-last_turn.result c.args.pairs in
    let end : c.loop-object.object ≡ length row =
    omega (
      arith,
      c.objects_of-objects.ensures c.spread-last_turn.result,
      c.loop-object-test.false,
      c.loop-object.auto.object-end,
    ) in
    subst₂ (λ r s. c.loop-object.cell_size ≡ row_words r (row_of c.args.shape s c.args.pairs))
    c.registers-registers.ensures
    (last_turn_is c) (c.loop-object.invariant.size ∙ ap (words_before r row) end ∙ words_before-all r row)
