-- Proof of `Layout::address`: where the word of the object of the cell lies, counted in words from the first word of
-- cell 0.
use Rattle.std.proofs.Common.{◌≡◌, ◌*◌, ◌+◌, ◌≤◌, ◌<◌, ℕ, length, slice_index, arith, ◌∙◌, ap₂}
use Rattle.std.proofs.lemmas.Nat.{mul-le}
use Rattle.std.proofs.lemmas.Option.{slice_get_within}
use Rattle.mb_deciding.specs.Vocabulary.{spread}
use Rattle.mb_claim.specs.{Reg, Layout, quorums_of, kinds_of, row_words, words_before, offset, IsWordInLayout, MAX_LARGE_CELLS}
use Rattle.mb_claim.specs.declared.layout.TheConstants.{MAX_OBJECTS}
use Rattle.mb_claim.proofs.Addresses.{within}
use Rattle.mb_claim.proofs.LayoutObjects.{objects_few, cell_small}
use Rattle.mb_claim.proofs.layout.Layout.address.Goals as goal

module _ (layout : Layout) (o : ℕ) (reg : Reg) (word : IsWordInLayout layout o reg) where
  -- the layout has the object
  in_row : o < length (kinds_of layout)
  in_row = slice_get_within (kinds_of layout) o word.0 word.1

  -- the object's words begin where the layout says
  begin_is : slice_index layout.begins o ≡ words_before (quorums_of layout).registers (kinds_of layout) o
  begin_is = let below = in_row in layout.begin o (omega (arith, below, layout.counted))

  -- the position of the word in its cell is below the number of the cell's words
  in_cell : slice_index layout.begins o + offset reg < row_words (quorums_of layout).registers (kinds_of layout)
  in_cell =
      let h = within (quorums_of layout).registers (kinds_of layout) 1 0 o reg word (omega arith) in
      let e = begin_is in
      omega (arith, h, e)

pub bounds-self-object : goal.bounds-self-object
bounds-self-object c =
    let layout = c.args.self.now in
    let below = in_row layout c.args.object c.args.reg c.requires.word in
    let few = objects_few layout.shape (spread (quorums_of layout).values) layout.pairs layout.few in
    omega (arith, below, few)

pub place_in_object-requires : goal.place_in_object-requires
place_in_object-requires c =
    let h = in_cell c.args.self.now c.args.object c.args.reg c.requires.word in
    omega (arith, h, cell_small c.args.self.now)

pub overflow_mul-result : goal.overflow_mul-result
overflow_mul-result c =
    let few : c.args.cell * c.words_of_cell.result ≤ MAX_LARGE_CELLS * (65 * MAX_OBJECTS) =
    mul-le c.args.cell c.words_of_cell.result MAX_LARGE_CELLS (65 * MAX_OBJECTS) (omega (arith, c.requires.cell))
    c.words_of_cell.ensures.small in
    omega (arith, few)

pub overflow_add-result : goal.overflow_add-result
overflow_add-result c =
    let h = in_cell c.args.self.now c.args.object c.args.reg c.requires.word in
    omega (arith, h, cell_small c.args.self.now, c.place_in_object.ensures)

pub overflow_add-result-2 : goal.overflow_add-result-2
overflow_add-result-2 c =
    let few : c.args.cell * c.words_of_cell.result ≤ MAX_LARGE_CELLS * (65 * MAX_OBJECTS) =
    mul-le c.args.cell c.words_of_cell.result MAX_LARGE_CELLS (65 * MAX_OBJECTS) (omega (arith, c.requires.cell))
    c.words_of_cell.ensures.small in
    let h = in_cell c.args.self.now c.args.object c.args.reg c.requires.word in
    omega (arith, few, h, cell_small c.args.self.now, c.place_in_object.ensures)

pub returns-clause-exact : goal.returns-clause-exact
returns-clause-exact c =
    let begins = begin_is c.args.self.now c.args.object c.args.reg c.requires.word in
    ap₂ (λ w b. c.args.cell * w + b) c.words_of_cell.ensures.exact (ap₂ (λ b p. b + p) begins c.place_in_object.ensures)

pub returns-clause-apart : goal.returns-clause-apart
returns-clause-apart c k o other word e =
    c.addresses_are_apart.ensures.apart (quorums_of c.args.self.now).registers
    (kinds_of c.args.self.now) k c.args.cell o c.args.object other c.args.reg word c.requires.word
    (e ∙ returns-clause-exact c)
