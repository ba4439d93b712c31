-- Layouts: the objects that each cell has, where their words lie, and the most turns of a claim. Also where the words
-- of any `Claims` lie.
use Rattle.std.specs.Prelude.{ℕ, ◌+◌, ◌*◌, Bool, true, false, List, [], ◌∷◌}
use Rattle.mb_quorum.specs.Vocabulary.{QuorumTable, chosen_table}
use Rattle.mb_deciding.specs.Vocabulary.{largest_quorum, most_turns, spread}
use Rattle.mb_claim.specs.AllClaims.{Claims, claims_of}
use Rattle.mb_claim.specs.ObjectTypes.{Reg, Kind, Ratifier}
pub use Rattle.mb_claim.specs.Rows.{pairs_of, fast_row, last_row, row_of, plain, with_last}
pub use Rattle.mb_claim.specs.Rows.{width, offset, words_before, row_words, shaped_words, address_of, IsWordOf}
use Rattle.mb_claim.specs.Types.{Layout, Shape}

-- ---- what a layout is made of
-- the quorum table of a layout. The values of the table are the consumers' numbers
abbrev pub quorums_of : Layout → QuorumTable
quorums_of layout = chosen_table layout.table

-- how many pairs of objects a layout has
abbrev pub pair_count : Layout → ℕ
pair_count layout = layout.pairs

-- what a layout has beside its pairs
abbrev pub shape_of : Layout → Shape
shape_of layout = layout.shape

-- the kinds of the objects of each cell of a layout, in their order
abbrev pub kinds_of : Layout → List Kind
kinds_of layout = row_of (shape_of layout) (spread (quorums_of layout).values) (pair_count layout)

-- ---- the words of claims: how many, which, and where
-- how many words claims have
abbrev pub words_in : Claims → ℕ
words_in cs = cs.cells * row_words cs.table.registers cs.kinds

-- each cell of the claims has an object o, and that object has this word
abbrev pub IsWordIn : Claims → ℕ → Reg → Type 0
IsWordIn cs o reg = IsWordOf cs.table.registers cs.kinds o reg

-- the address of a word of object o of cell k of the claims
abbrev pub address_in : Claims → ℕ → ℕ → Reg → ℕ
address_in cs k o reg = address_of cs.table.registers cs.kinds k o reg

-- ---- the most turns of a consumer on a cell, by its objects
-- the most turns of a consumer on a cell with these objects
abbrev pub most_on_objects : QuorumTable → List Kind → ℕ
most_on_objects t [] = 0
most_on_objects t (kind ∷ kinds) = most_turns t kind + most_on_objects t kinds

-- the most turns on `pairs` pairs. For each pair: s + 3 on the conciliator, and on the ratifier the registers of the
-- largest write quorum, 2 on the proposal, and the registers of the largest read quorum
abbrev pub max_steps : QuorumTable → ℕ → ℕ
max_steps t pairs =
    pairs * (spread t.values + 3 + largest_quorum t.write t.values + 2 + largest_quorum t.read t.values)

-- the most turns on the fast path, or 0 if there is none
abbrev pub fast_steps : QuorumTable → Bool → ℕ
fast_steps t true = 2 * most_turns t Ratifier
fast_steps t false = 0

-- the most turns on the last object, or 0 if there is none
abbrev pub last_steps : Bool → ℕ
last_steps true = 1
last_steps false = 0

-- the most turns on a row of this shape
abbrev pub shaped_steps : QuorumTable → Shape → ℕ → ℕ
shaped_steps t shape pairs = fast_steps t shape.fast + (max_steps t pairs + last_steps shape.last)

-- ---- the claims of a layout: their words, and the most accesses of one
-- the claims of a layout on `cells` cells
abbrev pub claims_in : Layout → ℕ → Claims
claims_in layout cells = claims_of (quorums_of layout) (kinds_of layout) cells

-- how many consumers a layout has
abbrev pub consumer_count : Layout → ℕ
consumer_count layout = (quorums_of layout).values

-- how many words a cell of a layout has
abbrev pub cell_words : Layout → ℕ
cell_words layout = row_words (quorums_of layout).registers (kinds_of layout)

-- each cell of the layout has an object o, and that object has this word
abbrev pub IsWordInLayout : Layout → ℕ → Reg → Type 0
IsWordInLayout layout o reg = IsWordOf (quorums_of layout).registers (kinds_of layout) o reg

-- the address of a word of object o of cell k in a layout
abbrev pub word_address : Layout → ℕ → ℕ → Reg → ℕ
word_address layout k o reg = address_of (quorums_of layout).registers (kinds_of layout) k o reg

-- the most accesses of a claim on a cell of a layout
abbrev pub most_accesses : Layout → ℕ
most_accesses layout = shaped_steps (quorums_of layout) (shape_of layout) (pair_count layout)
