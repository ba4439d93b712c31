-- What the loop of `Layout::of` keeps: the kinds of the objects so far, where each begins, and how many words all have.
use Rattle.std.proofs.Common.{◌≡◌, ◌<◌, ℕ, length, slice_get, slice_index}
use Rattle.mb_claim.specs.{row_of, words_before}
use Rattle.mb_claim.specs.declared.layout.TheConstants.{MAX_OBJECTS}
use Rattle.mb_claim.proofs.layout.Layout.of.Given as goal

abbrev pub invariant-loop-object : goal.invariant-loop-object
invariant-loop-object l = record {
  all_kinds : length l.kinds ≡ MAX_OBJECTS;
  all_begins : length l.begins ≡ MAX_OBJECTS;
  kinds : (o : ℕ) → o < l.object → slice_get (row_of l.shape l.last_turn l.pairs) o ≡ slice_get l.kinds o;
  begins : (o : ℕ) → o < l.object → slice_index l.begins o
      ≡ words_before l.registers (row_of l.shape l.last_turn l.pairs) o;
  size : l.cell_size ≡ words_before l.registers (row_of l.shape l.last_turn l.pairs) l.object;
}
