-- Lists of cells, and whether a cell is in one.
use Rattle.std.proofs.Common.{◌⊎◌, ℕ, List, [], ◌∷◌, ◌++◌, sym, ◌∙◌, inl, inr}
use Rattle.std.proofs.lemmas.Bool.{cases_Bool, false≢true}
pub use Rattle.mb_cells.proofs.ReaderParts.{cell-of_true, has_cell-true}
use Rattle.mb_world.specs.Imports.{Has, IsOnceEach, has_cell}

-- a cell is in the list, or it is not
pub has_or_not : (ks : List ℕ) (k : ℕ) → Has ks k ⊎ (Has ks k → ⊥)
has_or_not ks k = elim (cases_Bool (has_cell ks k)) [
  | inl e ↦ inl (cell-of_true ks k e)
  | inr e ↦ inr (λ has. false≢true (sym e ∙ has_cell-true ks k has))
]

-- if a list has each cell once, so has the list without its first elements `later`
pub once_start : (later ks : List ℕ) → IsOnceEach (later ++ ks) → IsOnceEach ks
once_start [] ks once = once
once_start (x ∷ later) ks once = once_start later ks once.1
