-- Proof of `steps::loads_leave_pools`: a load by a reader that may load the word leaves the pool as it is.
use Rattle.std.proofs.Common.{refl, sym, ℕ, ◌∙◌, ◌∷◌, ◌≡◌}
use Rattle.mb_cells.proofs.steps.loads_leave_pools.Goals as goal
use Rattle.mb_cells.specs.{History, LoadGoesOn, PoolState, Word, load, size_of, value_in}
use Rattle.mb_cells.proofs.Names.{value_in-kept}
use Rattle.mb_cells.proofs.OneStep.{reader_step}

-- a load leaves what each word holds as it was
kept : (h : History) (r : ℕ) (w x : Word) → value_in x (load r w (value_in w h) ∷ h) ≡ value_in x h
kept h r w x = value_in-kept (load r w (value_in w h)) h x refl

-- a load that its reader may make leaves the pool as it is
load_leaves : (s : PoolState) (w : Word) → LoadGoesOn w s
load_leaves s w = λ h r after may. record {
  lawful = reader_step (size_of s) h r w after.lawful may;
  words = λ x has. after.words x has ∙ sym (kept h r w x);
  lanes = after.lanes;
}

pub returns : goal.returns
returns c = load_leaves
