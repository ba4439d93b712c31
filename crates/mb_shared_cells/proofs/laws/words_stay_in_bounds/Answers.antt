-- Proof of `laws::words_stay_in_bounds`: at every moment the counter is at most the number of cells and lanes together,
-- and the roster at most the number of lanes.
use Rattle.std.proofs.Common.{subst, sym, ℕ, ◌+◌, ◌≤◌}
use Rattle.mb_cells.specs.declared.access.Word.TheVariants.{Counter}
use Rattle.mb_shared_cells.proofs.laws.words_stay_in_bounds.Goals as goal

pub returns-clause-counter : goal.returns-clause-counter
returns-clause-counter c = λ size words views h.
    subst (λ (z : ℕ). z ≤ size.cells + size.lanes) (sym (h.1.memory.left Counter tt))
    (c.numbers_are_issued_once.ensures.bound size h.0.history h.1.memory.lawful)

pub returns-clause-roster : goal.returns-clause-roster
returns-clause-roster c = λ size words views h. h.1.few
