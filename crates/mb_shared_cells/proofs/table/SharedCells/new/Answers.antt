-- Proof of `SharedCells::new`, which returns a table of empty lanes and unused cells, and its hub.
use Rattle.std.proofs.Common.{List, [], arith, refl, rules, subst, sym, ℕ, ◌<◌, ◌∷◌}
use Rattle.mb_cells.specs.declared.access.TheConstants.{END}
use Rattle.mb_cells.specs.declared.size.PoolSize.{PoolSize}
use Rattle.mb_shared_cells.specs.Rule.{IsCellsState}
use Rattle.mb_shared_cells.specs.Views.{empty_roll}
use Rattle.mb_shared_cells.specs.declared.views.View.TheVariants.{Hub}
use Rattle.mb_shared_cells.proofs.DrawMoves.{begins}
use Rattle.mb_shared_cells.proofs.SeatFacts.{empty_roll_history, hub_is}
use Rattle.mb_shared_cells.proofs.table.SharedCells.new.Goals as goal

-- words that are all 0, and the hub's view, keep the rule
pub of_words-requires : goal.of_words-requires
of_words-requires g c =
    let size : PoolSize = record { lanes = c.args.lanes; cells = c.args.cells } in
    let few = c.ranges.cells.fits in
    let fits : c.args.cells < END = omega arith in
    subst (λ (ws : List ℕ). IsCellsState size ws (Hub size empty_roll ∷ [])) (sym (search rules))
    (begins c.words_follow_steps.ensures.empty size fits)

-- the roll of the new hub is empty, and the empty history has its parts
pub invariant_of-result-2 : goal.invariant_of-result-2
invariant_of-result-2 g c =
    let size : PoolSize = record { lanes = c.args.lanes; cells = c.args.cells } in
    let few = c.ranges.cells.fits in
    let fits : c.args.cells < END = omega arith in
    hub_is _ size empty_roll 0 c.in_ok-table.ensures.4 refl
    (empty_roll_history size (c.history_extends.ensures.empty size fits))
