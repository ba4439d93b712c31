-- Proof of `World::new`: a world of this setup before the first event.
use Rattle.std.proofs.Common.{◌≡◌, ◌≢◌, ◌<◌, [], None, ◌*◌, ◌∙◌, ap, ap₂, subst, subst₂, arith}
use Rattle.std.proofs.Math.ListN.{replicate}
use Rattle.mb_claim.specs.Layouts.{claims_in, consumer_count, kinds_of, pair_count, shape_of}
use Rattle.mb_deciding.specs.Spread.{spread}
use Rattle.mb_claim.specs.States.{IsMemoryOf}
use Rattle.mb_cells.specs.State.{cell_count, lane_count}
use Rattle.mb_world.specs.Imports.{END}
use Rattle.mb_world.specs.Places.{AreAtHeads}
use Rattle.mb_world.specs.Plan.{consumers_of}
use Rattle.mb_world.specs.Setups.{plan_in}
use Rattle.mb_world.proofs.FreshClaims.{fresh_goes, some_row}
use Rattle.mb_world.proofs.NewWorlds.{empty_after, none_alone}
use Rattle.mb_world.proofs.world.World.new.Goals as goal

-- the empty history leaves the new world
pub returns-clause-empty : goal.returns-clause-empty
returns-clause-empty g c =
    let setup = c.args.setup in
    let plan = plan_in setup in
    let layout = c.layout-layout.ensures in
    let lanes : lane_count c.in_ok-pool.pool ≡ setup.producers = c.in_ok-pool.ensures.lanes
    ∙ c.producers-lanes.ensures in
    let cells : cell_count c.in_ok-pool.pool ≡ setup.cells = c.in_ok-pool.ensures.cells ∙ c.cells-cells.ensures in
    let words : IsMemoryOf plan.claims c.in_ok-words.words [] =
    subst (λ l. IsMemoryOf (claims_in l setup.cells) c.in_ok-words.words []) layout
    (subst (λ n. IsMemoryOf
    (claims_in c.layout-layout.result n) c.in_ok-words.words []) c.cells-cells.ensures c.in_ok-words.ensures) in
    let consumers : c.consumers-consumers.result ≡ consumers_of plan = c.consumers-consumers.ensures
    ∙ ap consumer_count layout in
    let heads : AreAtHeads setup.producers (consumers_of plan * setup.producers) c.in_ok-places.places.items =
    subst₂ (λ m n. AreAtHeads n (m * n) c.in_ok-places.places.items) consumers c.producers-lanes.ensures
    c.in_ok-places.ensures in
    let notes : c.in_ok-notes.notes.items ≡ replicate (consumers_of plan * setup.cells) None =
    c.in_ok-notes.ensures.items_if_clones_equal (none_alone _ (λ x f. f))
    ∙ ap₂ (λ m n. replicate (m * n) None) consumers c.cells-cells.ensures in
    let table = c.layouts_are_sound.ensures.table setup.layout in
    let some : kinds_of setup.layout ≢ [] =
    some_row (shape_of setup.layout) (spread (consumers_of plan)) (pair_count setup.layout)
    (c.layouts_are_sound.ensures.some setup.layout) in
    let sized : setup.cells < END = omega (arith, setup.small) in
    empty_after setup (fresh_goes plan.claims table c.objects_keep_their_promises.ensures some)
    (λ d s r. c.prefixes_have_one_stage.ensures plan.claims d [] s r table)
    c.in_ok-pool.pool c.in_ok-words.words c.in_ok-places.places.items c.in_ok-notes.notes.items
    (c.history_extends.ensures.empty plan sized) lanes cells c.in_ok-pool.ensures.empty words heads notes

-- the new world is sound
pub invariant_of-result : goal.invariant_of-result
invariant_of-result g c = ([], returns-clause-empty g c)
