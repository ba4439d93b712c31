-- Proof of `Pool::new`, which returns a pool of empty lanes.
use Rattle.std.proofs.Common.{ap, ◌∙◌}
use Rattle.std.proofs.Math.ListN.{replicate}
use Rattle.mb_cells.proofs.pool.Pool.new.Goals as goal
use Rattle.mb_cells.proofs.PoolSteps.{empty_after, empty_sound}

-- a pool of these lists is sound: they hold only zeros and new lanes
pub invariant_of-result : goal.invariant_of-result
invariant_of-result g c =
    empty_sound c.args.lanes c.args.cells c.in_ok-heads.heads.items c.in_ok-links.links.items
    c.in_ok-items.items.items c.in_ok-lanes.lanes.items c.ranges.lanes.fits c.ranges.cells.fits
    (c.in_ok-heads.ensures.items_if_clones_equal (λ y e. e)) (c.in_ok-links.ensures.items_if_clones_equal (λ y e. e))
    (c.in_ok-items.ensures.items_if_clones_equal (λ y e. e))
    (c.in_ok-lanes.ensures.items_if_clones_equal (λ y e. e) ∙ ap (replicate c.args.lanes) c.new.ensures)

-- a new pool is what the empty history leaves
pub returns-clause-empty : goal.returns-clause-empty
returns-clause-empty g c =
    empty_after c.args.lanes c.args.cells c.in_ok-heads.heads.items c.in_ok-links.links.items
    c.in_ok-items.items.items c.in_ok-lanes.lanes.items c.ranges.lanes.fits c.ranges.cells.fits
    (c.in_ok-heads.ensures.items_if_clones_equal (λ y e. e)) (c.in_ok-links.ensures.items_if_clones_equal (λ y e. e))
    (c.in_ok-items.ensures.items_if_clones_equal (λ y e. e))
    (c.in_ok-lanes.ensures.items_if_clones_equal (λ y e. e) ∙ ap (replicate c.args.lanes) c.new.ensures)
