-- What the loop of `World::lane` keeps: of the cells so far, all items are in `put`, and those not taken in `left`.
use Rattle.std.proofs.Common.{◌≡◌, not, filter, map, take}
use Rattle.mb_cells.specs.State.{item_in}
use Rattle.mb_world.specs.StateReport.{is_taken_on}
use Rattle.mb_world.proofs.world.World.lane.Given as goal

abbrev pub invariant-loop-k : goal.invariant-loop-k
invariant-loop-k g l = record {
  put : l.put.items ≡ map (λ k. item_in k l.self.pool) (take l.k-index l.k-items);
  left : l.left.items ≡
      map (λ k. item_in k l.self.pool) (filter (λ k. not (is_taken_on l.self k)) (take l.k-index l.k-items));
}
