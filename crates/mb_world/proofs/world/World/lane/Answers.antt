-- Proof of `World::lane`: the report of lane `p`.
use Rattle.std.proofs.Common.{◌≡◌, List, ℕ, take, map, filter, not, ◌∙◌, ap}
use Rattle.std.proofs.lemmas.List.{take_all}
use Rattle.mb_cells.specs.State.{item_in}
use Rattle.mb_world.specs.StateReport.{is_taken_on}
use Rattle.mb_world.proofs.world.World.lane.Goals as goal

-- after the loop all cells of the lane were read
pub returns : goal.returns
returns g c =
    let s = c.args.self.now in
    let ks = c.in_ok-lane.lane.cells.items in
    let items = c.deref-k-items.result.now in
    let whole : take c.loop-k.k-index items ≡ ks =
    take_all c.loop-k.k-index items c.loop-k-test.false ∙ c.deref-k-items.ensures.value in
    record {
      cells = ks;
      walked = c.in_ok-lane.ensures.walked;
      put = c.loop-k.invariant.put ∙ ap (map (λ k. item_in k s.pool)) whole;
      left = c.loop-k.invariant.left
          ∙ ap (λ (xs : List ℕ). map (λ k. item_in k s.pool) (filter (λ k. not (is_taken_on s k)) xs)) whole;
    }
