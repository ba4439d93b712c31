-- A sample: a table of one lane and one cell, its hub, and the seat of its lane.
use Rattle.std.specs.Prelude.{List, None, [], ◌∷◌, ℕ}
use Rattle.mb_cells.specs.Vocabulary.{History, pool_size}
use Rattle.mb_cells.specs.declared.access.Process.TheVariants.{Producer}
use Rattle.mb_cells.specs.declared.size.PoolSize.{PoolSize}
use Rattle.mb_shared_cells.specs.Rule.{IsCellsState}
use Rattle.mb_shared_cells.specs.declared.views.View.{View}
use Rattle.mb_shared_cells.specs.declared.views.View.TheVariants.{Hub, Member}

-- the size of one lane and one cell
abbrev pub one_by_one : PoolSize
one_by_one = pool_size 1 1

-- the words and views are a state of the table of that size
abbrev pub IsStateOfOne : List ℕ → List View → Type 0
IsStateOfOne words views = IsCellsState one_by_one words views

-- the view of a hub that has issued lane 0, whose seat was not returned
abbrev pub hub_of_one : View
hub_of_one = Hub one_by_one (record { lanes = None ∷ []; readers = [] })

-- the view of the seat of lane 0, whose producer has done this
abbrev pub lane_with : History → View
lane_with done = Member one_by_one (Producer 0) [] done
