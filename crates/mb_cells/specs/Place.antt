-- Where a producer stands on its path.
use Rattle.std.specs.Prelude.{List, None, Option, Some, ℕ, ◌+◌, ◌<◌, ◌∷◌, ◌≡◌, ◌≤◌}
use Rattle.mb_cells.specs.Types.{END, Item, PoolAccess}
use Rattle.mb_cells.specs.Memory.{History}
use Rattle.mb_cells.specs.LanePath.{AllCellsBelow, Entry, FindsNoCell, fetch, groups, place_after, refusal, store}

-- what a producer has done since its last link store
pub data Phase : Type 0 where
  -- nothing yet
  Open : Phase
  -- a fetch-add that gave a cell
  Offered : Entry → Phase
  -- a fetch-add that gave a cell, and a store of the item
  Stored : Entry → Phase
  -- a fetch-add that gave no cell
  Full : Entry → Phase
  -- a store of the end mark, perhaps after a fetch-add that gave no cell
  Ended : Option Entry → Phase

-- all that producer p has done, if it has linked these entries (the last first) and stands in this phase
abbrev pub part_at : ℕ → List Entry → Phase → History
part_at p es Open = groups p es
part_at p es (Offered e) = fetch p e ∷ groups p es
part_at p es (Stored e) = store p (Item e.cell) e.value ∷ fetch p e ∷ groups p es
part_at p es (Full e) = fetch p e ∷ groups p es
part_at p es (Ended r) = store p (place_after p es) END ∷ refusal p r (groups p es)

-- the number that the last fetch-add gave is a cell's, or lies past the cells, as the phase says
abbrev pub PhaseFits : ℕ → Phase → Type 0
PhaseFits cells Open = Unit {0}
PhaseFits cells (Offered e) = e.cell < cells
PhaseFits cells (Stored e) = e.cell < cells
PhaseFits cells (Full e) = cells ≤ e.cell
PhaseFits cells (Ended r) = FindsNoCell cells r

-- producer p has done this, and so stands at this place: it has linked these entries (the last first), and is in this
-- phase
pub record LaneIsAt (cells p : ℕ) (es : List Entry) (phase : Phase) (done : History) : Type 0 where
  pub below : AllCellsBelow cells es
  pub fits : PhaseFits cells phase
  pub is : done ≡ part_at p es phase

-- one access takes producer p from one place to the next
pub data Steps (cells p : ℕ) : List Entry → Phase → PoolAccess → List Entry → Phase → Type 0 where
  takes_cell : (es : List Entry) (e : Entry) → e.cell < cells
      → Steps cells p es Open (fetch p e) es (Offered e)
  finds_none : (es : List Entry) (e : Entry) → cells ≤ e.cell
      → Steps cells p es Open (fetch p e) es (Full e)
  fills_cell : (es : List Entry) (e : Entry)
      → Steps cells p es (Offered e) (store p (Item e.cell) e.value) es (Stored e)
  links_cell : (es : List Entry) (e : Entry) →
      Steps cells p es (Stored e) (store p (place_after p es) (e.cell + 1)) (e ∷ es) Open
  ends_lane : (es : List Entry)
      → Steps cells p es Open (store p (place_after p es) END) es (Ended None)
  ends_refused : (es : List Entry) (e : Entry) →
      Steps cells p es (Full e) (store p (place_after p es) END) es (Ended (Some e))
