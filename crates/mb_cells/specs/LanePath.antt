-- What one producer does on its lane, as a list of accesses, the newest first.
use Rattle.std.specs.Prelude.{Bool, List, None, Option, Some, [], false, true, ℕ, ◌++◌, ◌+◌, ◌<◌, ◌∷◌, ◌≡◌, ◌≤◌}
use Rattle.std.specs.List.{AllByRecursion}
use Rattle.mb_cells.specs.Types.{Counter, END, FetchAdd, Head, Item, Link, PoolAccess, Producer, Store, Word}
use Rattle.mb_cells.specs.Memory.{History}

-- an item (`value`) and the number that its fetch-add found (`cell`): a cell's, or one past the cells if it got none
pub record Entry : Type 0 where
  pub cell : ℕ
  pub value : ℕ

-- the word where the next link is stored, after these entries (the last first): the link word of the last entry's cell,
-- or the lane's head if there is none
abbrev pub place_after : ℕ → List Entry → Word
place_after p [] = Head p
place_after p (e ∷ _) = Link e.cell

-- the fetch-add of producer p for the entry's item. It found the entry's number
abbrev pub fetch : ℕ → Entry → PoolAccess
fetch p e = record { process = Producer p; word = Counter; act = FetchAdd e.value e.cell }

-- the store of this value in this word by producer p
abbrev pub store : ℕ → Word → ℕ → PoolAccess
store p w v = record { process = Producer p; word = w; act = Store v }

-- the accesses that put these entries: for each a fetch-add, then a store of the item, then one of the link to its cell
abbrev pub groups : ℕ → List Entry → History
groups p [] = []
groups p (e ∷ es) =
    store p (place_after p es) (e.cell + 1) ∷ store p (Item e.cell) e.value ∷ fetch p e
    ∷ groups p es

-- the history, and after it the fetch-add that found no cell, if there was one
abbrev pub refusal : ℕ → Option Entry → History → History
refusal p None h = h
refusal p (Some e) h = fetch p e ∷ h

-- the history, and after it the store of the end mark to this word, if there was one
abbrev pub ending : ℕ → Word → Bool → History → History
ending p w false h = h
ending p w true h = store p w END ∷ h

-- the cell of each entry is one of the pool's `cells` cells
abbrev pub AllCellsBelow : ℕ → List Entry → Type 0
AllCellsBelow cells es = AllByRecursion (λ (e : Entry). e.cell < cells) es

-- if there was a fetch-add that found no cell, it gave a number past the cells
abbrev pub FindsNoCell : ℕ → Option Entry → Type 0
FindsNoCell cells None = Unit {0}
FindsNoCell cells (Some e) = cells ≤ e.cell

-- a path of producer p in a pool of `cells` cells: it links each cell that it got. A refusal and an end mark may follow
pub record IsLanePath (cells p : ℕ) (path : History) : Type 0 where
  pub entries : List Entry
  pub refused : Option Entry
  pub ended : Bool
  pub below : AllCellsBelow cells entries
  pub above : FindsNoCell cells refused
  pub is : path ≡ ending p (place_after p entries) ended (refusal p refused (groups p entries))

-- producer p has done this so far: some later accesses, or none, make it a whole path
pub record IsLanePrefix (cells p : ℕ) (done : History) : Type 0 where
  pub path : History
  pub later : History
  pub lawful : IsLanePath cells p path
  pub is : later ++ done ≡ path
