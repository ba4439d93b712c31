-- What a history puts into the lanes, and which cells its fetch-adds find.
use Rattle.std.specs.Prelude.{Bool, List, None, Option, Some, [], false, if◌then◌else◌, length, map, nat_eq, reverse, suc, zero, ℕ, ◌+◌, ◌-◌, ◌<◌, ◌||◌, ◌∷◌, ◌≡◌}
use Rattle.mb_cells.specs.declared.answer.Look.TheVariants as look
use Rattle.mb_cells.specs.Types.{Counter, END, FetchAdd, Head, Link, Look, PoolAccess, PoolAct, Producer, Store, Word}
use Rattle.mb_cells.specs.Size.{PoolSize}
use Rattle.mb_cells.specs.Memory.{Has, History, is_same_process, is_same_word}
use Rattle.mb_cells.specs.LanePath.{Entry, fetch}

-- the cell that this access links, if it does: a store of k + 1 to a head or link links k. No lawful history stores 0
abbrev pub link_of : Word → PoolAct → Option ℕ
link_of (Head _) (Store v) = if nat_eq v END then None else Some (v - 1)
link_of (Link _) (Store v) = if nat_eq v END then None else Some (v - 1)
link_of _ _ = None

-- the list with the cell in front, if there is a cell
abbrev pub push_if : Option ℕ → List ℕ → List ℕ
push_if None ks = ks
push_if (Some k) ks = k ∷ ks

-- the cells that producer p linked into its lane, the last first
abbrev pub linked_cells : ℕ → History → List ℕ
linked_cells p [] = []
linked_cells p (a ∷ older) =
    if is_same_process (Producer p) a.process
    then push_if (link_of a.word a.act) (linked_cells p older) else linked_cells p older

-- the item of cell k after an act on the counter, if it was x before: a fetch-add that gives k has the new item
abbrev pub item_after : ℕ → PoolAct → ℕ → ℕ
item_after k (FetchAdd y n) x = if nat_eq n k then y else x
item_after k _ x = x

-- the item of cell k: the one of the fetch-add that gave k, or 0 if none did
abbrev pub item_of : ℕ → History → ℕ
item_of k [] = 0
item_of k (a ∷ older) =
    if is_same_word a.word Counter then item_after k a.act (item_of k older) else item_of k older

-- cell k with the item that `items` has for it
abbrev pub entry_of : (ℕ → ℕ) → ℕ → Entry
entry_of items k = record { cell = k; value = items k }

-- a cell, as an entry with the item that its fetch-add in the history was made for
abbrev pub entry_at : ℕ → History → Entry
entry_at k h = record { cell = k; value = item_of k h }

-- the put list of lane p: its linked cells, each with the item offered for it, the first linked first
abbrev pub put_list : ℕ → History → List Entry
put_list p h = reverse (map (λ k. entry_at k h) (linked_cells p h))

-- whether the act stores the end mark in a head or link
abbrev pub marks_end : Word → PoolAct → Bool
marks_end (Head _) (Store v) = nat_eq v END
marks_end (Link _) (Store v) = nat_eq v END
marks_end _ _ = false

-- whether producer p has stored its end mark
abbrev pub has_ended : ℕ → History → Bool
has_ended p [] = false
has_ended p (a ∷ older) =
    if is_same_process (Producer p) a.process then marks_end a.word a.act || has_ended p older
    else has_ended p older

-- what a look past the last cell of lane p returns, or at its head if it has no cell
abbrev pub lane_end : ℕ → History → Look
lane_end p h = if has_ended p h then look.Ended else look.Nothing

-- no cell is in the list twice
abbrev pub IsOnceEach : List ℕ → Type 0
IsOnceEach [] = Unit {0}
IsOnceEach (k ∷ ks) = (Has ks k → ⊥) × IsOnceEach ks

-- some fetch-add found the number k. So it gave cell k, if the pool has that cell
abbrev pub WasIssued : ℕ → History → Type 0
WasIssued k h =
    (a : PoolAccess) × (Has h a × ((a.word ≡ Counter) × ((x : ℕ) × (a.act ≡ FetchAdd x k))))

-- how many items the first n lanes have together
abbrev pub items_put : ℕ → History → ℕ
items_put zero h = 0
items_put (suc n) h = length (put_list n h) + items_put n h

-- each cell that a producer got is linked in its lane
abbrev pub AllLinked : PoolSize → History → Type 0
AllLinked size h =
    (p : ℕ) (e : Entry) → Has h (fetch p e) → e.cell < size.cells → Has (linked_cells p h) e.cell
