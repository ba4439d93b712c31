-- For samples: an entry, and three lawful histories of a pool of one lane and one cell.
use Rattle.std.specs.Prelude.{[], ◌∷◌}
use Rattle.mb_cells.specs.Types.{END, Head, Item, Link}
use Rattle.mb_cells.specs.Memory.{History}
use Rattle.mb_cells.specs.LanePath.{Entry, fetch, store}
use Rattle.mb_cells.specs.Met.{load}

-- the item 8, in cell 0
abbrev pub eight : Entry
eight = record { cell = 0; value = 8 }

-- producer 0 made the fetch-add that gave it cell 0 for the item 8, and nothing else was done
abbrev pub one_taken : History
one_taken = fetch 0 eight ∷ []

-- after `one_taken` the item is stored and linked, so it is put
abbrev pub one_put : History
one_put = store 0 (Head 0) 1 ∷ store 0 (Item 0) 8 ∷ one_taken

-- after `one_put` reader 5 has loaded the head and the item, and after the finish the end mark
abbrev pub one_read : History
one_read = load 5 (Link 0) END ∷ store 0 (Link 0) END ∷ load 5 (Item 0) 8 ∷ load 5 (Head 0) 1 ∷ one_put
