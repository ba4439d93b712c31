-- What a reader has met on a lane, and what it has loaded there.
use Rattle.std.specs.Prelude.{Bool, List, [], false, filter, nat_eq, ℕ, ◌++◌, ◌+◌, ◌||◌, ◌∷◌, ◌≡◌, ◌≢◌}
use Rattle.mb_cells.specs.Types.{Counter, END, Head, Item, Link, Load, PoolAccess, Reader, Word}
use Rattle.mb_cells.specs.Memory.{Has, History, part}
use Rattle.mb_cells.specs.Lanes.{linked_cells}

-- the word that leads to the cell after these (the last first), on lane p
abbrev pub place_past : ℕ → List ℕ → Word
place_past p [] = Head p
place_past p (k ∷ _) = Link k

-- the word is a head or a link
abbrev pub IsLinkWord : Word → Type 0
IsLinkWord Counter = ⊥
IsLinkWord (Head _) = Unit {0}
IsLinkWord (Link _) = Unit {0}
IsLinkWord (Item _) = ⊥

-- a load of a word by a reader
abbrev pub load : ℕ → Word → ℕ → PoolAccess
load r w v = record { process = Reader r; word = w; act = Load v }

-- the reader has loaded this value from the word
abbrev pub HasLoaded : ℕ → Word → ℕ → History → Type 0
HasLoaded r w v h = Has h (load r w v)

-- the reader has met these cells (the last first) on lane p: from the head on, it loaded the link to each of them.
-- The end mark is no link
abbrev pub HasMet : ℕ → ℕ → List ℕ → History → Type 0
HasMet r p [] h = Unit {0}
HasMet r p (k ∷ ks) h = HasLoaded r (place_past p ks) (k + 1) h × (k + 1 ≢ END) × HasMet r p ks h

-- ls is ks with newer elements in front, or none
abbrev pub IsStart : List ℕ → List ℕ → Type 0
IsStart ks ls = (later : List ℕ) × (later ++ ks ≡ ls)

-- whether the cell is in the list
abbrev pub has_cell : List ℕ → ℕ → Bool
has_cell [] k = false
has_cell (j ∷ js) k = nat_eq j k || has_cell js k

-- whether the word is the head of lane p, or a word of one of these cells
abbrev pub is_of_lane : ℕ → List ℕ → Word → Bool
is_of_lane p ks Counter = false
is_of_lane p ks (Head q) = nat_eq p q
is_of_lane p ks (Link k) = has_cell ks k
is_of_lane p ks (Item k) = has_cell ks k

-- the part of reader r on lane p: its loads of the head and of the words of the cells linked there
abbrev pub part_on : ℕ → ℕ → History → History
part_on r p h = filter (λ a. is_of_lane p (linked_cells p h) a.word) (part (Reader r) h)
