-- What one reader may load.
use Rattle.std.specs.Prelude.{[], ℕ, ◌+◌, ◌<◌, ◌∷◌, ◌≡◌, ◌≢◌, ◌⊎◌}
use Rattle.mb_cells.specs.Types.{Counter, END, Head, Item, Link, Load, PoolAct, Word}
use Rattle.mb_cells.specs.Memory.{History}

-- the act is a load of a head or link that gives cell k. The end mark gives no cell
abbrev pub IsGift : ℕ → Word → PoolAct → Type 0
IsGift k (Head _) (Load v) = (v ≡ k + 1) × (v ≢ END)
IsGift k (Link _) (Load v) = (v ≡ k + 1) × (v ≢ END)
IsGift k _ _ = ⊥

-- some load of the history gave cell k
abbrev pub Gave : ℕ → History → Type 0
Gave k [] = ⊥
Gave k (a ∷ older) = IsGift k a.word a.act ⊎ Gave k older

-- the act is a load
abbrev pub IsLoad : PoolAct → Type 0
IsLoad (Load _) = Unit {0}
IsLoad _ = ⊥

-- the head of a lane of the pool may be loaded at any time, the counter never. A link or an item may be loaded once the
-- reader's own loads gave its cell
abbrev pub MayRead : ℕ → Word → History → Type 0
MayRead lanes Counter older = ⊥
MayRead lanes (Head p) older = p < lanes
MayRead lanes (Link k) older = Gave k older
MayRead lanes (Item k) older = Gave k older

-- a reader's part: loads alone, each of a word that it may load
abbrev pub IsReaderPath : ℕ → History → Type 0
IsReaderPath lanes [] = Unit {0}
IsReaderPath lanes (a ∷ older) =
    IsLoad a.act × MayRead lanes a.word older × IsReaderPath lanes older
