-- All words of a pool in one block, and the parts of its processes beside them.
use Rattle.std.specs.Prelude.{List, if◌then◌else◌, length, slice_index, slice_set, unwrap_or, ℕ, ◌+◌, ◌∷◌, ◌≡◌, ◌≤◌}
use Rattle.mb_cells.specs.Types.{Counter, Head, Item, Link, PoolAccess, Process, Word}
use Rattle.mb_cells.specs.Size.{PoolSize}
use Rattle.mb_cells.specs.Memory.{History, is_same_process, part, stored_by, value_in}
use Rattle.mb_cells.specs.Lawful.{IsPoolLawful}
use Rattle.mb_cells.specs.Standing.{IsPoolWord}

-- how many words a pool has
abbrev pub pool_words : PoolSize → ℕ
pool_words size = 1 + size.lanes + size.cells + size.cells

-- the address of a word: the counter comes first, then the heads, the links and the items
abbrev pub address_of : PoolSize → Word → ℕ
address_of size Counter = 0
address_of size (Head p) = 1 + p
address_of size (Link k) = 1 + size.lanes + k
address_of size (Item k) = 1 + size.lanes + size.cells + k

-- the words at their addresses are those that a lawful history leaves. Other words may follow them
pub record IsMemoryOf (size : PoolSize) (words : List ℕ) (h : History) : Type 0 where
  pub lawful : IsPoolLawful size h
  pub room : pool_words size ≤ length words
  pub left : (w : Word) → IsPoolWord size w → slice_index words (address_of size w) ≡ value_in w h

-- a lawful history leaves the words, and `parts` are the parts of its processes
pub record IsStateOf (size : PoolSize) (words : List ℕ) (parts : Process → History)
    (h : History) : Type 0 where
  pub memory : IsMemoryOf size words h
  pub same : (who : Process) → parts who ≡ part who h

-- the block after an access: what the access stores, if it stores, is at the address of its word
abbrev pub block_after : PoolSize → PoolAccess → List ℕ → List ℕ
block_after size a words =
    slice_set words (address_of size a.word)
    (unwrap_or (stored_by a.act) (slice_index words (address_of size a.word)))

-- the parts of all processes after an access: the part of its process has the access in front, the others are as before
abbrev pub parts_after : PoolAccess → (Process → History) → Process → History
parts_after a parts who = if is_same_process who a.process then a ∷ parts who else parts who
