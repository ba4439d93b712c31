-- The state of a pool, and the histories that leave it.
use Rattle.std.specs.Prelude.{List, length, slice_index, slice_index_or, slice_set, ℕ, ◌<◌, ◌^◌, ◌≡◌}
use Rattle.mb_cells.specs.declared.cursor.Cursor.TheVariants as cursor
use Rattle.mb_cells.specs.Types.{Counter, Cursor, Head, Item, Lane, Link, Look, Producer, Word}
use Rattle.mb_cells.specs.Size.{PoolSize, pool_size}
use Rattle.mb_cells.specs.Memory.{History, part, value_in}
use Rattle.mb_cells.specs.Lawful.{IsPoolLawful}
use Rattle.mb_cells.specs.Reading.{look_of, word_of}
use Rattle.mb_cells.specs.Standing.{IsLaneAfter, IsPoolWord}

-- the words of a pool
pub record PoolWords : Type 0 where
  pub counter : ℕ
  pub heads : List ℕ
  pub links : List ℕ
  pub items : List ℕ

-- the state of a pool: its words, and the places of its producers
pub record PoolState : Type 0 where
  pub words : PoolWords
  pub lanes : List Lane

-- how many lanes a pool in this state has
abbrev pub lane_count : PoolState → ℕ
lane_count s = length s.lanes

-- how many cells a pool in this state has
abbrev pub cell_count : PoolState → ℕ
cell_count s = length s.words.items

-- the size of a pool in this state
abbrev pub size_of : PoolState → PoolSize
size_of s = pool_size (lane_count s) (cell_count s)

-- the word is one of these words of a pool
abbrev pub HasWord : Word → PoolWords → Type 0
HasWord Counter ws = Unit {0}
HasWord (Head p) ws = p < length ws.heads
HasWord (Link k) ws = k < length ws.links
HasWord (Item k) ws = k < length ws.items

-- what this word of the pool holds
abbrev pub word_in : Word → PoolWords → ℕ
word_in Counter ws = ws.counter
word_in (Head p) ws = slice_index ws.heads p
word_in (Link k) ws = slice_index ws.links k
word_in (Item k) ws = slice_index ws.items k

-- the words after a store of v in this word
abbrev pub words_with : Word → ℕ → PoolWords → PoolWords
words_with Counter v ws = record ws { counter = v }
words_with (Head p) v ws = record ws { heads = slice_set ws.heads p v }
words_with (Link k) v ws = record ws { links = slice_set ws.links k v }
words_with (Item k) v ws = record ws { items = slice_set ws.items k v }

-- each word of the pool holds what the history leaves in it
abbrev pub HoldsWords : PoolSize → PoolWords → History → Type 0
HoldsWords size ws h = (w : Word) → IsPoolWord size w → word_in w ws ≡ value_in w h

-- the history is lawful and leaves the pool in this state
pub record IsAfter (h : History) (s : PoolState) : Type 0 where
  pub lawful : IsPoolLawful (size_of s) h
  pub words : HoldsWords (size_of s) s.words h
  -- each lane in the state is its producer's place, by the producer's part of the history
  pub lanes : (p : ℕ) (lane : Lane) → p < lane_count s →
      IsLaneAfter (cell_count s) p (slice_index_or s.lanes p lane) (part (Producer p) h)

-- the invariant of a pool: its lists have the lengths that its size says, all below 2^32. A lawful history leaves it
pub record PoolIsSound (s : PoolState) : Type 0 where
  pub heads : length s.words.heads ≡ lane_count s
  pub links : length s.words.links ≡ cell_count s
  pub lanes : lane_count s < 2 ^ 32
  pub cells : cell_count s < 2 ^ 32
  pub history : (h : History) × IsAfter h s

-- both states have the same heads, links and items, which are all that a reader sees
pub record IsShownAlike (old new : PoolState) : Type 0 where
  pub heads : new.words.heads ≡ old.words.heads
  pub links : new.words.links ≡ old.words.links
  pub items : new.words.items ≡ old.words.items

-- both states have the same number of lanes, and the same number of cells
abbrev pub SameSize : PoolState → PoolState → Type 0
SameSize old new = (lane_count new ≡ lane_count old) × (cell_count new ≡ cell_count old)

-- the cursor is at a lane or past a cell of the pool
abbrev pub IsWithin : Cursor → PoolState → Type 0
IsWithin (cursor.Head p) s = p < lane_count s
IsWithin (cursor.Past k) s = k < cell_count s

-- what a look at this cursor returns in this state
abbrev pub look_in : Cursor → PoolState → Look
look_in at s = look_of (word_in (word_of at) s.words)

-- what the item word of cell k holds in this state
abbrev pub item_in : ℕ → PoolState → ℕ
item_in k s = slice_index s.words.items k
