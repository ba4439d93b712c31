-- What a mailbox is made of, and what was done to its words, as plain data.
use Rattle.std.specs.Prelude.{ℕ, ◌≡◌, true, List, [], ◌∷◌, ◌++◌}
use Rattle.mb_deciding.specs.declared.object.Kind.{Kind}
use Rattle.mb_deciding.specs.declared.object.Kind.TheVariants.{LastObject}
use Rattle.mb_world.specs.Imports.{ClaimAccess, Claims, END, HasLoaded, History, IsLinkWord, PoolSize, Word, is_of_lane, linked_cells, pool_size}

-- what a mailbox is made of: the claims on its cells, whose quorum table has the consumers as its values, and how many
-- lanes it has
pub record Plan : Type 0 where
  pub claims : Claims
  pub lanes : ℕ

-- how many consumers a mailbox has
abbrev pub consumers_of : Plan → ℕ
consumers_of plan = plan.claims.table.values

-- the row of objects on each cell ends with a last object
abbrev pub HasLastObject : Plan → Type 0
HasLastObject plan = (front : List Kind) × (plan.claims.kinds ≡ front ++ LastObject ∷ [])

-- how many lanes and cells a mailbox has
abbrev pub size_of : Plan → PoolSize
size_of plan = pool_size plan.lanes plan.claims.cells

-- What was done to the words of the claims, and what to the words of the pool, each the newest first. No order between
-- the two is known. Among the readers of the cells, consumer c has the number `reader_of c`. These numbers need not
-- differ.
pub record Histories : Type 0 where
  pub claims : List ClaimAccess
  pub pool : History
  pub reader_of : ℕ → ℕ

-- reader q has loaded the end mark of lane p, from its head or from the link of one of its cells
abbrev pub HasMetEnd : ℕ → ℕ → History → Type 0
HasMetEnd q p pool =
    (w : Word) × IsLinkWord w × (is_of_lane p (linked_cells p pool) w ≡ true) × HasLoaded q w END pool
