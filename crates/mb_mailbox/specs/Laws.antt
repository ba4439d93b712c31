-- The laws of other crates that the proofs of a consumer's moves use, one name for each. They are of lawful histories
-- of cells, of parts, of claims, of the cells that loads met, and of two parts that fit with one access more.
use Rattle.std.specs.Prelude.{ℕ, ◌≡◌, ◌≢◌, ◌⊎◌, ◌+◌, ◌<◌, ◌≤◌, List, ◌∷◌, ◌++◌, length}
use Rattle.mb_quorum.specs.Vocabulary.{IsQuorumTable}
use Rattle.mb_claim.specs.Vocabulary.{quorums_of}
use Rattle.mb_claim.specs.declared.access.Stage.TheVariants as stage
use Rattle.mb_cells.specs.Vocabulary.{HasLoaded, IsStart, items_put}
use Rattle.mb_cells.specs.declared.access.Process.{Process}
use Rattle.mb_world.specs.Reporting.{HasMetAll}
use Rattle.mb_mailbox.specs.Imports.{ClaimAccess, Claims, END, Fits, FollowsLinks, Gave, Has, HasMet, HasNotPassed}
use Rattle.mb_mailbox.specs.Imports.{HasStageIn, History, IsClaimPrefix, IsOnceEach, IsPoolLawful, Item, Layout}
use Rattle.mb_mailbox.specs.Imports.{Link, MayLookPast, ObjectTurn, Parts, PoolAccess, PoolSize, Reader, Stage}
use Rattle.mb_mailbox.specs.Imports.{cells_met, linked_cells, load, part, part_on, place_past, with_load, with_step}

-- the laws from which the proofs of a consumer's moves follow. The laws of this crate itself are in `src/laws.rt`
pub record Laws : Type 0 where
  -- ---- lawful histories of cells
  pub start : (size : PoolSize) (h : History) (r p : ℕ) (ks : List ℕ) → IsPoolLawful size h
      → HasMet r p ks h → IsStart ks (linked_cells p h)
  pub own_met : (h : History) (r p : ℕ) (ks : List ℕ) → HasMet r p ks h
      → HasMet r p ks (part (Reader r) h)
  pub link : (size : PoolSize) (h : History) (r k v : ℕ) → IsPoolLawful size h
      → HasLoaded r (Link k) v h → Gave k (part (Reader r) h)
  pub item : (size : PoolSize) (h : History) (r k v : ℕ) → IsPoolLawful size h
      → HasLoaded r (Item k) v h → Gave k (part (Reader r) h)
  pub lane : (size : PoolSize) (h : History) (p q k : ℕ) → IsPoolLawful size h
      → Has (linked_cells p h) k → Has (linked_cells q h) k → p ≡ q
  pub within : (size : PoolSize) (h : History) (p k : ℕ) → IsPoolLawful size h
      → Has (linked_cells p h) k → (p < size.lanes) × (k < size.cells)
  pub few : (size : PoolSize) (h : History) (p : ℕ) → IsPoolLawful size h
      → length (linked_cells p h) ≤ size.cells
  pub share : (size : PoolSize) (h : History) → IsPoolLawful size h
      → items_put size.lanes h ≤ size.cells
  pub older : (size : PoolSize) (later older : History) → IsPoolLawful size (later ++ older)
      → IsPoolLawful size older
  -- ---- parts
  pub only : (h : History) (who : Process) (a : PoolAccess) → Has (part who h) a
      → Has h a × (a.process ≡ who)
  pub own : (h : History) (a : PoolAccess) → part a.process (a ∷ h) ≡ a ∷ part a.process h
  pub own_cell : (a : ClaimAccess) (h : List ClaimAccess)
      → part_on a.consumer a.cell (a ∷ h) ≡ a.step ∷ part_on a.consumer a.cell h
  pub other_cells : (c k : ℕ) (a : ClaimAccess) (h : List ClaimAccess)
      → (a.consumer ≡ c → a.cell ≡ k → ⊥) → part_on c k (a ∷ h) ≡ part_on c k h
  -- ---- claims
  pub table : (layout : Layout) → IsQuorumTable (quorums_of layout)
  pub one_stage : (cs : Claims) (c : ℕ) (xs : List ObjectTurn) (s r : Stage)
      → IsQuorumTable cs.table → IsClaimPrefix cs c xs s → IsClaimPrefix cs c xs r → s ≡ r
  -- ---- cells met
  pub cell : (q p k : ℕ) (reads : History) → k + 1 ≢ END
      → cells_met p (load q (place_past p (cells_met p reads)) (k + 1) ∷ reads)
      ≡ k ∷ cells_met p reads
  pub none : (q p v : ℕ) (reads : History) → (v ≡ 0) ⊎ (v ≡ END)
      → cells_met p (load q (place_past p (cells_met p reads)) v ∷ reads) ≡ cells_met p reads
  pub elsewhere : (p : ℕ) (a : PoolAccess) (reads : History)
      → a.word ≢ place_past p (cells_met p reads)
      → cells_met p (a ∷ reads) ≡ cells_met p reads
  pub met : (q p : ℕ) (h : History) → HasMet q p (cells_met p (part (Reader q) h)) h
  pub given : (q p k : ℕ) (h : History) → Has (cells_met p (part (Reader q) h)) k
      → Gave k (part (Reader q) h)
  pub on_lane : (size : PoolSize) (q p k : ℕ) (h : History) → IsPoolLawful size h
      → Has (cells_met p (part (Reader q) h)) k → Has (linked_cells p h) k
  pub once : (size : PoolSize) (q p : ℕ) (h : History) → IsPoolLawful size h
      → IsOnceEach (cells_met p (part (Reader q) h))
  pub has_met_all : (size : PoolSize) (q p : ℕ) (h : History) → IsPoolLawful size h
      → FollowsLinks (part (Reader q) h) → HasMetAll q p (cells_met p (part (Reader q) h)) h
  -- ---- two parts that fit, and still fit with one access more
  pub looks : (cs : Claims) (c q p v : ℕ) (x : Parts) → Fits cs c x
      → MayLookPast cs c (cells_met p x.reads) x
      → Fits cs c (with_load (load q (place_past p (cells_met p x.reads)) v) x)
  pub claims : (cs : Claims) (c k : ℕ) (t : ObjectTurn) (x : Parts) → Fits cs c x → Gave k x.reads
      → HasNotPassed k x → Fits cs c (with_step k t x)
  pub takes : (cs : Claims) (c q k v : ℕ) (x : Parts) → Fits cs c x → HasStageIn cs c k stage.Won x
      → Fits cs c (with_load (load q (Item k) v) x)
