-- The two parts of a consumer, namely what it loaded from the cells and what it did on its claims, and when the two
-- parts fit each other.
use Rattle.std.specs.Prelude.{ℕ, ◌≡◌, ◌≢◌, ◌-◌, ◌||◌, List, [], ◌∷◌, Option, Some, None, nat_eq, if◌then◌else◌}
use Rattle.mb_world.specs.Imports.{Claims, END, FetchAdd, Gave, Has, History, IsClaimPrefix, IsLinkWord, Item, Link, Load, ObjectTurn, PoolAccess, PoolAct}
use Rattle.mb_world.specs.Imports.{Reader, Stage, Store, Word, claim_part, is_same_word, part, place_past, push_if}
use Rattle.mb_claim.specs.declared.access.Stage.TheVariants as stage
use Rattle.mb_world.specs.Plan.{Histories}
use Rattle.mb_world.specs.declared.report.Note.{Note}
use Rattle.mb_world.specs.declared.report.Note.TheVariants.{Took, Lost, Undecided}

-- what a consumer loaded from the cells, and for each cell the steps of its claim there, each the newest first
pub record Parts : Type 0 where
  pub reads : History
  pub claimed : ℕ → List ObjectTurn

-- the parts of consumer c
abbrev pub parts_of : ℕ → Histories → Parts
parts_of c hs = record {
  reads = part (Reader (hs.reader_of c)) hs.pool;
  claimed = λ k. claim_part c k hs.claims;
}

-- one of these accesses loaded the value v from word w
abbrev pub HasRead : Word → ℕ → History → Type 0
HasRead w v reads = (a : PoolAccess) × Has reads a × (a.word ≡ w) × (a.act ≡ Load v)

-- ---- which cells loads give, and how they follow the links
-- the cell to which an act on a head or a link leads, if it leads to one. A load of 0 leads to none yet, and a load of
-- the end mark to none at all. No other act leads to a cell
abbrev pub cell_given : PoolAct → Option ℕ
cell_given (Load v) = if nat_eq v 0 || nat_eq v END then None else Some (v - 1)
cell_given (Store _) = None
cell_given (FetchAdd _ _) = None

-- the cells that these loads met on lane p (the last first). A load of the head gave the first, and a load of the link
-- past the cell before it gave each next one
abbrev pub cells_met : ℕ → History → List ℕ
cells_met p [] = []
cells_met p (a ∷ older) =
    if is_same_word a.word (place_past p (cells_met p older))
    then push_if (cell_given a.act) (cells_met p older)
    else cells_met p older

-- each load of a head or a link is of the link past the cells met before it on some lane, or of that lane's head if
-- none was met
abbrev pub FollowsLinks : History → Type 0
FollowsLinks [] = Unit {0}
FollowsLinks (a ∷ older) =
    (IsLinkWord a.word → (p : ℕ) × (a.word ≡ place_past p (cells_met p older))) × FollowsLinks older

-- ---- the stages and ends of a consumer's claims
-- the claim of consumer c on cell k has this stage, by the steps in its parts
abbrev pub HasStageIn : Claims → ℕ → ℕ → Stage → Parts → Type 0
HasStageIn cs c k s x = IsClaimPrefix cs c (x.claimed k) s

-- the claim of consumer c on cell k has ended as the note says: won, and the item was loaded, or lost, or undecided
abbrev pub EndsAs : Claims → ℕ → ℕ → Note → Parts → Type 0
EndsAs cs c k (Took v) x = HasStageIn cs c k stage.Won x × HasRead (Item k) v x.reads
EndsAs cs c k (Lost w) x = HasStageIn cs c k (stage.Lost w) x
EndsAs cs c k Undecided x = HasStageIn cs c k stage.Undecided x

-- ---- when the two parts fit
-- the two parts of consumer c fit each other
pub record Fits (cs : Claims) (c : ℕ) (x : Parts) : Type 0 where
  -- on each lane the loads of c follow the links from the head
  pub follows : FollowsLinks x.reads
  -- the claims of c are only on cells that c met: its own loads gave them
  pub met : (k : ℕ) → x.claimed k ≢ [] → Gave k x.reads
  -- if c loaded a cell's link, its claim there has ended
  pub ended : (k v : ℕ) → HasRead (Link k) v x.reads → (s : Stage) × HasStageIn cs c k s x × (s ≢ stage.Going)
  -- if c loaded a cell's link, and its claim there is won, it loaded the item
  pub taken : (k v : ℕ) → HasRead (Link k) v x.reads → HasStageIn cs c k stage.Won x
      → (y : ℕ) × HasRead (Item k) y x.reads
  -- c loaded a cell's item only if its claim there is won. How often it did is not asked
  pub won : (k v : ℕ) → HasRead (Item k) v x.reads → HasStageIn cs c k stage.Won x
