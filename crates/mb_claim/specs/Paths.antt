-- The path of a consumer through the objects of a cell. Turns are listed newest first: what is on the right came first.
use Rattle.std.specs.Prelude.{ℕ, suc, ◌≡◌, ◌==◌, Bool, true, false, if◌then◌else◌, List, [], ◌∷◌, ◌++◌, map, ◌⊎◌}
use Rattle.mb_quorum.specs.Vocabulary.{QuorumTable}
use Rattle.mb_deciding.specs.Vocabulary.{IsPath, IsOpen, answer}
use Rattle.mb_claim.specs.AllClaims.{Claims}
use Rattle.mb_claim.specs.ObjectTypes.{Turn, Kind, Out}
use Rattle.mb_claim.specs.Types.{ObjectTurn, Stage, Going, Won, Lost, Undecided}

-- these turns, each with the number o of their object
abbrev pub turns_on : ℕ → List Turn → List ObjectTurn
turns_on o turns = map (λ turn. record { object = o; turn = turn }) turns

-- the stage of consumer c if u was decided
abbrev pub stage_for : ℕ → ℕ → Stage
stage_for c u = if c == u then Won else Lost u

-- the stage of consumer c at the end of a path with this output
abbrev pub stage_of : ℕ → Out → Stage
stage_of c output = if output.decided then stage_for c output.value else Undecided

-- ---- whole paths
-- A whole path through objects with numbers from o on, and its output: whole paths of the objects in their order,
-- joined. The first input is v, each next input is the value of the output before. It ends at the first output that
-- is decided, or after the final object of the row.
abbrev pub IsClaimPath : QuorumTable → List Kind → ℕ → ℕ → List ObjectTurn → Out → Type 0
IsClaimPath t [] o v xs output = (xs ≡ []) × (output ≡ answer false v)
IsClaimPath t (kind ∷ kinds) o v xs output =
    (turns : List Turn) × (later : List ObjectTurn) × (d : Bool) × (u : ℕ)
    × (xs ≡ later ++ turns_on o turns) × IsPath t kind v turns (answer d u)
    × (((d ≡ true) × (later ≡ []) × (output ≡ answer true u))
    ⊎ ((d ≡ false) × IsClaimPath t kinds (suc o) u later output))

-- ---- prefixes of paths, and their stages
-- the consumer is on object o, and its path there is not at its end
pub record GoesOnIn (t : QuorumTable) (kind : Kind) (o v : ℕ) (xs : List ObjectTurn)
    (s : Stage) : Type 0 where
  -- all that the consumer did on object o or a later one, it did on object o
  pub turns : List Turn
  pub all : xs ≡ turns_on o turns
  -- these turns are a prefix of a path on the object, and no whole path
  pub going : IsOpen t kind v turns
  pub is : s ≡ Going

-- object o has decided a value. The stage of consumer c is `Won` if the value is c, and else `Lost`
pub record DecidesIn (t : QuorumTable) (c : ℕ) (kind : Kind) (o v : ℕ) (xs : List ObjectTurn)
    (s : Stage) : Type 0 where
  -- all that the consumer did on object o or a later one, it did on object o
  pub turns : List Turn
  pub value : ℕ
  pub all : xs ≡ turns_on o turns
  -- these turns are a whole path with a decided output
  pub path : IsPath t kind v turns (answer true value)
  pub is : s ≡ stage_for c value

-- object o has not decided: its output u is the input to the next object. The turns after it are `later`
pub record Passes
    (t : QuorumTable) (kind : Kind) (o v : ℕ) (xs : List ObjectTurn) (u : ℕ)
    (later : List ObjectTurn) : Type 0 where
  -- the oldest of these turns are those on this object
  pub turns : List Turn
  pub all : xs ≡ later ++ turns_on o turns
  -- these turns are a whole path with an undecided output
  pub path : IsPath t kind v turns (answer false u)

-- the turns are a prefix of a path of consumer c through objects from object o on, with input v and with this stage
abbrev pub IsClaimPrefixFrom : QuorumTable → ℕ → List Kind → ℕ → ℕ → List ObjectTurn → Stage
    → Type 0
IsClaimPrefixFrom t c [] o v xs s = (xs ≡ []) × (s ≡ Undecided)
IsClaimPrefixFrom t c (kind ∷ kinds) o v xs s =
    GoesOnIn t kind o v xs s
    ⊎ (DecidesIn t c kind o v xs s
    ⊎ ((u : ℕ) × (later : List ObjectTurn) × Passes t kind o v xs u later
    × IsClaimPrefixFrom t c kinds (suc o) u later s))

-- a part comes to object n with input w. It begins on object o with input v, and whole paths through all objects from o
-- to the one before n, all undecided, lead there
abbrev pub Enters : QuorumTable → List Kind → ℕ → ℕ → List ObjectTurn → ℕ → ℕ → Type 0
Enters t [] o v xs n w = ⊥
Enters t (kind ∷ kinds) o v xs n w =
    ((n ≡ o) × (w ≡ v))
    ⊎ ((u : ℕ) × (later : List ObjectTurn) × Passes t kind o v xs u later
    × Enters t kinds (suc o) u later n w)

-- ---- the paths of a claim, through all objects of its cell
-- the turns are a whole claim path of consumer c, with this output: the first input is c's own number
abbrev pub IsWholeClaim : Claims → ℕ → List ObjectTurn → Out → Type 0
IsWholeClaim cs c xs output = IsClaimPath cs.table cs.kinds 0 c xs output

-- the turns are a prefix of a claim path of consumer c, and this is its stage
abbrev pub IsClaimPrefix : Claims → ℕ → List ObjectTurn → Stage → Type 0
IsClaimPrefix cs c xs s = IsClaimPrefixFrom cs.table c cs.kinds 0 c xs s
