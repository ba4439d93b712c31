-- Where a claim stands: the objects that it has passed, its place on the next one, and the access that it makes there.
use Rattle.std.specs.Prelude.{ℕ, suc, ◌≡◌, ◌≢◌, ◌<◌, ◌↔◌, true, List, [], ◌∷◌, ◌++◌, length}
use Rattle.mb_quorum.specs.Vocabulary.{QuorumTable}
use Rattle.mb_deciding.specs.Vocabulary.{PcIsAt, turn_after}
use Rattle.mb_claim.specs.AllClaims.{Claims}
use Rattle.mb_claim.specs.ObjectTypes.{Op, Turn, Kind, Pc}
use Rattle.mb_claim.specs.Types.{ObjectTurn, ClaimAccess, Going, Claim}
use Rattle.mb_claim.specs.History.{part_on, object_history}
use Rattle.mb_claim.specs.Paths.{turns_on, Passes, IsClaimPrefixFrom}

-- the turns are whole paths through objects with numbers from o on, all undecided. The first input is v, the last
-- output w. With no objects there are no turns, and w is v
abbrev pub PassesAll : QuorumTable → List Kind → ℕ → ℕ → List ObjectTurn → ℕ → Type 0
PassesAll t [] o v xs w = (xs ≡ []) × (w ≡ v)
PassesAll t (kind ∷ kinds) o v xs w =
    (u : ℕ) × (later : List ObjectTurn) × Passes t kind o v xs u later
    × PassesAll t kinds (suc o) u later w

-- consumer c has made these turns, and stands on the object with this number, at this place
pub record StandsAt (t : QuorumTable) (kinds : List Kind) (c object : ℕ) (pc : Pc)
    (xs : List ObjectTurn) : Type 0 where
  -- the kinds of the objects before this one, its own kind, and the kinds of the objects after it
  pub before : List Kind
  pub kind : Kind
  pub after : List Kind
  -- the consumer's steps on the objects before this one, and its turns on this one
  pub front : List ObjectTurn
  pub turns : List Turn
  -- the consumer's input to this object: the last output of the objects before, or its own number if there are none
  pub input : ℕ
  -- the cell's kinds are these in this order, and the object's number is how many objects come before it
  pub order : kinds ≡ before ++ kind ∷ after
  pub number : object ≡ length before
  -- the consumer has passed the objects before, and all that it did since then it did on this one
  pub passed : PassesAll t before 0 c front input
  pub all : xs ≡ turns_on object turns ++ front
  -- the input is a value of the table, and the turns on this object led to the place
  pub within : input < t.values
  pub place : PcIsAt t kind input pc turns

-- the claim of consumer c on cell k stands on this object, at this place
abbrev pub HasPlace : Claims → ℕ → ℕ → ℕ → Pc → List ClaimAccess → Type 0
HasPlace cs c k object pc h = (c < cs.table.values)
    × StandsAt cs.table cs.kinds c object pc (part_on c k h)

-- the claim belongs to a consumer that has made these turns, and says how far it has come
pub record IsClaimOf (t : QuorumTable) (kinds : List Kind) (claim : Claim)
    (xs : List ObjectTurn) : Type 0 where
  -- the claim's consumer is a value of the table
  pub known : claim.consumer < t.values
  -- the turns are a prefix of the consumer's claim path, with the claim's stage
  pub prefix : IsClaimPrefixFrom t claim.consumer kinds 0 claim.consumer xs claim.stage
  -- the claim is begun exactly if any turn was made
  pub begun : (claim.begun ≡ true) ↔ (xs ≢ [])
  -- while the claim is going, its consumer stands at the claim's place
  pub stands : claim.stage ≡ Going → StandsAt t kinds claim.consumer claim.object claim.place xs

-- the access that an op of consumer c makes to object o of cell k after a history, with a random word
abbrev pub access_after : ℕ → ℕ → ℕ → Op → ℕ → List ClaimAccess → ClaimAccess
access_after c k o op word h =
    record {
      consumer = c;
      cell = k;
      step = record {
        object = o;
        turn = turn_after op word
            (object_history k o h);
      };
    }
