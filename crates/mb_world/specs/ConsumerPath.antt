-- The path of a consumer on a lane, and the diary to which it leads.
use Rattle.std.specs.Prelude.{ℕ, ◌≡◌, ◌≢◌, ◌+◌, ◌⊎◌, Bool, true, false, Option, Some, None, List, [], ◌∷◌, reverse}
use Rattle.mb_claim.specs.declared.access.Stage.TheVariants as stage
use Rattle.mb_world.specs.declared.report.Note.{Note}
use Rattle.mb_world.specs.declared.report.Note.TheVariants.{Took, Lost, Undecided}
use Rattle.mb_world.specs.Imports.{ClaimAccess, Claims, END, IsClaimPrefix, Item, ObjectTurn, Stage, load, place_past}
use Rattle.mb_world.specs.Theorem.{DiaryView}
use Rattle.mb_world.specs.World.{ToCells, ToClaims, WorldAccess, WorldHistory}

-- the note of a claim that came to this stage with its last access. A claim that goes on has none. One that is won gets
-- its note only when the item is loaded
abbrev pub note_of : Stage → Option Note
note_of stage.Going = None
note_of stage.Won = None
note_of (stage.Lost w) = Some (Lost w)
note_of stage.Undecided = Some Undecided

-- a step of the claim of consumer c on cell k, as an access to the claims
abbrev pub claim_access : ℕ → ℕ → ObjectTurn → ClaimAccess
claim_access c k x = record { consumer = c; cell = k; step = x }

-- a step of the claim of consumer c on cell k, as an access of a world
abbrev pub claim_step : ℕ → ℕ → ObjectTurn → WorldAccess
claim_step c k x = ToClaims (claim_access c k x)

-- a load by consumer c of the link past these cells of lane p (the last first), or of the lane's head if there are
-- none. The load finds v
abbrev pub link_load : ℕ → ℕ → List ℕ → ℕ → WorldAccess
link_load c p ks v = ToCells (load c (place_past p ks) v)

-- a load by consumer c of the item of cell k. The load finds v
abbrev pub item_load : ℕ → ℕ → ℕ → WorldAccess
item_load c k v = ToCells (load c (Item k) v)

-- What consumer c has done on lane p, the newest first, and where this leads. It leads to these cells met and these
-- notes (each the last first). If a claim is held on the last cell met, it leads to these steps of the claim. Each rule
-- but the first is one access, so the lists are the prefixes of the consumer's paths. A path has loads of links until
-- one leads to a cell. There it has a claim to its end, and the load of the item if the claim is won. Then the path
-- goes on from that cell's link.
pub data ConsumerPath (cs : Claims) (c p : ℕ) : WorldHistory → List ℕ → List Note → Option (List ObjectTurn)
    → Type 0 where
  -- nothing was done yet: the consumer stands at the lane's head
  begins : ConsumerPath cs c p [] [] [] None
  -- the link that is loaded leads to no cell: the consumer waits there
  waits : {older : WorldHistory} {ks : List ℕ} {ns : List Note} {v : ℕ} → (v ≡ 0) ⊎ (v ≡ END)
      → ConsumerPath cs c p older ks ns None
      → ConsumerPath cs c p (link_load c p ks v ∷ older) ks ns None
  -- the link that is loaded leads to cell k: the consumer holds a new claim there, which has an access to come
  finds : {older : WorldHistory} {ks : List ℕ} {ns : List Note} {k : ℕ} → k + 1 ≢ END
      → IsClaimPrefix cs c [] stage.Going
      → ConsumerPath cs c p older ks ns None
      → ConsumerPath cs c p (link_load c p ks (k + 1) ∷ older) (k ∷ ks) ns (Some [])
  -- the consumer makes a step of its claim, which then goes on or is won
  goes : {older : WorldHistory} {ks : List ℕ} {ns : List Note} {k : ℕ} {xs : List ObjectTurn} {x : ObjectTurn}
      → (s : Stage) → IsClaimPrefix cs c (x ∷ xs) s → note_of s ≡ None
      → ConsumerPath cs c p older (k ∷ ks) ns (Some xs)
      → ConsumerPath cs c p (claim_step c k x ∷ older) (k ∷ ks) ns (Some (x ∷ xs))
  -- the consumer makes the last step of its claim, which then is lost or undecided: the end of the claim is noted, and
  -- the consumer stands at the link of cell k
  ends : {older : WorldHistory} {ks : List ℕ} {ns : List Note} {k : ℕ} {xs : List ObjectTurn} {x : ObjectTurn}
      {n : Note}
      → (s : Stage) → IsClaimPrefix cs c (x ∷ xs) s → note_of s ≡ Some n
      → ConsumerPath cs c p older (k ∷ ks) ns (Some xs)
      → ConsumerPath cs c p (claim_step c k x ∷ older) (k ∷ ks) (n ∷ ns) None
  -- the claim is won, and the consumer loads the item: that is noted, and the consumer stands at the link of cell k
  takes : {older : WorldHistory} {ks : List ℕ} {ns : List Note} {k : ℕ} {xs : List ObjectTurn} {v : ℕ}
      → IsClaimPrefix cs c xs stage.Won
      → ConsumerPath cs c p older (k ∷ ks) ns (Some xs)
      → ConsumerPath cs c p (item_load c k v ∷ older) (k ∷ ks) (Took v ∷ ns) None

-- whether a claim is held that has made an access: its steps are not empty
abbrev pub has_begun : Option (List ObjectTurn) → Bool
has_begun None = false
has_begun (Some []) = false
has_begun (Some (x ∷ xs)) = true

-- the diary of consumer c on lane p, if its path has led to these notes and this claim
abbrev pub diary_at : ℕ → ℕ → List Note → Option (List ObjectTurn) → DiaryView
diary_at c p ns held = record { consumer = c; lane = p; notes = reverse ns; begun = has_begun held }
