-- The last access of a consumer's path on a lane: to which place the path led before it, and to which it then leads.
use Rattle.std.proofs.Common.{◌≡◌, ◌≢◌, ◌⊎◌, ◌+◌, ℕ, List, [], ◌∷◌, ◌++◌, Option, Some, None, refl}
use Rattle.mb_claim.specs.declared.access.Stage.TheVariants as stage
use Rattle.mb_world.specs.declared.report.Note.{Note}
use Rattle.mb_world.specs.declared.report.Note.TheVariants.{Took}
use Rattle.mb_world.specs.Imports.{Claims, END, IsClaimPrefix, ObjectTurn, Stage}
use Rattle.mb_world.specs.World.{WorldAccess, WorldHistory}
use Rattle.mb_world.specs.ConsumerPath.{ConsumerPath, claim_step, ends, finds, goes, item_load, link_load, note_of, takes, waits}

-- where a path on a lane has led: the cells met, the notes, and the steps of a claim that is held, as one value
pub record PathEnd : Type 0 where
  pub cells : List ℕ
  pub notes : List Note
  pub held : Option (List ObjectTurn)

-- the place with these cells, notes and steps
abbrev pub path_end : List ℕ → List Note → Option (List ObjectTurn) → PathEnd
path_end ks ns held = record { cells = ks; notes = ns; held = held }

module _ (cs : Claims) (c p : ℕ) where
  -- the access leads from one place on the lane to the next
  pub data Leads (a : WorldAccess) : PathEnd → PathEnd → Type 0 where
    -- the access is a load of a link that leads to no cell
    waited : (ks : List ℕ) (ns : List Note) (v : ℕ) → (v ≡ 0) ⊎ (v ≡ END) → a ≡ link_load c p ks v
        → Leads a (path_end ks ns None) (path_end ks ns None)
    -- the access is a load of a link that leads to a cell
    found : (ks : List ℕ) (ns : List Note) (k : ℕ) → k + 1 ≢ END → IsClaimPrefix cs c [] stage.Going
        → a ≡ link_load c p ks (k + 1)
        → Leads a (path_end ks ns None) (path_end (k ∷ ks) ns (Some []))
    -- the access is a step of the claim, which then has no note
    went : (ks : List ℕ) (ns : List Note) (k : ℕ) (xs : List ObjectTurn) (x : ObjectTurn) (s : Stage)
        → IsClaimPrefix cs c (x ∷ xs) s → note_of s ≡ None → a ≡ claim_step c k x
        → Leads a (path_end (k ∷ ks) ns (Some xs)) (path_end (k ∷ ks) ns (Some (x ∷ xs)))
    -- the access is the last step of the claim, which then has a note
    ended : (ks : List ℕ) (ns : List Note) (k : ℕ) (xs : List ObjectTurn) (x : ObjectTurn) (n : Note) (s : Stage)
        → IsClaimPrefix cs c (x ∷ xs) s → note_of s ≡ Some n → a ≡ claim_step c k x
        → Leads a (path_end (k ∷ ks) ns (Some xs)) (path_end (k ∷ ks) (n ∷ ns) None)
    -- the access is the load of the item of a claim that is won
    took : (ks : List ℕ) (ns : List Note) (k : ℕ) (xs : List ObjectTurn) (v : ℕ) → IsClaimPrefix cs c xs stage.Won
        → a ≡ item_load c k v
        → Leads a (path_end (k ∷ ks) ns (Some xs)) (path_end (k ∷ ks) (Took v ∷ ns) None)

  -- the older accesses led to the place `was`, and the access leads from there to the place `now`
  pub record CameFrom (a : WorldAccess) (older : WorldHistory) (now : PathEnd) : Type 0 where
    pub was : PathEnd
    pub path : ConsumerPath cs c p older was.cells was.notes was.held
    pub leads : Leads a was now

  -- if a path has a last access, the path before it led to a place from which this access leads on
  pub came_from : {a : WorldAccess} {older : WorldHistory} {ks : List ℕ} {ns : List Note} {held : Option
      (List ObjectTurn)}
      → ConsumerPath cs c p (a ∷ older) ks ns held → CameFrom a older (path_end ks ns held)
  came_from (waits {ks = ks} {ns = ns} {v = v} says s) =
      record { was = path_end ks ns None; path = s; leads = waited ks ns v says refl }
  came_from (finds {ks = ks} {ns = ns} {k = k} ne fresh s) =
      record { was = path_end ks ns None; path = s; leads = found ks ns k ne fresh refl }
  came_from (goes {ks = ks} {ns = ns} {k = k} {xs = xs} {x = x} z q still s) =
      record { was = path_end (k ∷ ks) ns (Some xs); path = s; leads = went ks ns k xs x z q still refl }
  came_from (ends {ks = ks} {ns = ns} {k = k} {xs = xs} {x = x} {n = n} z q note s) =
      record { was = path_end (k ∷ ks) ns (Some xs); path = s; leads = ended ks ns k xs x n z q note refl }
  came_from (takes {ks = ks} {ns = ns} {k = k} {xs = xs} {v = v} q s) =
      record { was = path_end (k ∷ ks) ns (Some xs); path = s; leads = took ks ns k xs v q refl }

  -- if accesses lead to a place, the older ones of them lead to a place, too
  pub older_path : (later older : WorldHistory) (now : PathEnd)
      → ConsumerPath cs c p (later ++ older) now.cells now.notes now.held
      → (was : PathEnd) × ConsumerPath cs c p older was.cells was.notes was.held
  older_path [] older now path = (now, path)
  older_path (a ∷ later) older now path = let last = came_from path in older_path later older last.was last.path
