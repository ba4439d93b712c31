-- What the state of a world says of a consumer that holds a claim.
use Rattle.std.proofs.Common.{◌≡◌, ℕ, ◌+◌, ◌*◌, ◌<◌, true, List, [], ◌∷◌, Option, Some, None, refl, sym, ◌∙◌, ap, subst, inl}
use Rattle.std.specs.Prelude.{slice_get}
use Rattle.mb_claim.specs.declared.access.Stage.TheVariants as stage
use Rattle.mb_claim.specs.declared.claim.Claim.{Claim}
use Rattle.mb_claim.specs.OneClaim.{IsClaimIn, IsClaimOn, claim_stage, consumer_of}
use Rattle.mb_claim.specs.History.{part_on}
use Rattle.mb_world.specs.Vocabulary.{Note, IsClaimPrefix, IsOnceEach, Item, ObjectTurn, Stage, Word, claim_part, has_cell, is_of_lane, linked_cells, consumers_of, layout_of, WorldHistory}
use Rattle.mb_world.specs.Vocabulary.{claim_accesses, lane_part, pool_accesses, ConsumerPath, finds, goes, note_of, IsOnPath, IsPlaceAt, IsWorldAfter, WorldState, StepKnown}
use Rattle.mb_world.specs.declared.place.Place.TheVariants.{At}
use Rattle.mb_world.proofs.Cells.{has_cell-true}
use Rattle.mb_world.proofs.StateEnds.{HasItem}
use Rattle.mb_world.proofs.StateSteps.{plan, place_here}
use Rattle.mb_world.proofs.WorldClaims.{met_once, on_lane, tracks}
use Rattle.mb_world.proofs.WorldDiaries.{held_is}
use Rattle.mb_world.proofs.WorldPool.{read_there}

module _ (s : WorldState) (h : WorldHistory) (is : IsWorldAfter h s) (c p : ℕ) (cs : c < consumers_of (plan s h is))
    (ps : p < (plan s h is).lanes) (known : StepKnown s h c p) (k : ℕ) (claim : Claim)
    (here : slice_get s.places (c * (plan s h is).lanes + p) ≡ Some (At k claim)) where
  -- the path of a consumer that holds this claim at its place: it has met cell k last, and has made these steps there
  pub record AtCell : Type 0 where
    pub cells : List ℕ
    pub notes : List Note
    pub steps : List ObjectTurn
    pub path : ConsumerPath (plan s h is).claims c p (lane_part c p h) (k ∷ cells) notes (Some steps)
    pub own : consumer_of claim ≡ c
    pub is_in : IsClaimIn (layout_of s.setup) claim steps

  -- if a path leads to this place, `AtCell` holds of that path
  cell_at : (ks : List ℕ) (ns : List Note) (held : Option (List ObjectTurn))
      → ConsumerPath (plan s h is).claims c p (lane_part c p h) ks ns held
      → IsPlaceAt (layout_of s.setup) c p ks held (At k claim) → AtCell
  cell_at [] ns None path on = absurd on
  cell_at [] ns (Some xs) path on = absurd on
  cell_at (j ∷ ks) ns None path on = absurd on
  cell_at (j ∷ ks) ns (Some xs) path on = record {
    cells = ks;
    notes = ns;
    steps = xs;
    path = subst (λ (i : ℕ). ConsumerPath (plan s h is).claims c p (lane_part c p h) (i ∷ ks) ns (Some xs)) (sym on.0)
        path;
    own = on.1;
    is_in = on.2;
  }

  -- `AtCell` holds of the path of this consumer
  pub at_cell : AtCell
  at_cell =
      let y = place_here s h is c p (At k claim) cs ps here in cell_at y.cells y.notes y.held y.path y.is

  -- the consumer's part on the lane is a prefix of a consumer path
  abbrev on_path : IsOnPath (plan s h is) c p h
  on_path = record {
    cells = k ∷ at_cell.cells;
    notes = at_cell.notes;
    held = Some at_cell.steps;
    path = at_cell.path;
  }

  -- the steps of the claim are all that the consumer has made on the cell, which is one of the pool's
  held_so : (claim_part c k (claim_accesses h) ≡ at_cell.steps) × (k < (plan s h is).claims.cells)
  held_so =
      held_is (plan s h is) h is.lawful known.world c p k at_cell.cells at_cell.notes at_cell.steps at_cell.path

  -- the steps of the claim are all that the consumer has made on the cell
  pub part_is : claim_part c k (claim_accesses h) ≡ at_cell.steps
  part_is = held_so.0

  -- the cell is one of the pool's
  pub below : k < (plan s h is).claims.cells
  below = held_so.1

  -- the steps are a prefix of a claim path, with the claim's stage
  pub prefix : (r : Stage) → claim_stage claim ≡ r → IsClaimPrefix (plan s h is).claims c at_cell.steps r
  prefix r e =
      subst (λ (z : Stage). IsClaimPrefix (plan s h is).claims c at_cell.steps z) e
      (subst (λ (i : ℕ). IsClaimPrefix (plan s h is).claims i at_cell.steps (claim_stage claim)) at_cell.own
      at_cell.is_in.prefix)

  -- the history leaves the words, and in it the claim's consumer has made the claim's steps on cell k
  pub claim_on : IsClaimOn (layout_of s.setup) (plan s h is).claims.cells k claim s.words (claim_accesses h)
  claim_on = record {
    cell = below;
    memory = is.words;
    standing = subst (λ (xs : List ObjectTurn). IsClaimIn (layout_of s.setup) claim xs)
        (sym (ap (λ (i : ℕ). part_on i k (claim_accesses h)) at_cell.own ∙ part_is)) at_cell.is_in;
  }

  -- the consumer has not loaded the item of the cell
  pub unread : (v : ℕ) → HasItem (plan s h is).claims h c k v → ⊥
  unread v read =
      let once : IsOnceEach (k ∷ at_cell.cells) = met_once (plan s h is) h is.lawful known.world c p on_path in
      let there : has_cell (linked_cells p (pool_accesses h)) k ≡ true =
      has_cell-true (linked_cells p (pool_accesses h)) k
      (on_lane (plan s h is) h is.lawful known.world c p k on_path (inl refl)) in
      once.0 ((tracks (plan s h is) h is.lawful known.world c p on_path).items k v
      (read_there (plan s h is) h is.lawful c p (Item k) v read
      (subst (λ (w : Word). is_of_lane p (linked_cells p (pool_accesses h)) w ≡ true) (sym read.2) there)))

  -- a claim that is held has a stage without a note: it goes on or is won
  still_open : {done : WorldHistory} {ks : List ℕ} {ns : List Note} (xs : List ObjectTurn)
      → ConsumerPath (plan s h is).claims c p done ks ns (Some xs)
      → (r : Stage) × IsClaimPrefix (plan s h is).claims c xs r × (note_of r ≡ None)
  still_open xs (finds ne fresh path) = (stage.Going, fresh, refl)
  still_open xs (goes r q still path) = (r, q, still)

  -- the claim goes on, unless it is won
  pub goes_unless_won : (claim_stage claim ≡ stage.Won → ⊥) → claim_stage claim ≡ stage.Going
  goes_unless_won not_won =
      let o = still_open at_cell.steps at_cell.path in
      by (claim_stage claim) o.0 refl
      (known.world.stage c at_cell.steps o.0 (claim_stage claim) o.1 (prefix (claim_stage claim) refl)) o.2
    where
      by : (r z : Stage) → claim_stage claim ≡ r → z ≡ r → note_of z ≡ None → claim_stage claim ≡ stage.Going
      by stage.Going z e f n = e
      by stage.Won z e f n = absurd (not_won e)
      by (stage.Lost u) z e f n = absurd (let g = ap note_of f in cc)
      by stage.Undecided z e f n = absurd (let g = ap note_of f in cc)
