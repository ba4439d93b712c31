-- A consumer that holds no claim loads the link at its cursor (it *looks*): how this changes the state of a world.
use Rattle.std.proofs.Common.{◌≡◌, ◌≢◌, ◌⊎◌, ℕ, ◌+◌, ◌*◌, ◌-◌, ◌<◌, Bool, true, false, cond, List, [], ◌∷◌, Option, Some, None, refl, sym, ◌∙◌, ap, subst, inl, inr, arith, nat_eq, slice_get}
use Rattle.std.proofs.Common.{slice_set}
use Rattle.std.proofs.lemmas.{Bool.eqb-true, Bool.eqb-false, List.length-set}
use Rattle.mb_claim.specs.declared.access.Stage.TheVariants as stage
use Rattle.mb_claim.specs.declared.claim.Claim.{Claim}
use Rattle.mb_claim.specs.Vocabulary.{IsClaimIn, claim_stage, consumer_of}
use Rattle.mb_cells.specs.declared.answer.Look.{Look}
use Rattle.mb_cells.specs.declared.answer.Look.TheVariants as look
use Rattle.mb_cells.specs.declared.cursor.Cursor.{Cursor}
use Rattle.mb_cells.specs.declared.cursor.Cursor.TheVariants as cursor
use Rattle.mb_cells.specs.Vocabulary.{value_in, look_of, word_of, IsWithin}
use Rattle.mb_world.specs.declared.event.Answer.TheVariants as answer
use Rattle.mb_world.specs.declared.event.Event.TheVariants as event
use Rattle.mb_world.specs.Vocabulary.{Note, END, Has, Gave, IsClaimPrefix, Item, Load, MayRead, ObjectTurn, Reader, Stage, Word, load, part, place_past, consumers_of, layout_of, ToCells}
use Rattle.mb_world.specs.Vocabulary.{WorldAccess, WorldHistory, lane_part, pool_accesses, ConsumerPath, finds, link_load, waits, IsPlaceAt, IsWorldAfter, WorldState, answer_to, EventAdds}
use Rattle.mb_world.specs.Vocabulary.{with_place, StepKnown, At, Before}
use Rattle.mb_world.proofs.LoadStates.{adds, given, load_adds, loaded}
use Rattle.mb_world.proofs.StateEnds.{load_keeps}
use Rattle.mb_world.proofs.StateSteps.{AreNotes, notes_kept, own_place, plan, place_here, places_kept, places_set}
use Rattle.mb_world.proofs.WorldClaims.{on_lane}

-- ---- what the value of a link tells
-- a link that leads to no cell holds 0 or the end mark
pub none_told : (v : ℕ) → ((k : ℕ) → look_of v ≡ look.Cell k → ⊥) → (v ≡ 0) ⊎ (v ≡ END)
none_told v other = by (nat_eq v 0) (nat_eq v END) refl refl
  where
    by : (a b : Bool) → nat_eq v 0 ≡ a → nat_eq v END ≡ b → (v ≡ 0) ⊎ (v ≡ END)
    by true b e f = inl (eqb-true v 0 e)
    by false true e f = inr (eqb-true v END f)
    by false false e f = absurd (other (v - 1) (rw (e, f) refl))

-- a link that leads to cell k holds k + 1, and that is no end mark
pub cell_told : (v k : ℕ) → look_of v ≡ look.Cell k → (v ≡ k + 1) × (k + 1 ≢ END)
cell_told v k tells = by (nat_eq v 0) (nat_eq v END) refl refl tells
  where
    by : (a b : Bool) → nat_eq v 0 ≡ a → nat_eq v END ≡ b
        → cond a look.Nothing (cond b look.Ended (look.Cell (v - 1))) ≡ look.Cell k → (v ≡ k + 1) × (k + 1 ≢ END)
    by true b e f h = absurd (cc)
    by false true e f h = absurd (cc)
    by false false e f h =
        let same : v - 1 ≡ k = cc in
        let some : v ≡ 0 → ⊥ = eqb-false v 0 e in
        let no_end : v ≡ END → ⊥ = eqb-false v END f in
        let more : v ≡ k + 1 = omega (arith, same, some) in
        (more, λ g. no_end (more ∙ g))

-- the answer that names a load of the word at a cursor is `Looked`, with what the value loaded says
told : (cells : ℕ) (at : Cursor) (v : ℕ) → answer_to cells (word_of at) (Load v) ≡ Some (answer.Looked (look_of v))
told cells (cursor.Head q) v = refl
told cells (cursor.Past q) v = refl

-- the word at a cursor is a head or a link, and no item
not_item : (at : Cursor) (k : ℕ) → word_of at ≡ Item k → ⊥
not_item (cursor.Head q) k e = cc
not_item (cursor.Past q) k e = cc

-- ---- the state after the look
module _ (s : WorldState) (h : WorldHistory) (is : IsWorldAfter h s) (c p : ℕ) (cs : c < consumers_of (plan s h is))
    (ps : p < (plan s h is).lanes) (known : StepKnown s h c p) (at : Cursor)
    (here : slice_get s.places (c * (plan s h is).lanes + p) ≡ Some (Before at)) where
  -- the path of the consumer at this place: it holds no claim, and the cursor is at the link past the cells met
  pub record AtLink : Type 0 where
    pub cells : List ℕ
    pub notes : List Note
    pub path : ConsumerPath (plan s h is).claims c p (lane_part c p h) cells notes None
    pub word : word_of at ≡ place_past p cells

  -- if a path leads to this place, `AtLink` holds of that path
  link_at : (ks : List ℕ) (ns : List Note) (held : Option (List ObjectTurn))
      → ConsumerPath (plan s h is).claims c p (lane_part c p h) ks ns held
      → IsPlaceAt (layout_of s.setup) c p ks held (Before at) → AtLink
  link_at ks ns None path on = record { cells = ks; notes = ns; path = path; word = on }
  link_at [] ns (Some xs) path on = absurd on
  link_at (k ∷ ks) ns (Some xs) path on = absurd on

  -- `AtLink` holds of the path of this consumer
  at_link : AtLink
  at_link =
      let y = place_here s h is c p (Before at) cs ps here in link_at y.cells y.notes y.held y.path y.is

  -- the cursor of a consumer whose path holds no claim is at a word of the pool
  within_by : (ks : List ℕ) (ns : List Note) (it : Cursor)
      → ConsumerPath (plan s h is).claims c p (lane_part c p h) ks ns None → word_of it ≡ place_past p ks
      → IsWithin it s.pool
  within_by [] ns (cursor.Head q) path e =
      let same : q ≡ p = cc in omega (arith, same, ps, is.lanes)
  within_by (k ∷ ks) ns (cursor.Past j) path e =
      let same : j ≡ k = cc in
      let below = known.world.within p k
      (on_lane (plan s h is) h is.lawful known.world c p k
      (record { cells = k ∷ ks; notes = ns; held = None; path = path }) (inl refl)) in
      omega (arith, same, below, is.cells)
  within_by [] ns (cursor.Past j) path e = absurd (cc)
  within_by (k ∷ ks) ns (cursor.Head q) path e = absurd (cc)

  -- this consumer's cursor is at a word of the pool
  pub within : IsWithin at s.pool
  within = within_by at_link.cells at_link.notes at at_link.path at_link.word

  -- a consumer that was given these cells may load the link past them
  may_past : (ks : List ℕ) → ((k : ℕ) → Has ks k → Gave k (part (Reader c) (pool_accesses h)))
      → MayRead (plan s h is).lanes (place_past p ks) (part (Reader c) (pool_accesses h))
  may_past [] gave = ps
  may_past (k ∷ ks) gave = gave k (inl refl)

  -- the consumer may load the word at the cursor
  may : MayRead (plan s h is).lanes (word_of at) (part (Reader c) (pool_accesses h))
  may =
      subst (λ (w : Word). MayRead (plan s h is).lanes w (part (Reader c) (pool_accesses h))) (sym at_link.word)
      (may_past at_link.cells (given s h is c p cs ps known at_link.cells at_link.notes None at_link.path))

  -- the value that the word at the cursor holds
  abbrev v : ℕ
  v = value_in (word_of at) (pool_accesses h)

  -- the load of the word at the cursor
  abbrev a : WorldAccess
  a = loaded s h is c p cs ps known (word_of at) may

  -- if the word holds i, a path that goes on with a load of i from the link past the cells met goes on with the load a
  on_link : (held : Option (List ObjectTurn)) (ks : List ℕ) (i : ℕ) → v ≡ i
      → ConsumerPath (plan s h is).claims c p (link_load c p at_link.cells i ∷ lane_part c p h) ks at_link.notes held
      → ConsumerPath (plan s h is).claims c p (a ∷ lane_part c p h) ks at_link.notes held
  on_link held ks i e path =
      subst (λ (j : ℕ). ConsumerPath (plan s h is).claims c p (ToCells (load c (word_of at) j) ∷ lane_part c p h) ks
      at_link.notes held) (sym e)
      (subst (λ (w : Word). ConsumerPath (plan s h is).claims c p (ToCells (load c w i) ∷ lane_part c p h) ks
      at_link.notes held) (sym at_link.word) path)

  -- all notes are still correct after the load
  notes_stay : (held : Option (List ObjectTurn)) (ks : List ℕ)
      (next : ConsumerPath (plan s h is).claims c p (a ∷ lane_part c p h) ks at_link.notes held)
      → AreNotes s h is (a ∷ h) s.notes
  notes_stay held ks next =
      notes_kept s h is c p cs ps a
      (adds s h is c p cs ps known (word_of at) may ks at_link.notes held next)
      (λ e j n. load_keeps (plan s h is).claims c h (word_of at) v e j n (λ _ f. not_item at j f))

  -- if the link leads to cell k, the consumer then holds a new claim there
  pub looked_on : (word k : ℕ) (claim : Claim) → look_of v ≡ look.Cell k → consumer_of claim ≡ c
      → claim_stage claim ≡ stage.Going → IsClaimIn (layout_of s.setup) claim []
      → EventAdds (event.Step c p word) (answer.Looked (look.Cell k)) (with_place c p (At k claim) s) h
  looked_on word k claim tells own going fresh =
      let q = cell_told v k tells in
      let still : IsClaimPrefix (plan s h is).claims c [] stage.Going =
      subst (λ (z : Stage). IsClaimPrefix (plan s h is).claims c [] z) going
      (subst (λ (i : ℕ). IsClaimPrefix (plan s h is).claims i [] (claim_stage claim)) own fresh.prefix) in
      let next = on_link (Some []) (k ∷ at_link.cells) (k + 1) q.0 (finds q.1 still at_link.path) in
      let more = adds s h is c p cs ps known (word_of at) may (k ∷ at_link.cells) at_link.notes (Some []) next in
      load_adds s h is c p cs ps known (word_of at) may (k ∷ at_link.cells) at_link.notes (Some []) next word
      (answer.Looked (look.Cell k)) (slice_set s.places (c * (plan s h is).lanes + p) (At k claim)) s.notes
      (told (plan s h is).claims.cells at v ∙ ap (λ (z : Look). Some (answer.Looked z)) tells)
      (length-set s.places (c * (plan s h is).lanes + p) (At k claim))
      (places_set s h is c p cs ps a more (At k claim)
      (own_place s h is c p cs ps a more (k ∷ at_link.cells) at_link.notes (Some []) (At k claim) next
      (refl, own, fresh)))
      refl (notes_stay (Some []) (k ∷ at_link.cells) next)

  -- if the link leads to no cell, the state stays
  pub looked_in_vain : (word : ℕ) (z : Look) → look_of v ≡ z → ((k : ℕ) → z ≡ look.Cell k → ⊥)
      → EventAdds (event.Step c p word) (answer.Looked z) s h
  looked_in_vain word z tells none =
      let next = on_link None at_link.cells v refl (waits (none_told v (λ k e. none k (sym tells ∙ e))) at_link.path) in
      let more = adds s h is c p cs ps known (word_of at) may at_link.cells at_link.notes None next in
      load_adds s h is c p cs ps known (word_of at) may at_link.cells at_link.notes None next word
      (answer.Looked z) s.places s.notes
      (told (plan s h is).claims.cells at v ∙ ap (λ (y : Look). Some (answer.Looked y)) tells)
      refl
      (places_kept s h is c p cs ps a more (Before at) here
      (own_place s h is c p cs ps a more at_link.cells at_link.notes None (Before at) next at_link.word))
      refl (notes_stay None at_link.cells next)
