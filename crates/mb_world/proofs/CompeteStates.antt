-- How a step of a consumer's claim changes the state of a world.
use Rattle.std.proofs.Common.{◌≡◌, ◌↔◌, ◌⊎◌, ℕ, ◌+◌, ◌*◌, ◌<◌, List, ◌∷◌, length, Option, Some, None, refl, sym, ◌∙◌, ap, subst, inl, inr, slice_get, slice_set}
use Rattle.std.proofs.lemmas.Bool.{cases_eq}
use Rattle.mb_claim.specs.declared.access.Stage.TheVariants as stage
use Rattle.mb_claim.specs.declared.claim.Claim.{Claim}
use Rattle.mb_claim.specs.Vocabulary.{part_on, IsClaimIn, IsClaimOn, claim_access, claim_stage, consumer_of, IsMemoryOf}
use Rattle.mb_cells.specs.declared.cursor.Cursor.TheVariants.{Past}
use Rattle.mb_world.specs.declared.event.Answer.TheVariants as answer
use Rattle.mb_world.specs.declared.event.Event.TheVariants as event
use Rattle.mb_world.specs.Vocabulary.{Note, Place, ClaimAccess, IsClaimPrefix, ObjectTurn, Stage, claim_part, consumers_of, layout_of, WorldAccess, WorldHistory, claim_accesses, lane_part}
use Rattle.mb_world.specs.Vocabulary.{ConsumerPath, claim_step, ends, goes, note_of, ConsumerAdds, IsTrueTo, IsPlaceAt, IsWorldAfter, WorldState, place_after, EventAdds, with_note_if}
use Rattle.mb_world.specs.Vocabulary.{with_place, StepKnown}
use Rattle.mb_world.specs.declared.report.Note.TheVariants.{Lost, Undecided}
use Rattle.mb_world.specs.declared.place.Place.TheVariants.{At, Before}
use Rattle.mb_world.specs.ConsumerPath as path
use Rattle.mb_world.proofs.Claimed.{part-own}
use Rattle.mb_world.proofs.HeldStates.{AtCell, at_cell, below, part_is, prefix, unread}
use Rattle.mb_world.proofs.StateEnds.{Ends, going_open, lost_end, step_keeps, undecided_end, won_open}
use Rattle.mb_world.proofs.StateSteps.{AreNotes, notes_count, notes_kept, notes_set, own_place, plan, places_count, places_set, state_after}

module _ (s : WorldState) (h : WorldHistory) (is : IsWorldAfter h s) (c p : ℕ) (cs : c < consumers_of (plan s h is))
    (ps : p < (plan s h is).lanes) (known : StepKnown s h c p) (k : ℕ) (claim : Claim)
    (here : slice_get s.places (c * (plan s h is).lanes + p) ≡ Some (At k claim))
    (going : claim_stage claim ≡ stage.Going) (words : List ℕ) (now : Claim) (x : ObjectTurn)
    (keeps : consumer_of now ≡ consumer_of claim)
    (made : IsClaimOn (layout_of s.setup) (plan s h is).claims.cells k now words
    (claim_access claim k x ∷ claim_accesses h)) where
  -- the consumer's path has met cell k last and holds this claim, as its place says
  abbrev at : AtCell s h is c p cs ps known k claim here
  at = at_cell s h is c p cs ps known k claim here

  -- the step of the claim, as an access of the world
  abbrev a : WorldAccess
  a = claim_step c k x

  -- the step of the claim, as an access to the claims
  abbrev step : ClaimAccess
  step = path.claim_access c k x

  -- the words are those that the longer history of the claims leaves
  memory : IsMemoryOf (plan s h is).claims words (claim_accesses (a ∷ h))
  memory =
      subst (λ (i : ℕ). IsMemoryOf (plan s h is).claims words (path.claim_access i k x ∷ claim_accesses h)) at.own
      made.memory

  -- the consumer's part on the cell is its steps before, and this one
  part_now : claim_part c k (claim_accesses (a ∷ h)) ≡ x ∷ at.steps
  part_now =
      part-own c k step (claim_accesses h) refl refl
      ∙ ap (λ xs. x ∷ xs) (part_is s h is c p cs ps known k claim here)

  -- after the step the claim is still one of consumer c
  own_now : consumer_of now ≡ c
  own_now = keeps ∙ at.own

  -- after the step the claim has made the consumer's steps before, and this one
  is_in : IsClaimIn (layout_of s.setup) now (x ∷ at.steps)
  is_in =
      subst (λ (xs : List ObjectTurn). IsClaimIn (layout_of s.setup) now xs)
      (ap (λ (i : ℕ). part_on i k (claim_access claim k x ∷ claim_accesses h)) own_now
      ∙ (ap (λ (i : ℕ). part_on c k (path.claim_access i k x ∷ claim_accesses h)) at.own ∙ part_now)) made.standing

  -- with this step, the consumer's steps are a prefix of a claim path, with the stage of the claim after the step
  prefix_now : (r : Stage) → claim_stage now ≡ r → IsClaimPrefix (plan s h is).claims c (x ∷ at.steps) r
  prefix_now r e =
      subst (λ (z : Stage). IsClaimPrefix (plan s h is).claims c (x ∷ at.steps) z) e
      (subst (λ (i : ℕ). IsClaimPrefix (plan s h is).claims i (x ∷ at.steps) (claim_stage now)) own_now is_in.prefix)

  -- the access is true to memory, and its values and its random word are below 2^64
  truth : IsTrueTo a h
  truth = (memory.lawful.words.0, memory.lawful.memory.0)

  -- by the consumer's part, the claim goes on before the step
  was_going : IsClaimPrefix (plan s h is).claims c (claim_part c k (claim_accesses h)) stage.Going
  was_going =
      subst (λ xs. IsClaimPrefix (plan s h is).claims c xs stage.Going)
      (sym (part_is s h is c p cs ps known k claim here)) (prefix s h is c p cs ps known k claim here stage.Going going)

  -- after the step, the consumer's part on the cell has the stage of the claim
  is_now : (r : Stage) → claim_stage now ≡ r
      → IsClaimPrefix (plan s h is).claims c (claim_part c k (claim_accesses (a ∷ h))) r
  is_now r e = subst (λ xs. IsClaimPrefix (plan s h is).claims c xs r) (sym part_now) (prefix_now r e)

  -- the consumer's part on the cell has at most one stage
  one_stage : (g : WorldHistory) (z r : Stage)
      → IsClaimPrefix (plan s h is).claims c (claim_part c k (claim_accesses g)) z
      → IsClaimPrefix (plan s h is).claims c (claim_part c k (claim_accesses g)) r → z ≡ r
  one_stage g z r = known.world.stage c (claim_part c k (claim_accesses g)) z r

  -- if after the step no note says how the claim has ended, each claim has ended as just the same notes say as before
  ends_stay : ((n : Note) → Ends (plan s h is).claims (a ∷ h) c k n → ⊥) → (e j : ℕ) (n : Note)
      → Ends (plan s h is).claims h e j n ↔ Ends (plan s h is).claims (a ∷ h) e j n
  ends_stay still e j n = by (cases_eq e c) (cases_eq j k)
    where
      none : Ends (plan s h is).claims h c k n → ⊥
      none = going_open (plan s h is).claims c k h (one_stage h) n was_going

      by : (e ≡ c) ⊎ (e ≡ c → ⊥) → (j ≡ k) ⊎ (j ≡ k → ⊥)
          → Ends (plan s h is).claims h e j n ↔ Ends (plan s h is).claims (a ∷ h) e j n
      by (inl f) (inl g) = (
        λ y. absurd (none (subst (λ (i : ℕ). Ends (plan s h is).claims h c i n) g
            (subst (λ (i : ℕ). Ends (plan s h is).claims h i j n) f y))),
        λ y. absurd (still n (subst (λ (i : ℕ). Ends (plan s h is).claims (a ∷ h) c i n) g
            (subst (λ (i : ℕ). Ends (plan s h is).claims (a ∷ h) i j n) f y))),
      )
      by (inr m) g = step_keeps (plan s h is).claims c h k x e j n (λ f _. m f)
      by (inl f) (inr m) = step_keeps (plan s h is).claims c h k x e j n (λ _ g. m g)

  -- the state after the step, if the path goes on to these cells, notes and claim
  module _ (r : Stage) (stage_is : claim_stage now ≡ r) (word : ℕ) (random : x.turn.word ≡ word)
      (ks : List ℕ) (ns : List Note) (held : Option (List ObjectTurn)) (d : Place)
      (next : ConsumerPath (plan s h is).claims c p (a ∷ lane_part c p h) ks ns held)
      (placed : IsPlaceAt (layout_of s.setup) c p ks held d) where
    -- the history with the access is lawful, and only the part of consumer c on lane p changes: it has the access more
    pub adds : ConsumerAdds (plan s h is) c p a h
    adds = known.goes a ks ns held truth next

    -- if the notes are correct after the access, the event leaves the state with them, the new words and the new place
    claim_adds : (notes : List (Option Note)) → length notes ≡ consumers_of (plan s h is) * (plan s h is).claims.cells
        → AreNotes s h is (a ∷ h) notes
        → EventAdds (event.Step c p word) (answer.Claimed k x.object x.turn.act r)
        (record {
          setup = s.setup;
          pool = s.pool;
          words = words;
          places = slice_set s.places (c * (plan s h is).lanes + p) d;
          notes = notes;
        }) h
    claim_adds notes count are_notes = record {
      access = Some a;
      entry = (
        (adds.maker, adds.on, random),
        (
          r,
          subst (λ xs. IsClaimPrefix (plan s h is).claims c (x ∷ xs) r)
              (sym (part_is s h is c p cs ps known k claim here)) (prefix_now r stage_is),
          refl,
        ),
        adds.lawful,
      );
      left = state_after s h is c p cs ps a adds words (slice_set s.places (c * (plan s h is).lanes + p) d) notes
          is.pool memory (places_count s h is c p cs ps a adds d)
          (places_set s h is c p cs ps a adds d (own_place s h is c p cs ps a adds ks ns held d next placed)) count
          are_notes;
    }

    -- if no note says how the claim has ended, the event leaves the state with the notes as they were
    pub keeps_notes : ((n : Note) → Ends (plan s h is).claims (a ∷ h) c k n → ⊥)
        → EventAdds (event.Step c p word) (answer.Claimed k x.object x.turn.act r)
        (with_place c p d (record s { words = words })) h
    keeps_notes still = claim_adds s.notes is.notes_count (notes_kept s h is c p cs ps a adds (ends_stay still))

    -- if the claim has ended as note n says, and as no other note says, the event leaves the state with note n written
    pub sets_note : (n : Note) → Ends (plan s h is).claims (a ∷ h) c k n
        → ((m : Note) → Ends (plan s h is).claims (a ∷ h) c k m → n ≡ m)
        → EventAdds (event.Step c p word) (answer.Claimed k x.object x.turn.act r)
        (with_note_if c k (Some n) (with_place c p d (record s { words = words }))) h
    sets_note n end only =
        claim_adds (slice_set s.notes (c * (plan s h is).claims.cells + k) (Some n))
        (notes_count s h is c p cs ps a adds k (below s h is c p cs ps known k claim here) n)
        (notes_set s h is c p cs ps a adds k (below s h is c p cs ps known k claim here) n end only
        (λ e j m other. step_keeps (plan s h is).claims c h k x e j m other))

  -- the step leaves the new words, the place that the stage gives, and the note of the stage if it has one
  pub competed : (r : Stage) → claim_stage now ≡ r → (word : ℕ) → x.turn.word ≡ word
      → EventAdds (event.Step c p word) (answer.Claimed k x.object x.turn.act r)
      (with_note_if c k (note_of r) (with_place c p (place_after k now r) (record s { words = words }))) h
  competed stage.Going e word random =
      keeps_notes stage.Going e word random (k ∷ at.cells) at.notes (Some (x ∷ at.steps)) (At k now)
      (goes stage.Going (prefix_now stage.Going e) refl at.path) (refl, own_now, is_in)
      (λ n. going_open (plan s h is).claims c k (a ∷ h) (one_stage (a ∷ h)) n (is_now stage.Going e))
  competed stage.Won e word random =
      keeps_notes stage.Won e word random (k ∷ at.cells) at.notes (Some (x ∷ at.steps)) (At k now)
      (goes stage.Won (prefix_now stage.Won e) refl at.path) (refl, own_now, is_in)
      (λ n. won_open (plan s h is).claims c k (a ∷ h) (one_stage (a ∷ h)) n (is_now stage.Won e)
      (unread s h is c p cs ps known k claim here))
  competed (stage.Lost w) e word random =
      sets_note (stage.Lost w) e word random (k ∷ at.cells) (Lost w ∷ at.notes) None (Before (Past k))
      (ends (stage.Lost w) (prefix_now (stage.Lost w) e) refl at.path) refl (Lost w) (is_now (stage.Lost w) e)
      (λ n. lost_end (plan s h is).claims c k (a ∷ h) (one_stage (a ∷ h)) w n (is_now (stage.Lost w) e))
  competed stage.Undecided e word random =
      sets_note stage.Undecided e word random (k ∷ at.cells) (Undecided ∷ at.notes) None (Before (Past k))
      (ends stage.Undecided (prefix_now stage.Undecided e) refl at.path) refl Undecided (is_now stage.Undecided e)
      (λ n. undecided_end (plan s h is).claims c k (a ∷ h) (one_stage (a ∷ h)) n (is_now stage.Undecided e))
