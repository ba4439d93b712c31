-- The state after a step of a claim, in the form in which the code writes its place and its note.
use Rattle.std.proofs.Common.{◌≡◌, ℕ, ◌+◌, ◌*◌, ◌<◌, List, Option, Some, None, refl, sym, ◌∙◌, ap, subst, get_or}
use Rattle.std.specs.Prelude.{slice_set}
use Rattle.std.proofs.lemmas.List.{set-set}
use Rattle.std.proofs.lemmas.Option.{get_or_from_slice_get, slice_get_read}
use Rattle.mb_deciding.specs.declared.access.Act.{Act}
use Rattle.mb_claim.specs.declared.access.Stage.TheVariants as stage
use Rattle.mb_claim.specs.declared.claim.Claim.{Claim}
use Rattle.mb_claim.specs.OneClaim.{claim_stage}
use Rattle.mb_cells.specs.declared.cursor.Cursor.TheVariants.{Past}
use Rattle.mb_world.specs.declared.event.Answer.TheVariants as answer
use Rattle.mb_world.specs.declared.event.Event.TheVariants as event
use Rattle.mb_world.specs.Vocabulary.{Note, Place, Stage, consumers_of, plan_in, WorldHistory, note_of, IsWorldAfter, WorldState, place_after, EventAdds, HasPlace, with_note_if, with_place}
use Rattle.mb_world.specs.Vocabulary.{with_words}
use Rattle.mb_world.specs.declared.place.Place.TheVariants.{At, Before}
use Rattle.mb_world.proofs.NewWorlds.{position_within}

-- if a claim is lost or undecided after a step, the consumer's place is then past cell k
past_cell : (k : ℕ) (now : Claim) (z : Stage) (n : Note) → note_of z ≡ Some n → place_after k now z ≡ Before (Past k)
past_cell k now stage.Going n e = absurd (cc)
past_cell k now stage.Won n e = absurd (cc)
past_cell k now (stage.Lost w) n e = refl
past_cell k now stage.Undecided n e = refl

-- if a claim goes on or is won after a step, the consumer's place is then at cell k, with the claim
at_cell : (k : ℕ) (now : Claim) (z : Stage) → note_of z ≡ None → place_after k now z ≡ At k now
at_cell k now stage.Going e = refl
at_cell k now stage.Won e = refl
at_cell k now (stage.Lost w) e = absurd (cc)
at_cell k now stage.Undecided e = absurd (cc)

-- the place that the code reads at the position of consumer c and lane p is the place of c on p
pub place_found : (s : WorldState) (h : WorldHistory) → IsWorldAfter h s → (c p lanes : ℕ)
    → c < consumers_of (plan_in s.setup) → p < (plan_in s.setup).lanes → lanes ≡ (plan_in s.setup).lanes → (d : Place)
    → d ≡ get_or s.places (c * lanes + p) d → HasPlace c p d s
place_found s h is c p lanes cs ps lanes_is d reads = record {
  consumer = cs;
  lane = ps;
  place = slice_get_read s.places (consumers_of (plan_in s.setup) * (plan_in s.setup).lanes)
      (c * (plan_in s.setup).lanes + p) d (sym is.places_count)
      (position_within c p (consumers_of (plan_in s.setup)) (plan_in s.setup).lanes cs ps)
      (reads ∙ ap (λ (l : ℕ). get_or s.places (c * l + p) d) lanes_is);
}

-- if a consumer's place holds a claim, the cell and the claim that are read at its position are those of the place
pub place_read : (s : WorldState) (c p k cell lanes : ℕ) (claim read : Claim) (d : Place)
    → HasPlace c p (At k claim) s → lanes ≡ (plan_in s.setup).lanes
    → d ≡ get_or s.places (c * lanes + p) d → d ≡ At cell read → (cell ≡ k) × (read ≡ claim)
place_read s c p k cell lanes claim read d has lanes_is is reads =
    let there = get_or_from_slice_get s.places (c * (plan_in s.setup).lanes + p) (At k claim) d has.place in
    let same : At cell read ≡ At k claim =
    sym reads ∙ (is ∙ (ap (λ (l : ℕ). get_or s.places (c * l + p) d) lanes_is ∙ there)) in
    (cc, cc)

module _ {h : WorldHistory} {c p word k object : ℕ} {act : Act} {z : Stage}
    (s : WorldState) (now : Claim) (words : List ℕ) (stage_is : z ≡ claim_stage now)
    (adds : EventAdds (event.Step c p word) (answer.Claimed k object act (claim_stage now))
    (with_note_if c k (note_of (claim_stage now))
    (with_place c p (place_after k now (claim_stage now)) (with_words words s))) h) where
  -- the event leaves the state with the place and the note of stage z, the stage of the claim after the step
  by_stage : EventAdds (event.Step c p word) (answer.Claimed k object act z)
      (with_note_if c k (note_of z) (with_place c p (place_after k now z) (with_words words s))) h
  by_stage =
      subst (λ (y : Stage). EventAdds (event.Step c p word) (answer.Claimed k object act y)
      (with_note_if c k (note_of y) (with_place c p (place_after k now y) (with_words words s))) h) (sym stage_is) adds

  -- the event leaves the state with place d and note o, if these are the place and the note of stage z
  by_note : (o : Option Note) (d : Place) → note_of z ≡ o → place_after k now z ≡ d
      → EventAdds (event.Step c p word) (answer.Claimed k object act z)
      (with_note_if c k o (with_place c p d (with_words words s))) h
  by_note o d is at =
      subst (λ (q : Option Note). EventAdds (event.Step c p word) (answer.Claimed k object act z)
      (with_note_if c k q (with_place c p d (with_words words s))) h) is
      (subst (λ (e : Place). EventAdds (event.Step c p word) (answer.Claimed k object act z)
      (with_note_if c k (note_of z) (with_place c p e (with_words words s))) h) at by_stage)

  -- if the claim has a note, the event leaves the state that the code writes: the claim at its place, then over it
  -- the place past the cell, and the note
  pub noted : (cell : ℕ) {lanes cells : ℕ} {o : Option Note} {n : Note} → lanes ≡ (plan_in s.setup).lanes
      → cells ≡ (plan_in s.setup).claims.cells → o ≡ note_of z → o ≡ Some n
      → EventAdds (event.Step c p word) (answer.Claimed k object act z) (record s {
        words = words;
        places = slice_set (slice_set s.places (c * lanes + p) (At cell now)) (c * lanes + p) (Before (Past k));
        notes = slice_set s.notes (c * cells + k) (Some n);
      }) h
  noted cell {n = n} lanes_is cells_is is some =
      let note = sym is ∙ some in
      rw (
        lanes_is,
        cells_is,
        set-set s.places (c * (plan_in s.setup).lanes + p)
            (At cell now) (Before (Past k)),
      )
      (by_note (Some n) (Before (Past k)) note (past_cell k now z n note))

  -- if the claim has no note, the event leaves the state that the code writes: the claim at its place, and no more
  pub unnoted : {cell lanes : ℕ} → cell ≡ k → lanes ≡ (plan_in s.setup).lanes
      → (o : Option Note) → o ≡ note_of z → ((n : Note) → o ≡ Some n → ⊥)
      → EventAdds (event.Step c p word) (answer.Claimed k object act z)
      (record s { words = words; places = slice_set s.places (c * lanes + p) (At cell now) }) h
  unnoted cell_is lanes_is None is none =
      rw (lanes_is, cell_is) (by_note None (At k now) (sym is) (at_cell k now z (sym is)))
  unnoted cell_is lanes_is (Some n) is none = absurd (none n refl)
