-- How the load of an item, by a consumer whose claim is won, changes the state of a world.
use Rattle.std.proofs.Common.{◌≡◌, ℕ, ◌+◌, ◌*◌, ◌<◌, ◌∷◌, Some, None, refl, sym, subst, inl, inr}
use Rattle.std.specs.Prelude.{slice_get, slice_set}
use Rattle.std.proofs.lemmas.List.{length-set}
use Rattle.mb_claim.specs.declared.access.Stage.TheVariants as stage
use Rattle.mb_claim.specs.declared.claim.Claim.{Claim}
use Rattle.mb_claim.specs.OneClaim.{claim_stage}
use Rattle.mb_cells.specs.Memory.{value_in}
use Rattle.mb_cells.specs.declared.cursor.Cursor.TheVariants.{Past}
use Rattle.mb_world.specs.declared.event.Answer.TheVariants as answer
use Rattle.mb_world.specs.declared.event.Event.TheVariants as event
use Rattle.mb_world.specs.declared.report.Note.TheVariants.{Took}
use Rattle.mb_world.specs.declared.place.Place.TheVariants.{At, Before}
use Rattle.mb_world.specs.Vocabulary.{IsClaimPrefix, Item, MayRead, Reader, claim_part, part, consumers_of, WorldAccess, WorldHistory, claim_accesses, lane_part, pool_accesses, ConsumerPath}
use Rattle.mb_world.specs.Vocabulary.{takes, ConsumerAdds, IsWorldAfter, WorldState, EventAdds, with_note, with_place, StepKnown}
use Rattle.mb_world.proofs.HeldStates.{AtCell, at_cell, below, part_is, prefix, unread}
use Rattle.mb_world.proofs.LoadStates.{adds, given, load_adds, loaded}
use Rattle.mb_world.proofs.StateEnds.{HasItem, item_loads, load_keeps, this_load, won_end}
use Rattle.mb_world.proofs.StateSteps.{AreNotes, notes_set, own_place, plan, places_set}

module _ (s : WorldState) (h : WorldHistory) (is : IsWorldAfter h s) (c p : ℕ) (cs : c < consumers_of (plan s h is))
    (ps : p < (plan s h is).lanes) (known : StepKnown s h c p) (k : ℕ) (claim : Claim)
    (here : slice_get s.places (c * (plan s h is).lanes + p) ≡ Some (At k claim))
    (won : claim_stage claim ≡ stage.Won) where
  -- the consumer's path has met cell k last and holds this claim, as its place says
  abbrev at : AtCell s h is c p cs ps known k claim here
  at = at_cell s h is c p cs ps known k claim here

  -- the consumer may load the item
  may : MayRead (plan s h is).lanes (Item k) (part (Reader c) (pool_accesses h))
  may = given s h is c p cs ps known (k ∷ at.cells) at.notes (Some at.steps) at.path k (inl refl)

  -- the value that the item's word holds
  abbrev v : ℕ
  v = value_in (Item k) (pool_accesses h)

  -- the load of the item
  abbrev a : WorldAccess
  a = loaded s h is c p cs ps known (Item k) may

  -- with that load the consumer's path has the note that it took the item, and holds no claim
  next : ConsumerPath (plan s h is).claims c p (a ∷ lane_part c p h) (k ∷ at.cells) (Took v ∷ at.notes) None
  next = takes (prefix s h is c p cs ps known k claim here stage.Won won) at.path

  -- the history with the load is lawful, and only the part of consumer c on lane p changes: it has the load more
  abbrev more : ConsumerAdds (plan s h is) c p a h
  more = adds s h is c p cs ps known (Item k) may (k ∷ at.cells) (Took v ∷ at.notes) None next

  -- the consumer's part on the cell says that its claim is won
  is_won : IsClaimPrefix (plan s h is).claims c (claim_part c k (claim_accesses h)) stage.Won
  is_won =
      subst (λ xs. IsClaimPrefix (plan s h is).claims c xs stage.Won)
      (sym (part_is s h is c p cs ps known k claim here))
      (prefix s h is c p cs ps known k claim here stage.Won won)

  -- with the load, the consumer has loaded no value but v from the item's word
  only : (u : ℕ) → HasItem (plan s h is).claims (a ∷ h) c k u → v ≡ u
  only u read = elim (item_loads (plan s h is).claims c h (Item k) v c k u read) [
    | inl older ↦ absurd (unread s h is c p cs ps known k claim here u older)
    | inr new ↦ new.2
  ]

  -- if the note that the item was taken is written, all notes are correct after the load
  noted : AreNotes s h is (a ∷ h) (slice_set s.notes (c * (plan s h is).claims.cells + k) (Some (Took v)))
  noted =
      notes_set s h is c p cs ps a more k (below s h is c p cs ps known k claim here) (Took v)
      (is_won, this_load (plan s h is).claims c h (Item k) v k refl)
      (λ n e. won_end (plan s h is).claims c k (a ∷ h)
      (λ z r. known.world.stage c (claim_part c k (claim_accesses h)) z r) v n is_won only e)
      (λ e j n other. load_keeps (plan s h is).claims c h (Item k) v e j n
      (λ own same. let f : k ≡ j = cc in other own (sym f)))

  -- the load leaves the state with that note, and with the consumer's place past the cell
  pub took : (word : ℕ) → EventAdds (event.Step c p word) (answer.Took k v)
      (with_note c k (Took v) (with_place c p (Before (Past k)) s)) h
  took word =
      load_adds s h is c p cs ps known (Item k) may (k ∷ at.cells) (Took v ∷ at.notes) None next word
      (answer.Took k v) (slice_set s.places (c * (plan s h is).lanes + p) (Before (Past k)))
      (slice_set s.notes (c * (plan s h is).claims.cells + k) (Some (Took v))) refl
      (length-set s.places (c * (plan s h is).lanes + p) (Before (Past k)))
      (places_set s h is c p cs ps a more (Before (Past k))
      (own_place s h is c p cs ps a more (k ∷ at.cells) (Took v ∷ at.notes) None (Before (Past k)) next refl))
      (length-set s.notes (c * (plan s h is).claims.cells + k) (Some (Took v))) noted
