use Rattle.std.proofs.Common.{◌≡◌, ◌≢◌, ◌⊎◌, ℕ, zero, suc, Bool, false, List, [], ◌∷◌, length, reverse, refl, sym, ap, ◌∙◌, inl, inr, arith}
use Rattle.std.specs.Prelude.{Option, Some, None, slice_get, slice_set}
use Rattle.std.specs.Option.{option_map_or}
use Rattle.std.proofs.lemmas.List.{length-reverse}
use Rattle.mb_mailbox.specs.Imports.{Claim, Note, cells_met, claims_in}
use Rattle.mb_mailbox.specs.Consumers.{ConsumerView, IsConsumer, parts_of}
use Rattle.mb_world.specs.Places.{has_begun_at}
use Rattle.mb_mailbox.specs.Gathering.{kept_at}
use Rattle.mb_mailbox.specs.Hubs.{ConsumerRecordView, record_of}
use Rattle.mb_mailbox.specs.Steps.{HasNoteOnEach, notes_on}
use Rattle.mb_world.specs.declared.place.Place.{Place}
use Rattle.mb_world.specs.declared.place.Place.TheVariants.{At, Before}
use Rattle.mb_mailbox.proofs.Moving.{holds}
use Rattle.mb_mailbox.proofs.Standings.{same_length}
use Rattle.mb_mailbox.proofs.laws.noted_lanes_hold_no_claim.Goals as goal

-- a consumer with a note on each cell that it met on a lane holds no claim there: a held claim's cell has no note
no_claim : (s : ConsumerView) (p k : ℕ) (claim : Claim) → IsConsumer s → HasNoteOnEach p s
    → slice_get s.places p ≢ Some (At k claim)
no_claim s p k claim i each at =
    let held = holds s p k claim i at in
    let cs = claims_in i.size.layout i.size.cells in
    let on : notes_on p s.notes ≡ held.0 =
    ap (λ (z : Option (List Note)). option_map_or (λ (l : List Note). l) z []) held.1 in
    let ends : length (reverse held.0) ≡ length held.2.cells =
    same_length cs s.seat.consumer held.2.cells (reverse held.0)
    (parts_of s.reader s.seat) held.2.ended in
    let notes : length (notes_on p s.notes) ≡ length held.2.cells =
    ap length on ∙ sym (length-reverse held.0) ∙ ends in
    let met : length (cells_met p s.reader.part) ≡ suc (length held.2.cells) =
    ap length held.2.met in
    omega (arith, each, notes, met)

pub returns-clause-place : goal.returns-clause-place
returns-clause-place c = no_claim

-- if a consumer has a note on each cell that it met on a lane, no claim is begun there: its place is before a link
none_begun : (s : ConsumerView) (p : ℕ) → IsConsumer s → HasNoteOnEach p s
    → option_map_or has_begun_at (slice_get s.places p) false ≡ false
none_begun s p i each = by (slice_get s.places p) refl
  where
    by : (o : Option Place) → slice_get s.places p ≡ o → option_map_or has_begun_at o false ≡ false
    by None e = refl
    by (Some (Before at)) e = refl
    by (Some (At k claim)) e = absurd (no_claim s p k claim i each e)

-- after element n is set to x, the list has x there, or it has no element n
kept_there : {X : Type 0} (xs : List (Option X)) (n : ℕ) (x : X)
    → (kept_at (slice_set xs n (Some x)) n ≡ Some x) ⊎ (kept_at (slice_set xs n (Some x)) n ≡ None)
kept_there [] n x = inr refl
kept_there (y ∷ ys) zero x = inl refl
kept_there (y ∷ ys) (suc n) x = kept_there ys n x

pub returns-clause-begun : goal.returns-clause-begun
returns-clause-begun c h s p i each =
    elim (kept_there h.records s.seat.consumer (record_of s)) [
      | inl kept ↦ ap begun_by kept ∙ none_begun s p i each
      | inr none ↦ ap begun_by none
    ]
  where
    begun_by : Option ConsumerRecordView → Bool
    begun_by o =
        option_map_or (λ (l : ConsumerRecordView). option_map_or has_begun_at (slice_get l.places p) false)
        o false
