-- The state of a world after one more access of a consumer: which places and notes stay, and which are written.
use Rattle.std.proofs.Common.{◌≡◌, ◌↔◌, ◌⊎◌, ℕ, ◌+◌, ◌*◌, ◌<◌, List, ◌∷◌, length, Option, Some, sym, ◌∙◌, subst, inl, inr}
use Rattle.std.specs.Prelude.{slice_get, slice_set}
use Rattle.std.proofs.lemmas.Bool.{cases_eq}
use Rattle.std.proofs.lemmas.List.{length-set}
use Rattle.mb_claim.specs.States.{IsMemoryOf}
use Rattle.mb_cells.specs.State.{IsAfter}
use Rattle.mb_world.specs.Vocabulary.{Answer, Event, Note, Place, ObjectTurn, Plan, consumers_of, layout_of, plan_in, WorldAccess, WorldHistory, claim_accesses, lane_part, pool_accesses}
use Rattle.mb_world.specs.Vocabulary.{ConsumerPath, ConsumerAdds, IsNoteAfter, IsPlaceAfter, IsPlaceAt, WorldIsSound, IsWorldAfter, WorldState, with_access, EventAdds}
use Rattle.mb_world.proofs.StateEnds.{Ends}
use Rattle.mb_world.proofs.Grids.{HasAll, all_kept, all_set}

-- two elements found at one position are equal
one_there : {X : Type 0} (o : Option X) (x y : X) → o ≡ Some x → o ≡ Some y → x ≡ y
one_there o x y e f = let both : Some x ≡ Some y = sym e ∙ f in cc

-- after an event, some lawful history leaves the state
pub still_sound : (e : Event) (r : Answer) (now : WorldState) (h : WorldHistory)
    → EventAdds e r now h → WorldIsSound now
still_sound e r now h adds = (with_access adds.access h, adds.left)

module _ (s : WorldState) (h : WorldHistory) (is : IsWorldAfter h s) where
  -- the plan of the world
  abbrev pub plan : Plan
  plan = plan_in s.setup

  -- the position of the place of consumer c on lane p
  abbrev pub place_position : ℕ → ℕ → ℕ
  place_position c p = c * plan.lanes + p

  -- the position of the note of consumer c on cell k
  abbrev pub note_position : ℕ → ℕ → ℕ
  note_position c k = c * plan.claims.cells + k

  -- the list has the place of each consumer on each lane after the history
  abbrev pub ArePlaces : WorldHistory → List Place → Type 0
  ArePlaces g ds = HasAll (consumers_of plan) plan.lanes (λ c p d. IsPlaceAfter s.setup c p g d) ds

  -- the list has the note of each consumer on each cell after the history, or `None` for none
  abbrev pub AreNotes : WorldHistory → List (Option Note) → Type 0
  AreNotes g os = HasAll (consumers_of plan) plan.claims.cells (λ c k o. IsNoteAfter s.setup c k g o) os

  -- the state's place at the position of c and p is that of consumer c on lane p after the history
  pub place_here : (c p : ℕ) (d : Place) → c < consumers_of plan → p < plan.lanes
      → slice_get s.places (place_position c p) ≡ Some d → IsPlaceAfter s.setup c p h d
  place_here c p d cs ps at =
      let old = is.place c p cs ps in
      subst (λ (e : Place). IsPlaceAfter s.setup c p h e)
      (one_there (slice_get s.places (place_position c p)) old.0 d old.1 at) old.2

  -- at the position of c and k the state has the note of consumer c on cell k after the history, or `None`
  pub note_here : (c k : ℕ) → c < consumers_of plan → k < plan.claims.cells
      → (o : Option Note) × (slice_get s.notes (note_position c k) ≡ Some o) × IsNoteAfter s.setup c k h o
  note_here c k cs ks = is.note c k cs ks

  module _ (c p : ℕ) (cs : c < consumers_of plan) (ps : p < plan.lanes) (a : WorldAccess)
      (adds : ConsumerAdds plan c p a h) where
    -- ---- the places after the access
    -- the place of another consumer or on another lane is still correct after the access
    other_place : (e q : ℕ) (x : Place) → (e ≡ c → q ≡ p → ⊥) → IsPlaceAfter s.setup e q h x
        → IsPlaceAfter s.setup e q (a ∷ h) x
    other_place e q x other y = record {
      cells = y.cells;
      notes = y.notes;
      held = y.held;
      path = subst (λ (l : WorldHistory). ConsumerPath plan.claims e q l y.cells y.notes y.held)
          (sym (adds.others e q other)) y.path;
      is = y.is;
    }

    -- the consumer's place on the lane after the access is the one to which its path then leads
    pub own_place : (ks : List ℕ) (ns : List Note) (held : Option (List ObjectTurn)) (d : Place)
        → ConsumerPath plan.claims c p (a ∷ lane_part c p h) ks ns held → IsPlaceAt (layout_of s.setup) c p ks held d
        → IsPlaceAfter s.setup c p (a ∷ h) d
    own_place ks ns held d next at = record {
      cells = ks;
      notes = ns;
      held = held;
      path = subst (λ (l : WorldHistory). ConsumerPath plan.claims c p l ks ns held) (sym adds.own) next;
      is = at;
    }

    -- if the old place of consumer c on lane p is correct after the access, all old places are
    pub places_kept : (d : Place) → slice_get s.places (place_position c p) ≡ Some d
        → IsPlaceAfter s.setup c p (a ∷ h) d
        → ArePlaces (a ∷ h) s.places
    places_kept d at now =
        all_kept (consumers_of plan) plan.lanes (λ e q x. IsPlaceAfter s.setup e q h x)
        (λ e q x. IsPlaceAfter s.setup e q (a ∷ h) x) s.places is.place keeps
      where
        -- each old place is correct after the access: that of consumer c on lane p, and the others, which stay
        keeps : (e q : ℕ) (x : Place) → e < consumers_of plan → q < plan.lanes
            → slice_get s.places (place_position e q) ≡ Some x → IsPlaceAfter s.setup e q h x
            → IsPlaceAfter s.setup e q (a ∷ h) x
        keeps e q x es qs there old = by (cases_eq e c) (cases_eq q p)
          where
            by : (e ≡ c) ⊎ (e ≡ c → ⊥) → (q ≡ p) ⊎ (q ≡ p → ⊥) → IsPlaceAfter s.setup e q (a ∷ h) x
            by (inl f) (inl g) =
                let here : slice_get s.places (place_position c p) ≡ Some x =
                subst (λ (i : ℕ). slice_get s.places (place_position c i) ≡ Some x) g
                (subst (λ (i : ℕ). slice_get s.places (place_position i q) ≡ Some x) f there) in
                let own : IsPlaceAfter s.setup c p (a ∷ h) x =
                subst (λ (y : Place). IsPlaceAfter s.setup c p (a ∷ h) y)
                (one_there (slice_get s.places (place_position c p)) d x at here) now in
                subst (λ (i : ℕ). IsPlaceAfter s.setup i q (a ∷ h) x) (sym f)
                (subst (λ (i : ℕ). IsPlaceAfter s.setup c i (a ∷ h) x) (sym g) own)
            by (inr n) g = other_place e q x (λ f _. n f) old
            by (inl f) (inr n) = other_place e q x (λ _ g. n g) old

    -- if a place of consumer c on lane p is written that is correct after the access, all places are then correct
    pub places_set : (d : Place) → IsPlaceAfter s.setup c p (a ∷ h) d
        → ArePlaces (a ∷ h) (slice_set s.places (place_position c p) d)
    places_set d now =
        all_set (consumers_of plan) plan.lanes (λ e q x. IsPlaceAfter s.setup e q h x)
        (λ e q x. IsPlaceAfter s.setup e q (a ∷ h) x) s.places is.place c p cs ps is.places_count d now
        (λ e q x _ _ other old. other_place e q x other old)

    -- if one place is written, the number of places stays
    pub places_count : (d : Place) → length (slice_set s.places (place_position c p) d) ≡ consumers_of plan * plan.lanes
    places_count d = length-set s.places (place_position c p) d ∙ is.places_count

    -- ---- the notes after the access
    -- a note is still correct after the access, if its claim has then ended as just the same notes say as before
    note_kept : (e j : ℕ) (o : Option Note) → ((n : Note) → Ends plan.claims h e j n ↔ Ends plan.claims (a ∷ h) e j n)
        → IsNoteAfter s.setup e j h o → IsNoteAfter s.setup e j (a ∷ h) o
    note_kept e j o same old n = ((λ f. (same n).0 ((old n).0 f)), (λ f. (old n).1 ((same n).1 f)))

    -- if each claim has ended as just the same notes say as before, all notes are still correct after the access
    pub notes_kept : ((e j : ℕ) (n : Note) → Ends plan.claims h e j n ↔ Ends plan.claims (a ∷ h) e j n)
        → AreNotes (a ∷ h) s.notes
    notes_kept same =
        all_kept (consumers_of plan) plan.claims.cells (λ e j o. IsNoteAfter s.setup e j h o)
        (λ e j o. IsNoteAfter s.setup e j (a ∷ h) o) s.notes is.note
        (λ e j o _ _ _ old. note_kept e j o (same e j) old)

    -- the note of consumer c on cell k is written
    module _ (k : ℕ) (ks : k < plan.claims.cells) (n : Note) where
      -- if that note is the end of the claim, and all other ends stay, all notes are correct after the access
      pub notes_set : Ends plan.claims (a ∷ h) c k n → ((m : Note) → Ends plan.claims (a ∷ h) c k m → n ≡ m)
          → ((e j : ℕ) (m : Note) → (e ≡ c → j ≡ k → ⊥) → Ends plan.claims h e j m ↔ Ends plan.claims (a ∷ h) e j m)
          → AreNotes (a ∷ h) (slice_set s.notes (note_position c k) (Some n))
      notes_set now only same =
          all_set (consumers_of plan) plan.claims.cells (λ e j o. IsNoteAfter s.setup e j h o)
          (λ e j o. IsNoteAfter s.setup e j (a ∷ h) o) s.notes is.note c k cs ks is.notes_count (Some n) written
          (λ e j o _ _ other old. note_kept e j o (λ m. same e j m other) old)
        where
          -- after the access the claim of consumer c on cell k has ended as the written note says, and as no other
          written : IsNoteAfter s.setup c k (a ∷ h) (Some n)
          written m = (
            λ e. let one : n ≡ m = cc in subst (λ (x : Note). Ends plan.claims (a ∷ h) c k x) one now,
            λ e. let one = only m e in cc,
          )

      -- if one note is written, the number of positions for notes stays
      pub notes_count : length (slice_set s.notes (note_position c k) (Some n))
          ≡ consumers_of plan * plan.claims.cells
      notes_count = length-set s.notes (note_position c k) (Some n) ∙ is.notes_count

    -- ---- the state after the access
    -- if its pool, words, places and notes are correct after the access, this state is what the longer history leaves
    pub state_after : (words : List ℕ) (places : List Place) (notes : List (Option Note))
        → IsAfter (pool_accesses (a ∷ h)) s.pool → IsMemoryOf plan.claims words (claim_accesses (a ∷ h))
        → length places ≡ consumers_of plan * plan.lanes → ArePlaces (a ∷ h) places
        → length notes ≡ consumers_of plan * plan.claims.cells → AreNotes (a ∷ h) notes
        → IsWorldAfter (a ∷ h)
        (record { setup = s.setup; pool = s.pool; words = words; places = places; notes = notes })
    state_after words places notes pool memory place_count are_places note_count are_notes = record {
      lawful = adds.lawful;
      lanes = is.lanes;
      cells = is.cells;
      pool = pool;
      words = memory;
      places_count = place_count;
      place = are_places;
      notes_count = note_count;
      note = are_notes;
    }
