-- How one more load of a consumer changes the state of a world.
use Rattle.std.proofs.Common.{◌≡◌, ℕ, ◌<◌, List, ◌∷◌, length, Option, Some, refl, sym, ◌∙◌, subst}
use Rattle.mb_cells.specs.Memory.{value_in}
use Rattle.mb_cells.specs.State.{IsAfter}
use Rattle.mb_world.specs.declared.report.Note.{Note}
use Rattle.mb_world.specs.declared.event.Answer.{Answer}
use Rattle.mb_world.specs.declared.event.Event.TheVariants as event
use Rattle.mb_world.specs.declared.place.Place.{Place}
use Rattle.mb_world.specs.Imports.{Gave, Has, Load, MayRead, ObjectTurn, Reader, Word, load, part}
use Rattle.mb_world.specs.Plan.{consumers_of}
use Rattle.mb_world.specs.World.{ToCells, WorldAccess, WorldHistory, lane_part, pool_accesses}
use Rattle.mb_world.specs.ConsumerPath.{ConsumerPath}
use Rattle.mb_world.specs.Worlds.{ConsumerAdds, IsTrueTo}
use Rattle.mb_world.specs.WorldState.{IsWorldAfter, WorldState}
use Rattle.mb_world.specs.Replay.{answer_to}
use Rattle.mb_world.specs.EventSteps.{EventAdds}
use Rattle.mb_world.proofs.Loads.{met_given}
use Rattle.mb_world.proofs.StateSteps.{AreNotes, ArePlaces, plan, state_after}
use Rattle.mb_world.specs.StepKnown.{StepKnown}
use Rattle.mb_world.proofs.WorldClaims.{met_all}

module _ (s : WorldState) (h : WorldHistory) (is : IsWorldAfter h s) (c p : ℕ) (cs : c < consumers_of (plan s h is))
    (ps : p < (plan s h is).lanes) (known : StepKnown s h c p) where
  -- the consumer's loads gave it each cell that it met
  pub given : (ks : List ℕ) (ns : List Note) (held : Option (List ObjectTurn))
      → ConsumerPath (plan s h is).claims c p (lane_part c p h) ks ns held → (k : ℕ) → Has ks k
      → Gave k (part (Reader c) (pool_accesses h))
  given ks ns held path k has =
      met_given c p (pool_accesses h) ks k
      (met_all (plan s h is) h is.lawful known.world c p
      (record { cells = ks; notes = ns; held = held; path = path })) has

  module _ (w : Word) (may : MayRead (plan s h is).lanes w (part (Reader c) (pool_accesses h))) where
    -- the value that the load finds
    abbrev pub found : ℕ
    found = value_in w (pool_accesses h)

    -- the load, as an access of the world
    abbrev pub loaded : WorldAccess
    loaded = ToCells (load c w found)

    -- the load leaves the pool as it is
    pool_after : IsAfter (load c w found ∷ pool_accesses h) s.pool
    pool_after =
        known.stays w (pool_accesses h) c is.pool
        (subst (λ (n : ℕ). MayRead n w (part (Reader c) (pool_accesses h))) (sym is.lanes) may)

    -- the load is true to memory
    truth : IsTrueTo loaded h
    truth = (pool_after.lawful.fits.0, refl)

    module _ (ks : List ℕ) (ns : List Note) (held : Option (List ObjectTurn))
        (next : ConsumerPath (plan s h is).claims c p (loaded ∷ lane_part c p h) ks ns held) where
      -- the history with the load is lawful, and only the part of consumer c on lane p changes: it has the load more
      pub adds : ConsumerAdds (plan s h is) c p loaded h
      adds = known.goes loaded ks ns held truth next

      -- the event leaves the state with these places and notes, if they are correct after the load. The pool and the
      -- words are as before
      pub load_adds : (word : ℕ) (r : Answer) (places : List Place) (notes : List (Option Note))
          → answer_to (plan s h is).claims.cells w (Load found) ≡ Some r
          → length places ≡ length s.places → ArePlaces s h is (loaded ∷ h) places
          → length notes ≡ length s.notes → AreNotes s h is (loaded ∷ h) notes
          → EventAdds (event.Step c p word) r
          (record { setup = s.setup; pool = s.pool; words = s.words; places = places; notes = notes }) h
      load_adds word r places notes named place_count are_places note_count are_notes = record {
        access = Some loaded;
        entry = ((adds.maker, adds.on, tt), named, adds.lawful);
        left = state_after s h is c p cs ps loaded adds s.words places notes pool_after is.words
            (place_count ∙ is.places_count) are_places (note_count ∙ is.notes_count) are_notes;
      }
