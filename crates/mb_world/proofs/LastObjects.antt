-- What a report shows of items left if no note is undecided. No note is undecided if each cell has a last object.
use Rattle.std.proofs.Common.{◌≡◌, ◌≢◌, ℕ, ◌<◌, true, Option, Some, None, length, refl, sym, ◌∙◌, inl, inr, get_or}
use Rattle.std.proofs.lemmas.Option.{slice_get-get_or}
use Rattle.mb_world.specs.declared.report.Note.{Note}
use Rattle.mb_world.specs.declared.report.Note.TheVariants.{Took, Lost, Undecided}
use Rattle.mb_world.specs.Plan.{Histories}
use Rattle.mb_world.specs.Theorem.{HasCompeted, HasTaken, HasTakenOrLost, MainTheorem, ReportView, is_begun, items_put, note, notes}
use Rattle.mb_world.specs.Agreement.{AreAllTaken, IsLeftBesideBegun}

-- the main theorem holds of the report, and no note is undecided
module _ (hs : Histories) (r : ReportView) (main_theorem : MainTheorem hs.pool hs.reader_of r)
    (decided : (c p j : ℕ) → note c p j r ≢ Some Undecided) where
  -- if nobody took an item, and consumer d did not lose it, then d has no note on it
  no_note : (d p j : ℕ) → ((e : ℕ) → HasTaken e p j r → ⊥) → (HasTakenOrLost d p j r → ⊥) → (n : Note)
      → note d p j r ≡ Some n → ⊥
  no_note d p j none neither (Took x) e = none d (x, e)
  no_note d p j none neither (Lost w) e = neither (inr (w, e))
  no_note d p j none neither Undecided e = decided d p j e

  -- if nobody took an item, a competitor that did not lose it has a begun claim on it, and notes on just those before
  begun_next : (d p j : ℕ) → ((e : ℕ) → HasTaken e p j r → ⊥) → (HasTakenOrLost d p j r → ⊥) → HasCompeted d p j r
      → (length (notes d p r) ≡ j) × (is_begun d p r ≡ true)
  begun_next d p j none neither (inl before) =
      absurd (no_note d p j none neither (get_or (notes d p r) j Undecided)
      (slice_get-get_or (notes d p r) j Undecided before))
  begun_next d p j none neither (inr next) = next

  -- if an item was competed for and nobody took it, some claim on it is begun (`IsLeftBesideBegun`)
  pub beside : IsLeftBesideBegun r
  beside c p j inside competed none =
      let s = main_theorem.settled c p j inside competed none in
      let next = begun_next s.0 p j none s.2 s.1 in
      (s.0, next.0, next.1)

  -- on a lane without a begun claim, an item that was competed for is taken, whatever the assignment has for it
  taken_by : (p : ℕ) → ((d : ℕ) → is_begun d p r ≡ true → ⊥) → (c j : ℕ) → j < length (items_put p r)
      → HasCompeted c p j r → (given : Option ℕ) → main_theorem.assignment p j ≡ given → (d : ℕ) × HasTaken d p j r
  taken_by p idle c j inside competed (Some d) e = (d, (main_theorem.given.taken d p j).1 e)
  taken_by p idle c j inside competed None e =
      let b = beside c p j inside competed
      (λ d has. let both : None ≡ Some d = sym e ∙ (main_theorem.given.taken d p j).0 has in cc) in
      absurd (idle b.0 b.2)

  -- on a lane without a begun claim each item that was competed for is taken
  pub taken : AreAllTaken r
  taken p idle c j inside competed = taken_by p idle c j inside competed (main_theorem.assignment p j) refl
