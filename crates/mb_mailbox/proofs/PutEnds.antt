-- The end of a producer's job: what was put is a beginning of the list, and a finish makes no fetch-add.
use Rattle.std.proofs.Common.{◌≡◌, ◌≢◌, ◌≤◌, ⊎_elim, ℕ, Bool, true, false, List, take, drop, refl, sym, ap, subst, inr}
use Rattle.std.proofs.lemmas.List.{take-append-drop}
use Rattle.mb_cells.specs.declared.answer.Finish.{Finish}
use Rattle.mb_cells.specs.declared.answer.Finish.TheVariants as finish
use Rattle.mb_cells.specs.declared.access.PoolAccess.{PoolAccess}
use Rattle.mb_cells.specs.declared.access.PoolAct.{PoolAct}
use Rattle.mb_cells.specs.declared.access.PoolAct.TheVariants.{FetchAdd, Load, Store}
use Rattle.mb_cells.specs.Vocabulary.{fetch, next_link, store}
use Rattle.mb_shared_cells.specs.Vocabulary.{CellsName}
use Rattle.mb_mailbox.specs.Imports.{END, Has, History}
use Rattle.mb_mailbox.specs.Jobs.{IsFront}
use Rattle.mb_mailbox.specs.Producers.{FoundNoCell, IsEndOfLane, ProducerView}

-- the first n items are a beginning of the list
pub front_take : (n : ℕ) (xs : List ℕ) → IsFront (take n xs) xs
front_take n xs = (drop n xs, take-append-drop n xs)

-- if a fetch-add of the producer had found no cell before a finish, this still holds after it
pub found_still : (r : Finish) (old new : ProducerView) → (r ≡ finish.Ended → IsEndOfLane old new)
    → (r ≡ finish.Closed → new ≡ old) → r ≢ finish.Busy
    → FoundNoCell old → FoundNoCell new
found_still finish.Ended old new ended closed busy none =
    let e = ended refl in
    record {
      entry = none.entry;
      offered = subst (λ (z : ℕ × History). Has z.1 (fetch z.0 none.entry))
          (λ i. (sym e.same.lane i, sym e.part i)) (inr none.offered);
      past = subst (λ (t : CellsName). t.size.cells ≤ none.entry.cell) (sym e.same.table) none.past;
    }
found_still finish.Closed old new ended closed busy none = subst FoundNoCell (sym (closed refl)) none
found_still finish.Busy old new ended closed busy none = absurd (busy refl)

-- whether an act is a fetch-add
abbrev pub is_fetch : PoolAct → Bool
is_fetch (FetchAdd v k) = true
is_fetch (Store v) = false
is_fetch (Load v) = false

-- if a fetch-add has found no cell after a finish, one had before: a finish makes no fetch-add
pub found_before : (r : Finish) (old new : ProducerView) → (r ≡ finish.Ended → IsEndOfLane old new)
    → (r ≡ finish.Closed → new ≡ old) → r ≢ finish.Busy
    → FoundNoCell new → FoundNoCell old
found_before finish.Ended old new ended closed busy none =
    let e = ended refl in
    let it = fetch new.seat.lane none.entry in
    let end = store old.seat.lane (next_link old.seat.lane old.seat.place) END in
    let has : Has old.seat.part it =
    ⊎_elim (λ (same : end ≡ it). (let no : false
    ≡ true = ap (λ (a : PoolAccess). is_fetch a.act) same in absurd (cc)))
    (λ (has : Has old.seat.part it). has)
    (subst (λ (h : History). Has h it) e.part none.offered) in
    record {
      entry = none.entry;
      offered = subst (λ (q : ℕ). Has old.seat.part (fetch q none.entry)) e.same.lane has;
      past = subst (λ (t : CellsName). t.size.cells ≤ none.entry.cell) e.same.table none.past;
    }
found_before finish.Closed old new ended closed busy none = subst FoundNoCell (closed refl) none
found_before finish.Busy old new ended closed busy none = absurd (busy refl)
