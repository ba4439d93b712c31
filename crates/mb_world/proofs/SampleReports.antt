-- The report of the small world of the samples, and diaries and a report that are not of that world.
use Rattle.std.proofs.Common.{◌≡◌, ◌+◌, ◌*◌, ◌<◌, ℕ, zero, suc, true, false, List, [], ◌∷◌, Option, Some, None, refl, sym, ap, subst, inl, inr, arith}
use Rattle.std.specs.Prelude.{slice_get}
use Rattle.mb_claim.specs.declared.access.Stage.TheVariants as stage
use Rattle.mb_world.specs.declared.report.Note.{Note}
use Rattle.mb_world.specs.declared.report.Note.TheVariants.{Lost, Took, Undecided}
use Rattle.mb_world.specs.Imports.{Gave, Head, History, IsClaimPrefix, Item, Link, ObjectTurn, PoolAccess, Reader, Stage, part}
use Rattle.mb_world.specs.Fitting.{EndsAs, HasRead, parts_of}
use Rattle.mb_world.specs.Theorem.{DiaryView, LaneView}
use Rattle.mb_world.specs.Reporting.{IsDiaryOf, IsReportOf, lane_view}
use Rattle.mb_world.specs.PathSamples.{first_step, two_cells}
use Rattle.mb_world.specs.WorldSamples.{all_histories, all_reported, diary_with, item_missing, loss_taken, loss_unnoted, lost_steps, two_by_two}
use Rattle.mb_world.proofs.Positions.{has_at, reverse_at}

-- ---- the report of the small world
-- what the report has of each lane is what the histories say of it
lanes_told : (p : ℕ) → p < 2 → slice_get all_reported.lanes p ≡ Some (lane_view two_by_two p all_histories all_reported)
lanes_told zero ps = refl
lanes_told (suc zero) ps = refl
lanes_told (suc (suc p)) ps = absurd (omega (arith, ps))

-- the report has at its position the diary of consumer c on lane p
abbrev IsTold : ℕ → ℕ → Type 0
IsTold c p =
    (d : DiaryView) × (slice_get all_reported.diaries (c * 2 + p) ≡ Some d) × IsDiaryOf two_by_two c p all_histories d

-- the diary of consumer 1 on lane 1, in which a claim is begun
abbrev begun_there : DiaryView
begun_there = record { consumer = 1; lane = 1; notes = []; begun = true }

module _ (took : IsDiaryOf two_by_two 0 0 all_histories (diary_with 0 0 (Took 5 ∷ [])))
    (away : IsDiaryOf two_by_two 0 1 all_histories (diary_with 0 1 []))
    (lost : IsDiaryOf two_by_two 1 0 all_histories (diary_with 1 0 (Lost 0 ∷ [])))
    (begun : IsDiaryOf two_by_two 1 1 all_histories begun_there) where
  -- each diary of the report is at its position, if each of the four is that of its consumer on its lane
  told : (c p : ℕ) → c < 2 → p < 2 → IsTold c p
  told zero zero cs ps = (diary_with 0 0 (Took 5 ∷ []), refl, took)
  told zero (suc zero) cs ps = (diary_with 0 1 [], refl, away)
  told (suc zero) zero cs ps = (diary_with 1 0 (Lost 0 ∷ []), refl, lost)
  told (suc zero) (suc zero) cs ps = (begun_there, refl, begun)
  told c (suc (suc p)) cs ps = absurd (omega (arith, ps))
  told (suc (suc c)) p cs ps = absurd (omega (arith, cs))

  -- the report is that of the small world
  pub all_told : IsReportOf two_by_two all_histories all_reported
  all_told = record { lanes_count = refl; diaries_count = refl; lane = lanes_told; diary = told }

-- ---- diaries that are not of the small world
-- what consumer 1 has loaded
abbrev reads : History
reads = part (Reader 1) all_histories.pool

-- consumer 1 has loaded no item
no_item : (k v : ℕ) → HasRead (Item k) v reads → ⊥
no_item k v (a, inl e, w, _) = let f : Link 0 ≡ Item k = subst (λ (b : PoolAccess). b.word ≡ Item k) (sym e) w in cc
no_item k v (a, inr (inl e), w, _) =
    let f : Head 1 ≡ Item k = subst (λ (b : PoolAccess). b.word ≡ Item k) (sym e) w in cc
no_item k v (a, inr (inr (inl e)), w, _) =
    let f : Head 0 ≡ Item k = subst (λ (b : PoolAccess). b.word ≡ Item k) (sym e) w in cc
no_item k v (a, inr (inr (inr none)), w, _) = none

-- a diary that says that consumer 1 took the item 5 is no diary of consumer 1
pub no_loss_taken : IsDiaryOf two_by_two 1 0 all_histories loss_taken → ⊥
no_loss_taken d = let n = d.notes 0 (Took 5) refl in no_item n.0 5 n.2.1

-- consumer 1 was given cell 0
given_first : Gave 0 reads
given_first = inr (inr (inl (refl, λ e. cc)))

-- consumer 1 was given cell 1
given_second : Gave 1 reads
given_second = inr (inl (refl, λ e. cc))

-- the claim of consumer 1 on cell 0 is lost, so its diary on lane 0 must have a note
pub no_silence : IsClaimPrefix two_cells 1 lost_steps (stage.Lost 0)
    → IsDiaryOf two_by_two 1 0 all_histories loss_unnoted → ⊥
no_silence lost d =
    let at = has_at d.cells 0 (d.met.all 0 given_first (inl refl)) in
    let within : at.0 < 0 = d.all at.0 0 (Lost 0) (reverse_at d.cells at.0 0 at.1) lost in
    omega (arith, within)

-- all steps of a claim of consumer 1 have one stage
abbrev HasOneStage : Type 0
HasOneStage =
    (xs : List ObjectTurn) (s r : Stage) → IsClaimPrefix two_cells 1 xs s → IsClaimPrefix two_cells 1 xs r → s ≡ r

-- the claim of consumer 1 on cell 1 goes on, so no note says how it has ended
no_end : HasOneStage → IsClaimPrefix two_cells 1 (first_step ∷ []) stage.Going → (n : Note)
    → EndsAs two_cells 1 1 n (parts_of 1 all_histories) → ⊥
no_end one goes (Took x) end = let e = one (first_step ∷ []) stage.Going stage.Won goes end.0 in cc
no_end one goes (Lost w) end = let e = one (first_step ∷ []) stage.Going (stage.Lost w) goes end in cc
no_end one goes Undecided end = let e = one (first_step ∷ []) stage.Going stage.Undecided goes end in cc

-- the claim of consumer 1 on cell 1 has an access and goes on, so the diary on lane 1 must say that a claim is begun
pub no_rest : HasOneStage → IsClaimPrefix two_cells 1 (first_step ∷ []) stage.Going
    → IsDiaryOf two_by_two 1 1 all_histories (diary_with 1 1 []) → ⊥
no_rest one goes d =
    let e : false ≡ true =
    d.begun.1 (1, d.met.all 1 given_second (inl refl), (λ none. cc), λ n end. no_end one goes n end) in
    cc

-- ---- a report that is not of the small world
-- the items left on a lane, or none if there is no lane
abbrev left_of : Option LaneView → List ℕ
left_of None = []
left_of (Some l) = l.left

-- a list with an element is not empty
not_empty : (x : ℕ) (xs : List ℕ) → [] ≡ x ∷ xs → ⊥
not_empty x xs e = cc

-- the item left on lane 1 may not be left out
pub no_item_missing : IsReportOf two_by_two all_histories item_missing → ⊥
no_item_missing r = not_empty 6 [] (ap left_of (r.lane 1 (omega arith)))
