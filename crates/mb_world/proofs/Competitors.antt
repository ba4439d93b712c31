-- By the report a consumer competed for an item exactly if it made an access to its claim on the item's cell.
use Rattle.std.proofs.Common.{◌≡◌, ◌≢◌, ◌⊎◌, ◌↔◌, ℕ, ◌<◌, true, List, [], length, Some, sym, ◌∙◌, subst, inl, inr, get_or}
use Rattle.std.specs.Prelude.{reverse, slice_get}
use Rattle.std.proofs.lemmas.Option.{slice_get-get_or}
use Rattle.mb_claim.specs.declared.access.Stage.TheVariants as stage
use Rattle.mb_world.specs.declared.report.Note.{Note}
use Rattle.mb_world.specs.declared.report.Note.TheVariants.{Took, Lost, Undecided}
use Rattle.mb_world.specs.Imports.{IsClaimPrefix, Stage, claim_part, linked_cells}
use Rattle.mb_world.specs.Plan.{Histories, Plan, consumers_of}
use Rattle.mb_world.specs.Theorem.{DiaryView, HasCompeted, ReportView}
use Rattle.mb_world.specs.Fitting.{EndsAs, parts_of}
use Rattle.mb_world.specs.Reporting.{IsDiaryOf, IsReportOf}
use Rattle.mb_world.proofs.Diaries.{met_at, note_at, open_last, placed}
use Rattle.mb_world.specs.Known.{Known}
use Rattle.mb_world.proofs.Positions.{HasPosition, at_one, at_reverse, has_at}
use Rattle.mb_world.proofs.Recorded.{competed_in}
use Rattle.mb_world.proofs.ReportPositions.{begun_is, notes_is}
use Rattle.mb_world.proofs.Diaries as diaries

module _ (plan : Plan) (hs : Histories) (known : Known plan hs)
    (fresh : (c : ℕ) → c < consumers_of plan → IsClaimPrefix plan.claims c [] stage.Going)
    (r : ReportView) (is : IsReportOf plan hs r) (c p j k : ℕ) (cs : c < consumers_of plan) (ps : p < plan.lanes)
    (here : slice_get (reverse (linked_cells p hs.pool)) j ≡ Some k) where
  -- the diary of consumer c on lane p, in the report
  abbrev d : DiaryView
  d = (is.diary c p cs ps).0

  -- the report's diary is that of consumer c on lane p in the histories
  diary : IsDiaryOf plan c p hs d
  diary = (is.diary c p cs ps).2

  -- cell k is at position j of the lane
  on_lane : HasPosition (linked_cells p hs.pool) j k
  on_lane = at_reverse (linked_cells p hs.pool) j k here

  -- a claim whose stage is not `Going` has an access
  not_fresh : (i : ℕ) (s : Stage) → IsClaimPrefix plan.claims c (claim_part c i hs.claims) s → s ≢ stage.Going
      → claim_part c i hs.claims ≢ []
  not_fresh i s q over none =
      over (known.stage c [] s stage.Going (subst (λ xs. IsClaimPrefix plan.claims c xs s) none q) (fresh c cs))

  -- a claim that has ended as some note says has an access
  end_made : (i : ℕ) (n : Note) → EndsAs plan.claims c i n (parts_of c hs) → claim_part c i hs.claims ≢ []
  end_made i (Took v) e = not_fresh i stage.Won e.0 (λ f. cc)
  end_made i (Lost w) e = not_fresh i (stage.Lost w) e (λ f. cc)
  end_made i Undecided e = not_fresh i stage.Undecided e (λ f. cc)

  -- the cell that consumer c met at position j is cell k
  cell_at : (i : ℕ) → HasPosition diary.cells j i → i ≡ k
  cell_at i at = at_one (linked_cells p hs.pool) j i k (placed plan hs known c p cs d diary j i at) on_lane

  -- if consumer c competed for the item by its diary, it made an access to its claim on cell k
  has_access : (j < length d.notes) ⊎ ((length d.notes ≡ j) × (d.begun ≡ true)) → claim_part c k hs.claims ≢ []
  has_access (inl before) =
      let n = get_or d.notes j Undecided in
      let q = note_at plan hs known c p cs d diary j n (slice_get-get_or d.notes j Undecided before) in
      subst (λ i. claim_part c i hs.claims ≢ []) (cell_at q.0 q.1) (end_made q.0 n q.2)
  has_access (inr next) =
      let q = diary.begun.0 next.1 in
      let at = has_at diary.cells q.0 q.1 in
      let last = open_last plan hs known c p cs d diary at.0 q.0 at.1 q.3 in
      let there : HasPosition diary.cells j q.0 =
      subst (λ i. HasPosition diary.cells i q.0) (sym last.0 ∙ next.0) at.1 in
      subst (λ i. claim_part c i hs.claims ≢ []) (cell_at q.0 there) q.2

  -- consumer c competed for the item by the report exactly if it made an access to its claim on cell k
  pub competes : HasCompeted c p j r ↔ (claim_part c k hs.claims ≢ [])
  competes = (
    λ h. has_access (by h),
    λ some.
        let there = met_at plan hs known c p cs d diary j k on_lane ((known.fit c cs).met k some) in
        competed_in plan hs known r is c p j cs ps (diaries.competes_at plan hs known c p cs d diary j k there some),
  )
    where
      by : HasCompeted c p j r → (j < length d.notes) ⊎ ((length d.notes ≡ j) × (d.begun ≡ true))
      by (inl before) = inl (subst (λ (ns : List Note). j < length ns) (notes_is plan hs r is c p cs ps) before)
      by (inr next) = inr (
        subst (λ (ns : List Note). length ns ≡ j) (notes_is plan hs r is c p cs ps) next.0,
        sym (begun_is plan hs r is c p cs ps) ∙ next.1,
      )
