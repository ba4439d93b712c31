-- How many items a report has on all lanes together, and which diary has a note, and where.
use Rattle.std.proofs.Common.{◌≡◌, ℕ, ◌+◌, ◌*◌, ◌<◌, ◌≤◌, Bool, true, false, List, [], length, refl, sym, ◌∙◌, ap, subst, inl, inr, arith}
use Rattle.std.specs.Prelude.{Option, Some, None, if◌then◌else◌, nat_lt, reverse, slice_get}
use Rattle.std.specs.Option.{option_map_or}
use Rattle.std.proofs.lemmas.Bool.{cases_lt, ltb-true}
use Rattle.std.proofs.lemmas.List.{length-map, reverse-append}
use Rattle.std.proofs.Math.Nat.{mul-le-mul_right}
use Rattle.std.proofs.lemmas.Option.{slice_get_within}
use Rattle.mb_world.proofs.Positions.{get-front}
use Rattle.mb_cells.specs.Vocabulary.{Entry, IsStart, items_put, put_list}
use Rattle.mb_world.specs.Plan.{Histories, Plan, consumers_of}
use Rattle.mb_world.specs.Theorem.{DiaryView, LaneView, ReportView, diary, note}
use Rattle.mb_world.specs.Reporting.{IsReportOf, lane_view}
use Rattle.mb_mailbox.specs.Imports.{Note}
use Rattle.mb_mailbox.specs.Gathering.{put_count}
use Rattle.mb_mailbox.proofs.Lists.{some_same}
use Rattle.mb_mailbox.proofs.Totals.{put_total, summed, total}

-- ---- how many items are put
-- the report has as many items as the pool's history puts on all lanes
pub counted : (plan : Plan) (hs : Histories) (r : ReportView) → IsReportOf plan hs r → put_count r
    ≡ items_put plan.lanes hs.pool
counted plan hs r is =
    summed (λ (l : LaneView). length l.put) (λ p. length (put_list p hs.pool)) r.lanes each
    ∙ ap (total (λ p. length (put_list p hs.pool))) is.lanes_count ∙ sym (put_total plan.lanes hs.pool)
  where
    each : (p : ℕ) (l : LaneView) → slice_get r.lanes p ≡ Some l → length l.put ≡ length (put_list p hs.pool)
    each p l e =
        let low : p < plan.lanes = subst (λ n. p < n) is.lanes_count (slice_get_within r.lanes p l e) in
        let same : l ≡ lane_view plan p hs r = some_same l (lane_view plan p hs r) (sym e ∙ is.lane p low) in
        ap (λ (v : LaneView). length v.put) same ∙ length-map (put_list p hs.pool) (λ (z : Entry). z.value)

-- ---- which diary has a note, and where
-- if `if b then o else None` is `Some x`, then b is true and o is `Some x`
some_chosen : {X : Type 0} (b : Bool) (o : Option X) (x : X) → (if b then o else None) ≡ Some x
    → (b ≡ true) × (o ≡ Some x)
some_chosen true o x e = (refl, e)
some_chosen false o x e = absurd (cc)

-- if there is a note at position j of a diary that may be missing, the diary is not missing
in_diary : (o : Option DiaryView) (j : ℕ) (n : Note)
    → slice_get (option_map_or (λ (d : DiaryView). d.notes) o []) j ≡ Some n
    → (d : DiaryView) × (o ≡ Some d) × (slice_get d.notes j ≡ Some n)
in_diary None j n e = absurd (cc)
in_diary (Some d) j n e = (d, refl, e)

-- the report has this note in the diary of consumer c on lane p, at position j
pub record IsNoted (plan : Plan) (r : ReportView) (c p j : ℕ) (n : Note) : Type 0 where
  pub consumer : c < consumers_of plan
  pub lane : p < plan.lanes
  pub diary : DiaryView
  pub there : slice_get r.diaries (c * plan.lanes + p) ≡ Some diary
  pub here : slice_get diary.notes j ≡ Some n

-- `IsNoted` holds of each note that `note` finds in a report
pub is_noted : (plan : Plan) (hs : Histories) (r : ReportView) → IsReportOf plan hs r
    → (c p j : ℕ) (n : Note) → note c p j r ≡ Some n
    → IsNoted plan r c p j n
is_noted plan hs r is c p j n e =
    let t = in_diary (diary c p r) j n e in
    let d = t.0 in
    let z = some_chosen (nat_lt p (length r.lanes)) (slice_get r.diaries (c * length r.lanes + p)) d t.1 in
    let low : p < plan.lanes = subst (λ w. p < w) is.lanes_count (ltb-true p (length r.lanes) z.0) in
    let there : slice_get r.diaries (c * plan.lanes + p)
    ≡ Some d = ap (λ w. slice_get r.diaries (c * w + p)) (sym is.lanes_count) ∙ z.1 in
    let within : c * plan.lanes + p < consumers_of plan * plan.lanes =
    subst (λ w. c * plan.lanes + p < w) is.diaries_count (slice_get_within r.diaries (c * plan.lanes + p) d there) in
    record {
      consumer = elim (cases_lt c (consumers_of plan)) [
        | inl less ↦ less
        | inr not ↦ let most : consumers_of plan * plan.lanes ≤ c * plan.lanes = mul-le-mul_right
            plan.lanes not in absurd (omega (arith, most, within))
      ];
      lane = low;
      diary = d;
      there = there;
      here = t.2;
    }

-- both lists have the last cell first. If ls is ks and later cells, each cell of ks has the same position in both
pub at_start : (ks ls : List ℕ) (j k : ℕ) → IsStart ks ls → slice_get (reverse ks) j ≡ Some k
    → slice_get (reverse ls) j ≡ Some k
at_start ks ls j k s e =
    ap (λ l. slice_get (reverse l) j) (sym s.1) ∙ ap (λ l. slice_get l j) (reverse-append s.0 ks)
    ∙ get-front (reverse ks) (reverse s.0) j k e
