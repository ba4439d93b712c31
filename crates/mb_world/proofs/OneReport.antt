-- Two histories, of the claims and of the pool, have at most one report.
use Rattle.std.proofs.Common.{◌≡◌, ◌+◌, ◌*◌, ◌/◌, ◌%◌, ◌<◌, ℕ, zero, suc, Bool, true, false, List, [], ◌∷◌, length, Some, None, refl, sym, ◌∙◌, ap, subst, arith, get_or}
use Rattle.std.proofs.lemmas.Option.{slice_get-get_or, slice_get_within}
use Rattle.std.proofs.Math.Nat.{div-lt_iff_lt-mul, mod-add-div, mod-lt}
use Rattle.std.specs.Prelude.{slice_get}
use Rattle.mb_claim.specs.declared.access.Stage.TheVariants as stage
use Rattle.mb_world.specs.declared.report.Note.{Note}
use Rattle.mb_world.specs.declared.report.Note.TheVariants.{Lost, Took, Undecided}
use Rattle.mb_world.specs.Imports.{Item, Stage, claim_part}
use Rattle.mb_world.specs.Plan.{Histories, Plan, consumers_of}
use Rattle.mb_world.specs.Fitting.{EndsAs, HasStageIn, parts_of}
use Rattle.mb_world.specs.Theorem.{DiaryView, LaneView, ReportView}
use Rattle.mb_world.specs.Reporting.{IsDiaryOf, IsReportOf, lane_view}
use Rattle.mb_world.specs.Known.{Known}
use Rattle.mb_world.proofs.Positions.{HasPosition, at_has, at_one, has_at, reverse_at}
use Rattle.mb_world.proofs.Diaries.{met_at, note_at, placed}
use Rattle.mb_world.proofs.Loads.{met_given}
use Rattle.mb_world.proofs.ReaderParts.{loaded-read}

-- ---- lists that have one element at each position
-- each element of the first list is at the same position of the second
abbrev StandsIn : {A : Type 0} → List A → List A → Type 0
StandsIn {A} xs ys = (j : ℕ) (x : A) → slice_get xs j ≡ Some x → slice_get ys j ≡ Some x

-- two lists are equal if each element of either is at the same position of the other
one_list : {A : Type 0} (xs ys : List A) → StandsIn xs ys → StandsIn ys xs → xs ≡ ys
one_list [] [] f g = refl
one_list [] (y ∷ ys) f g = absurd (let e : None ≡ Some y = g 0 y refl in cc)
one_list (x ∷ xs) [] f g = absurd (let e : None ≡ Some x = f 0 x refl in cc)
one_list {A} (x ∷ xs) (y ∷ ys) f g =
    let e : Some y ≡ Some x = f 0 x refl in
    let heads : x ≡ y = cc in
    let tails = one_list xs ys (λ j z. f (suc j) z) (λ j z. g (suc j) z) in
    rw (heads, tails) refl

-- if there is a position i for diaries of n consumers on m lanes, there is a lane
some_lanes : (n m i : ℕ) → i < n * m → 0 < m
some_lanes n zero i less = omega (arith, less)
some_lanes n (suc m) i less = omega arith

-- the diary of consumer c on lane p with these notes, and with a begun claim if b is true
abbrev diary_of : ℕ → ℕ → List Note → Bool → DiaryView
diary_of c p ns b = record { consumer = c; lane = p; notes = ns; begun = b }

-- the report with these lanes and these diaries
abbrev report_of : List LaneView → List DiaryView → ReportView
report_of ls ds = record { lanes = ls; diaries = ds }

-- two truth values are equal if each is true if the other is
one_bool : (a b : Bool) → (a ≡ true → b ≡ true) → (b ≡ true → a ≡ true) → a ≡ b
one_bool true true f g = refl
one_bool true false f g = sym (f refl)
one_bool false true f g = g refl
one_bool false false f g = refl

module _ (plan : Plan) (hs : Histories) (known : Known plan hs) where
  -- the claim of consumer c on cell k has ended as the note says
  abbrev Ends : ℕ → ℕ → Note → Type 0
  Ends c k n = EndsAs plan.claims c k n (parts_of c hs)

  -- ---- a claim has at most one end
  -- a claim has at most one stage
  one_stage : (c k : ℕ) (s r : Stage) → HasStageIn plan.claims c k s (parts_of c hs)
      → HasStageIn plan.claims c k r (parts_of c hs) → s ≡ r
  one_stage c k s r = known.stage c (claim_part c k hs.claims) s r

  -- a claim has ended as at most one note says
  one_end : (c k : ℕ) (n m : Note) → Ends c k n → Ends c k m → n ≡ m
  one_end c k (Took v) (Took u) x y =
      let value : (z : ℕ) → Ends c k (Took z) → z ≡ _ =
      λ z w. known.item (hs.reader_of c) k z (loaded-read (hs.reader_of c) hs.pool (Item k) z w.1) in
      ap Took (value v x ∙ sym (value u y))
  one_end c k (Took v) (Lost w) x y = let e = one_stage c k stage.Won (stage.Lost w) x.0 y in cc
  one_end c k (Took v) Undecided x y = let e = one_stage c k stage.Won stage.Undecided x.0 y in cc
  one_end c k (Lost w) (Took u) x y = let e = one_stage c k (stage.Lost w) stage.Won x y.0 in cc
  one_end c k (Lost w) (Lost z) x y =
      let e = one_stage c k (stage.Lost w) (stage.Lost z) x y in let same : w ≡ z = cc in ap Lost same
  one_end c k (Lost w) Undecided x y = let e = one_stage c k (stage.Lost w) stage.Undecided x y in cc
  one_end c k Undecided (Took u) x y = let e = one_stage c k stage.Undecided stage.Won x y.0 in cc
  one_end c k Undecided (Lost z) x y = let e = one_stage c k stage.Undecided (stage.Lost z) x y in cc
  one_end c k Undecided Undecided x y = refl

  -- ---- a consumer has at most one diary on a lane
  module _ (c p : ℕ) (cs : c < consumers_of plan) where
    -- if one diary has cell k at position j of the cells met, the other has it there, too
    same_at : (d e : DiaryView) (x : IsDiaryOf plan c p hs d) (y : IsDiaryOf plan c p hs e) (j k : ℕ)
        → HasPosition x.cells j k → HasPosition y.cells j k
    same_at d e x y j k at =
        met_at plan hs known c p cs e y j k (placed plan hs known c p cs d x j k at)
        (met_given (hs.reader_of c) p hs.pool x.cells k x.met.met (at_has x.cells j k at))

    -- a note of the one diary is at the same position of the other
    same_note : (d e : DiaryView) → IsDiaryOf plan c p hs d → IsDiaryOf plan c p hs e → StandsIn d.notes e.notes
    same_note d e x y j n is =
        let q = note_at plan hs known c p cs d x j n is in
        let there = same_at d e x y j q.0 q.1 in
        let inside = y.all j q.0 n (reverse_at y.cells j q.0 there) q.2 in
        let m = get_or e.notes j Undecided in
        let found = slice_get-get_or e.notes j Undecided inside in
        let r = note_at plan hs known c p cs e y j m found in
        let one = one_end c q.0 m n (subst (λ i. Ends c i m) (at_one y.cells j r.0 q.0 r.1 there) r.2) q.2 in
        found ∙ ap Some one

    -- if the one diary says that a claim is begun, so does the other
    same_begun : (d e : DiaryView) → IsDiaryOf plan c p hs d → IsDiaryOf plan c p hs e → d.begun ≡ true → e.begun ≡ true
    same_begun d e x y is =
        let q = x.begun.0 is in
        let at = has_at x.cells q.0 q.1 in
        y.begun.1 (q.0, at_has y.cells at.0 q.0 (same_at d e x y at.0 q.0 at.1), q.2, q.3)

    -- two diaries of a consumer on a lane are equal
    pub one_diary : (d e : DiaryView) → IsDiaryOf plan c p hs d → IsDiaryOf plan c p hs e → d ≡ e
    one_diary d e x y =
        let consumers : d.consumer ≡ e.consumer = x.consumer ∙ sym y.consumer in
        let lanes : d.lane ≡ e.lane = x.lane ∙ sym y.lane in
        let notes = one_list d.notes e.notes (same_note d e x y) (same_note e d y x) in
        let begun = one_bool d.begun e.begun (same_begun d e x y) (same_begun e d y x) in
        let made : diary_of d.consumer d.lane d.notes d.begun ≡ diary_of e.consumer e.lane e.notes e.begun = cc in
        made

  -- ---- there is at most one report
  -- two reports of the same histories have the same diaries
  same_diary : (r s : ReportView) → IsReportOf plan hs r → IsReportOf plan hs s → StandsIn r.diaries s.diaries
  same_diary r s x y i d is =
      let less : i < consumers_of plan * plan.lanes =
      subst (λ (n : ℕ). i < n) x.diaries_count (slice_get_within r.diaries i d is) in
      let some : 0 < plan.lanes = some_lanes (consumers_of plan) plan.lanes i less in
      let p = i % plan.lanes in
      let c = i / plan.lanes in
      let position : c * plan.lanes + p ≡ i = omega (arith, mod-add-div i plan.lanes) in
      let cs : c < consumers_of plan = (div-lt_iff_lt-mul some).1 less in
      let ps : p < plan.lanes = mod-lt i some in
      let first = x.diary c p cs ps in
      let other = y.diary c p cs ps in
      let e : Some first.0 ≡ Some d =
      sym first.1 ∙ (ap (λ (j : ℕ). slice_get r.diaries j) position ∙ is) in
      let same : first.0 ≡ d = cc in
      let one = one_diary c p cs first.0 other.0 first.2 other.2 in
      ap (λ (j : ℕ). slice_get s.diaries j) (sym position) ∙ (other.1 ∙ ap Some (sym one ∙ same))

  -- two reports of the same histories, with one list of diaries and as many lanes, have the same lanes
  same_lane : (r s : ReportView) → r.diaries ≡ s.diaries → length r.lanes ≡ length s.lanes → IsReportOf plan hs r
      → IsReportOf plan hs s → StandsIn r.lanes s.lanes
  same_lane r s diaries lanes x y p l is =
      let less : p < plan.lanes = subst (λ (n : ℕ). p < n) x.lanes_count (slice_get_within r.lanes p l is) in
      let e : Some (lane_view plan p hs r) ≡ Some l = sym (x.lane p less) ∙ is in
      let views : lane_view plan p hs s ≡ lane_view plan p hs r = rw (diaries, lanes) refl in
      y.lane p less ∙ (ap Some views ∙ e)

  -- two reports of the same histories are equal
  pub one_report : (r s : ReportView) → IsReportOf plan hs r → IsReportOf plan hs s → r ≡ s
  one_report r s x y =
      let diaries = one_list r.diaries s.diaries (same_diary r s x y) (same_diary s r y x) in
      let count : length r.lanes ≡ length s.lanes = x.lanes_count ∙ sym y.lanes_count in
      let lanes =
      one_list r.lanes s.lanes (same_lane r s diaries count x y) (same_lane s r (sym diaries) (sym count) y x) in
      let made : report_of r.lanes r.diaries ≡ report_of s.lanes s.diaries = cc in
      made
