-- What a report has at a position: lanes, diaries and notes of the mailbox, and nothing outside of it.
use Rattle.std.proofs.Common.{◌≡◌, ◌⊎◌, ℕ, ◌+◌, ◌*◌, ◌<◌, ◌≤◌, Bool, true, false, cond, List, [], length}
use Rattle.std.proofs.Common.{Option, Some, None, refl, ap, subst, inl, inr, arith}
use Rattle.std.specs.Prelude.{slice_get, nat_lt}
use Rattle.std.specs.Option.{option_map_or}
use Rattle.std.proofs.lemmas.Bool.{cases_lt, lt-ltb, le-ltb}
use Rattle.std.proofs.lemmas.Option.{slice_get_past}
use Rattle.std.proofs.Math.Nat.{mul-le-mul_right}
use Rattle.mb_world.specs.declared.report.Note.{Note}
use Rattle.mb_world.specs.declared.report.Note.TheVariants.{Undecided}
use Rattle.mb_world.specs.Plan.{Histories, Plan, consumers_of}
use Rattle.mb_world.specs.Theorem.{DiaryView, ReportView, diary, is_begun, items_left, items_put, note, notes}
use Rattle.mb_world.specs.Fitting.{EndsAs, parts_of}
use Rattle.mb_world.specs.Reporting.{IsReportOf, lane_view, values_put}

-- the mailbox has consumer c and lane p
abbrev pub IsInside : Plan → ℕ → ℕ → Type 0
IsInside plan c p = (c < consumers_of plan) × (p < plan.lanes)

module _ (plan : Plan) (hs : Histories) (r : ReportView) (is : IsReportOf plan hs r) where
  -- the report has no lane that the mailbox lacks
  pub no_lane : (p : ℕ) → plan.lanes ≤ p → slice_get r.lanes p ≡ None
  no_lane p past = slice_get_past r.lanes p (omega (arith, is.lanes_count))

  -- the report has no diary of a lane or a consumer that the mailbox lacks
  pub diary_none : (c p : ℕ) → (plan.lanes ≤ p) ⊎ (consumers_of plan ≤ c) → diary c p r ≡ None
  diary_none c p (inl past) = rw (le-ltb p (length r.lanes) (omega (arith, is.lanes_count))) refl
  diary_none c p (inr past) = by_lane (nat_lt p (length r.lanes))
    where
      size : consumers_of plan * plan.lanes ≤ c * plan.lanes
      size = mul-le-mul_right plan.lanes past

      beyond : length r.diaries ≤ c * length r.lanes + p
      beyond = rw (is.lanes_count, is.diaries_count) (omega (arith, size))

      -- whether or not the report has lane p, it has nothing at a position past its diaries
      by_lane : (b : Bool) → cond b (slice_get r.diaries (c * length r.lanes + p)) None ≡ None
      by_lane true = slice_get_past r.diaries (c * length r.lanes + p) beyond
      by_lane false = refl

  -- the diary that the report has of consumer c on lane p is the one that `IsReportOf` names
  pub diary_is : (c p : ℕ) (cs : c < consumers_of plan) (ps : p < plan.lanes) → diary c p r
      ≡ Some (is.diary c p cs ps).0
  diary_is c p cs ps = rw (is.lanes_count, lt-ltb p plan.lanes ps) (is.diary c p cs ps).1

  -- the notes that the report has of c on p are those of that diary
  pub notes_is : (c p : ℕ) (cs : c < consumers_of plan) (ps : p < plan.lanes)
      → notes c p r ≡ (is.diary c p cs ps).0.notes
  notes_is c p cs ps = ap (λ (o : Option DiaryView). option_map_or (λ d. d.notes) o []) (diary_is c p cs ps)

  -- the report says that a claim of c on p is begun exactly if that diary does
  pub begun_is : (c p : ℕ) (cs : c < consumers_of plan) (ps : p < plan.lanes)
      → is_begun c p r ≡ (is.diary c p cs ps).0.begun
  begun_is c p cs ps = ap (λ (o : Option DiaryView). option_map_or (λ d. d.begun) o false) (diary_is c p cs ps)

  -- the items put on a lane are those of the history
  pub put_is : (p : ℕ) → p < plan.lanes → items_put p r ≡ values_put p hs.pool
  put_is p ps = rw (is.lane p ps) refl

  -- the items left on a lane are those put there that no diary says were taken
  pub left_is : (p : ℕ) → p < plan.lanes → items_left p r ≡ (lane_view plan p hs r).left
  left_is p ps = rw (is.lane p ps) refl

  -- if there is a diary, the mailbox has its consumer and its lane
  pub inside : (c p : ℕ) → (diary c p r ≡ None → ⊥) → IsInside plan c p
  inside c p some = by_cases (cases_lt c (consumers_of plan)) (cases_lt p plan.lanes)
    where
      -- the mailbox has the consumer and the lane: if it lacked one, there would be no diary
      by_cases : (c < consumers_of plan) ⊎ (consumers_of plan ≤ c) → (p < plan.lanes) ⊎ (plan.lanes ≤ p)
          → IsInside plan c p
      by_cases (inl cs) (inl ps) = (cs, ps)
      by_cases (inr past) o = absurd (some (diary_none c p (inr past)))
      by_cases (inl cs) (inr past) = absurd (some (diary_none c p (inl past)))

  -- a note of the report is in the diary of consumer c on lane p, and the mailbox has both
  pub note_in : (c p j : ℕ) (n : Note) → note c p j r ≡ Some n
      → (cs : c < consumers_of plan) × (ps : p < plan.lanes) × (slice_get (is.diary c p cs ps).0.notes j ≡ Some n)
  note_in c p j n e = (
    there.0,
    there.1,
    subst (λ (ns : List Note). slice_get ns j ≡ Some n)
        (notes_is c p there.0 there.1) e,
  )
    where
      there : IsInside plan c p
      there = inside c p (λ none. let q : slice_get {X = Note} [] j ≡ Some n = rw none at e in cc)

  -- if a note of consumer c is undecided, the mailbox has c, and some claim of c ended undecided
  pub undecided_in : (c p j : ℕ) → note c p j r ≡ Some Undecided
      → (c < consumers_of plan) × ((k : ℕ) × EndsAs plan.claims c k Undecided (parts_of c hs))
  undecided_in c p j e =
      let i = note_in c p j Undecided e in
      let d = is.diary c p i.0 i.1 in
      let at = d.2.notes j Undecided i.2 in
      (i.0, (at.0, at.2))
