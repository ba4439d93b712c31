-- Small reports of one lane: which diaries and notes they have, and which they have not.
use Rattle.std.proofs.Common.{◌≡◌, ℕ, suc, ◌+◌, ◌*◌, ◌≤◌, false, List, [], length, Option, Some, None, refl, sym, ◌∙◌, ap, inl, inr, arith}
use Rattle.std.specs.Prelude.{slice_get}
use Rattle.std.specs.Option.{option_map_or}
use Rattle.std.proofs.lemmas.Bool.{false≢true, le-ltb}
use Rattle.std.proofs.lemmas.Option.{slice_get_past}
use Rattle.mb_world.specs.declared.report.Note.{Note}
use Rattle.mb_world.specs.Theorem.{DiaryView, HasCompeted, ReportView, diary, is_begun, note, notes}
use Rattle.mb_world.specs.ReportSamples.{report_of}

-- the diary of consumer c on lane 0 is at position c
pub at_position : (c : ℕ) (xs ys : List ℕ) (ds : List DiaryView) → diary c 0 (report_of xs ys ds) ≡ slice_get ds c
at_position c xs ys ds =
    let e : c * 1 + 0 ≡ c = omega arith in ap (slice_get ds) e

-- a consumer whose number is past the list of diaries has no diary
pub no_diary : (c : ℕ) (xs ys : List ℕ) (ds : List DiaryView) → length ds ≤ c → diary c 0 (report_of xs ys ds) ≡ None
no_diary c xs ys ds past = at_position c xs ys ds ∙ slice_get_past ds c past

-- a consumer without a diary on a lane has no note there
pub not_noted : (c p j : ℕ) (r : ReportView) (n : Note) → diary c p r ≡ None → note c p j r ≡ Some n → ⊥
not_noted c p j r n none e = let q : slice_get {X = Note} [] j ≡ Some n = rw none at e in cc

-- a consumer without a diary on a lane did not compete there
pub not_competing : (c p j : ℕ) (r : ReportView) → diary c p r ≡ None → HasCompeted c p j r → ⊥
not_competing c p j r none (inl h) =
    let e : notes c p r ≡ [] = ap (λ (o : Option DiaryView). option_map_or (λ d. d.notes) o []) none in
    omega (arith, h, ap length e)
not_competing c p j r none (inr h) =
    let e : is_begun c p r ≡ false = ap (λ (o : Option DiaryView). option_map_or (λ d. d.begun) o false) none in
    false≢true (sym e ∙ h.1)

-- no consumer has a diary on another lane than lane 0
pub no_lane : (c p : ℕ) (xs ys : List ℕ) (ds : List DiaryView) → diary c (suc p) (report_of xs ys ds) ≡ None
no_lane c p xs ys ds = rw (le-ltb (suc p) 1 (omega arith)) refl
