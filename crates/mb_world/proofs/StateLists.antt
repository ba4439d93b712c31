-- Lists whose elements are made one by one: those of a report, and the places of a new world.
use Rattle.std.proofs.Common.{◌≡◌, ℕ, ◌+◌, ◌*◌, ◌<◌, ◌++◌, List, [], ◌∷◌, length, Some, refl, sym, ◌∙◌, subst, inl, inr, arith, length-append}
use Rattle.std.specs.Prelude.{slice_get}
use Rattle.std.proofs.lemmas.Bool.{cases_lt}
use Rattle.std.proofs.lemmas.Nat.{same_from_place}
use Rattle.mb_cells.specs.declared.cursor.Cursor.TheVariants.{Head}
use Rattle.mb_world.specs.declared.place.Place.{Place}
use Rattle.mb_world.specs.declared.place.Place.TheVariants.{Before}
use Rattle.mb_world.specs.Places.{AreAtHeads}
use Rattle.mb_world.specs.Theorem.{DiaryView, LaneView}
use Rattle.mb_world.specs.Setups.{plan_in}
use Rattle.mb_world.specs.StateReport.{AreDiariesTold, AreLanesTold, IsDiaryTold, IsLaneTold}
use Rattle.mb_world.specs.WorldState.{WorldState}
use Rattle.mb_world.proofs.Positions.{get-last, get-front}

-- an element put at the end of a list is at the position that is the list's length
get_end : {A : Type 0} (xs : List A) (y : A) (i : ℕ) → i ≡ length xs → slice_get (xs ++ y ∷ []) i ≡ Some y
get_end {A} xs y i e = subst (λ j. slice_get (xs ++ y ∷ []) j ≡ Some y) (sym e) (get-last xs y)

-- if the state tells the reports of the first n lanes and that of lane n, it tells those of the first n + 1
pub lanes_more : (s : WorldState) (n : ℕ) (l : LaneView) (ls : List LaneView) → AreLanesTold s n ls → IsLaneTold s n l
    → AreLanesTold s (n + 1) (ls ++ l ∷ [])
lanes_more s n l ls told here = record {
  count = omega (arith, length-append ls (l ∷ []), told.count);
  each = λ p less. elim (cases_lt p n) [
    | inl old ↦ let q = told.each p old in (q.0, get-front ls (l ∷ []) p q.0 q.1, q.2)
    | inr new ↦ (
      l,
      get_end ls l p (omega (arith, told.count, less, new)),
      subst (λ i. IsLaneTold s i l) (omega (arith, less, new)) here,
    )
  ];
}

-- if the elements of a grid have the property P, and one more at row c and column p has it, all of them have it
grid_more : {A : Type 0} (P : ℕ → ℕ → A → Type 0) (w c p : ℕ) (xs : List A) (y : A) → p < w
    → length xs ≡ c * w + p → ((e q : ℕ) → q < w → e * w + q < c * w + p
    → (x : A) × (slice_get xs (e * w + q) ≡ Some x) × P e q x) → P c p y
    → (e q : ℕ) → q < w → e * w + q < c * w + (p + 1)
    → (x : A) × (slice_get (xs ++ y ∷ []) (e * w + q) ≡ Some x) × P e q x
grid_more P w c p xs y ps count each here e q qs less = elim (cases_lt (e * w + q) (c * w + p)) [
  | inl old ↦ let x = each e q qs old in (x.0, get-front xs (y ∷ []) (e * w + q) x.0 x.1, x.2)
  | inr new ↦
      let same : e * w + q ≡ c * w + p = omega (arith, less, new) in
      let at = same_from_place e q c p w qs ps same in (
        y,
        get_end xs y (e * w + q) (same ∙ sym count),
        subst (λ i. P i q y) (sym at.0) (subst (λ i. P c i y) (sym at.1) here),
      )
]

-- if the state tells the diaries before that of consumer c on lane p, and this one of c on p, it tells them all
pub diaries_more : (s : WorldState) (c p : ℕ) (d : DiaryView) (ds : List DiaryView) → p < (plan_in s.setup).lanes
    → AreDiariesTold s (c * (plan_in s.setup).lanes + p) ds → IsDiaryTold s c p d
    → AreDiariesTold s (c * (plan_in s.setup).lanes + (p + 1)) (ds ++ d ∷ [])
diaries_more s c p d ds ps told here = record {
  count = omega (arith, length-append ds (d ∷ []), told.count);
  each = grid_more (IsDiaryTold s) (plan_in s.setup).lanes c p ds d ps told.count told.each here;
}

-- if each of these places is before the head of its lane, and the next one before the head of lane p, all of them are
pub heads_more : (lanes c p : ℕ) (places : List Place) → p < lanes → AreAtHeads lanes (c * lanes + p) places
    → AreAtHeads lanes (c * lanes + (p + 1)) (places ++ Before (Head p) ∷ [])
heads_more lanes c p places ps heads = record {
  count = omega (arith, length-append places (Before (Head p) ∷ []), heads.count);
  each = grid_more (λ e q d. d ≡ Before (Head q)) lanes c p places (Before (Head p)) ps heads.count heads.each refl;
}
