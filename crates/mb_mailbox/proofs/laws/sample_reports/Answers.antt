use Rattle.std.proofs.Common.{◌≡◌, ◌≢◌, ◌⊎◌, ℕ, zero, suc, ◌+◌, ◌*◌, ◌<◌, true, false, List, [], ◌∷◌, length, refl, sym, ap, ◌∙◌, subst, inl, inr, arith}
use Rattle.std.proofs.lemmas.Bool.{false≢true, le-ltb}
use Rattle.std.specs.Prelude.{Option, Some, None, slice_get}
use Rattle.std.specs.Option.{option_map_or}
use Rattle.mb_world.specs.Theorem.{DiaryView, HasCompeted, diary, note}
use Rattle.mb_mailbox.specs.Imports.{Note, Undecided}
use Rattle.mb_mailbox.specs.GatheringSamples.{diary_of, one_left, two_undecided}
use Rattle.mb_mailbox.proofs.laws.sample_reports.Goals as goal

-- the diary of consumer d on lane 0 is element d of the diaries
at_place : (d : ℕ) (ds : List DiaryView) → diary d 0 (one_left ds) ≡ slice_get ds d
at_place d ds = let e : d * 1 + 0 ≡ d = omega arith in ap (slice_get ds) e

-- a consumer with this diary has competed for the first item
abbrev HasCompetedBy : Option DiaryView → Type 0
HasCompetedBy o =
    (0 < length (option_map_or (λ (d : DiaryView). d.notes) o []))
    ⊎ ((length (option_map_or (λ (d : DiaryView). d.notes) o []) ≡ 0)
    × (option_map_or (λ (d : DiaryView). d.begun) o false ≡ true))

-- in these two diaries only consumer 0 has competed for the item
no_company : (d : ℕ) → d ≢ 0 → HasCompetedBy (slice_get (diary_of 0 (Undecided ∷ []) ∷ diary_of 1 [] ∷ []) d) → ⊥
no_company zero ne h = ne refl
no_company (suc zero) ne (inl h) = omega arith
no_company (suc zero) ne (inr h) = false≢true h.1
no_company (suc (suc d)) ne (inl h) = omega arith
no_company (suc (suc d)) ne (inr h) = false≢true h.1

pub returns-clause-alone : goal.returns-clause-alone
returns-clause-alone c = λ h.
    let t = h 0 0 0 refl in
    no_company t.1.0 t.1.1 (subst HasCompetedBy
    (at_place t.1.0 (diary_of 0 (Undecided ∷ []) ∷ diary_of 1 [] ∷ [])) t.1.2)

-- there is no diary on another lane than 0
no_lane : (d p : ℕ) (ds : List DiaryView) → diary d (suc p) (one_left ds) ≡ None
no_lane d p ds = rw (le-ltb (suc p) 1 (omega arith)) refl

-- the note at position j of a diary
abbrev note_in : Option DiaryView → ℕ → Option Note
note_in o j = slice_get (option_map_or (λ (d : DiaryView). d.notes) o []) j

-- the diaries of two consumers, each with one undecided note
abbrev both : List DiaryView
both = diary_of 0 (Undecided ∷ []) ∷ diary_of 1 (Undecided ∷ []) ∷ []

-- if one of them has an undecided note at position j, both have competed for that item
company : (d j : ℕ) → note_in (slice_get both d) j ≡ Some Undecided
    → HasCompeted d 0 j two_undecided × ((e : ℕ) × (e ≢ d) × HasCompeted e 0 j two_undecided)
company zero zero h = (inl (omega arith), (1, (λ e. absurd (omega arith)), inl (omega arith)))
company zero (suc j) h = absurd (cc)
company (suc zero) zero h = (inl (omega arith), (0, (λ e. absurd (omega arith)), inl (omega arith)))
company (suc zero) (suc j) h = absurd (cc)
company (suc (suc d)) j h = absurd (cc)

pub returns-clause-company : goal.returns-clause-company
returns-clause-company c d p j h = by p h
  where
    by : (p : ℕ) → note d p j two_undecided ≡ Some Undecided
        → HasCompeted d p j two_undecided × ((e : ℕ) × (e ≢ d) × HasCompeted e p j two_undecided)
    by zero h = company d j (ap (λ o. note_in o j) (sym (at_place d both)) ∙ h)
    by (suc p) h =
        let q : slice_get {X = Note} [] j ≡ Some Undecided = ap (λ o. note_in o j) (sym (no_lane d p both)) ∙ h in
        absurd (cc)
