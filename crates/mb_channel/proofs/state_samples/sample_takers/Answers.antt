use Rattle.std.proofs.Common.{ℕ, zero, suc, [], ◌∷◌, ◌≡◌, ◌⊎◌, ◌<◌, ◌∙◌, length, refl, sym, ap, subst, inl, inr, ⊎_elim, arith, true, false, true≢false}
use mathlib.Core.Option.{some, some-injective, some-ne-none}
use lib.ListN.{get_elem?}
use Rattle.mb_segment.specs.Vocabulary.{IsViewOf, SegmentState}
use Rattle.mb_segment.specs.declared.view.Role.{TheVariants.Issuer}
use Rattle.mb_channel.specs.Types.{Account, Home, Knows, View}
use Rattle.mb_channel.specs.Homes.{came_back, first_view}
use Rattle.mb_channel.specs.States.{HasReceiver}
use Rattle.mb_channel.proofs.state_samples.sample_takers.Goals as goal

first_there : (j : ℕ) → j < 1 → HasReceiver {T = ℕ} (first_view ∷ []) j
first_there zero lt = (0, first_view, refl, (refl, refl))
first_there (suc j) lt = absurd (omega arith)

-- the home of the only segment
abbrev Back : (ℕ → SegmentState ℕ) → ℕ → Home ℕ → Type 0
Back now j h = (n : ℕ) × (w : View ℕ) × IsViewOf (now j) n w × (w.role ≡ Issuer) × ((w.ends ≡ came_back h)
    ⊎ ((a : Account ℕ) × (w.ends ≡ a ∷ came_back h) × ((a.got ≡ []) ⊎ HasReceiver {T = ℕ} (first_view ∷ []) j)))

only_one : (now : ℕ → SegmentState ℕ) (h : Home ℕ) → Back now 0 h → (j : ℕ) (x : Home ℕ)
    → get_elem? (h ∷ []) j ≡ some x → Back now j x
only_one now h b zero x at = subst (λ y. Back now 0 y) (some-injective h x at) b
only_one now h b (suc j) x at = absurd (some-ne-none x (sym at))

pub returns-clause-first : goal.returns-clause-first
returns-clause-first c now h n w here is same = record {
  out = λ j m v lt pass. inr (first_there j lt);
  back = only_one now h (n, w, here, is, inl same);
}

sender_alone : (j : ℕ) (v : Knows ℕ) → get_elem? (record first_view { at = 1; takes = false } ∷ []) j ≡ some v
    → v.takes ≡ true → ⊥
sender_alone zero v at is = true≢false (sym is ∙ ap (λ (z : Knows ℕ). z.takes) (sym (some-injective _ v at)))
sender_alone (suc j) v at is = some-ne-none v (sym at)

first_alone : (j : ℕ) (v : Knows ℕ) → get_elem? (first_view ∷ []) j ≡ some v → v.at ≡ 1 → ⊥
first_alone zero v at is = let e = ap (λ (z : Knows ℕ). z.at) (some-injective first_view v at) in
    absurd (omega (arith, e, is))
first_alone (suc j) v at is = some-ne-none v (sym at)

pub returns-clause-took : goal.returns-clause-took
returns-clause-took c now h g n v pass got t = ⊎_elim
    (λ none. let e = ap length (sym got ∙ none.0) in absurd (omega (arith, e)))
    (λ r. sender_alone r.0 r.1 r.2 r.3.0) (t.out 1 n v (omega arith) pass)

pub returns-clause-sleeps : goal.returns-clause-sleeps
returns-clause-sleeps c now h g n v pass one t = ⊎_elim
    (λ none. let e = none.1 in absurd (omega (arith, e, one)))
    (λ r. first_alone r.0 r.1 r.2 r.3.1) (t.out 1 n v (omega arith) pass)
