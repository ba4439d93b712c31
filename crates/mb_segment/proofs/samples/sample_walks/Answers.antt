use Rattle.mb_segment.proofs.Base.{[], ap, arith, get_elem?, inl, length, refl, some, some-injective, some-ne-none, subst, suc, sym}
use Rattle.mb_segment.proofs.Base.{None, if◌then◌else◌, length-append, ne_eqb, true≢false, zero, ◌∙◌, ◌≤◌, ℕ, ◌∷◌, ◌≡◌, ◌<◌}
use Rattle.mb_segment.specs.SegmentSamples.{looked_after, overslept, saw, sleeper, walk}
use Rattle.mb_segment.specs.Vocabulary.{Claimed, Drew, Fits, FoundEmpty, HasLooked, History, IsCalled, Issuer, Member, View, blank}
use Rattle.mb_segment.specs.Vocabulary.{new_hub, blind, sees_empty, times_empty}
use Rattle.mb_segment.proofs.Halves.{hub_is_no_member, hub_is_not_spent, spent_is_no_member}
use Rattle.mb_segment.proofs.Fitting.{refit, sighted}
use Rattle.mb_segment.proofs.PassMoves.{unseen}
use Rattle.mb_segment.proofs.Spots.{no_some}
use Rattle.mb_segment.proofs.Walks.{true_before}
use Rattle.mb_segment.proofs.samples.sample_walks.Goals as goal

pub returns-clause-empty : goal.returns-clause-empty
returns-clause-empty c = ((refl, (omega arith, tt)), (refl, tt))

pub returns-clause-waits : goal.returns-clause-waits
returns-clause-waits c t = let e = t.0 in absurd (omega arith)

pub returns-clause-room : goal.returns-clause-room
returns-clause-room c t = let e = t.0 in absurd (omega arith)

pub returns-clause-claim : goal.returns-clause-claim
returns-clause-claim c t = let e = t.0 in absurd (omega arith)

pub returns-clause-later : goal.returns-clause-later
returns-clause-later c = (FoundEmpty 2 ∷ Claimed ∷ [], refl)

pub returns-clause-back : goal.returns-clause-back
returns-clause-back c g = let e = ap length g.1 in let l = length-append g.0 walk in absurd (omega arith)

abbrev one_out : View ℕ
one_out = record new_hub { out = 1 }

abbrev no_entry : History ℕ
no_entry = record { claims = []; rest = []; cutter = None }

fits_here : (n : ℕ) (v : View ℕ) → get_elem? (one_out ∷ sees_empty 0 [] blank ∷ []) n ≡ some v
    → Fits no_entry (0 ∷ []) 0 0 [] n v
fits_here zero v at = subst (λ (u : View ℕ). Fits no_entry (0 ∷ []) 0 0 [] 0 u) (some-injective one_out v at)
    (refit no_entry (0 ∷ []) 0 0 [] 0 new_hub one_out (refl, refl, refl, refl, refl, refl, refl, λ _ e. e)
    (unseen no_entry (0 ∷ []) 0 0 [] 0 0 Issuer (λ e. absurd (hub_is_no_member e)) (λ _. (refl, tt))
    (λ e. absurd (hub_is_not_spent Issuer refl e))))
fits_here (suc zero) v at = subst (λ (u : View ℕ). Fits no_entry (0 ∷ []) 0 0 [] 1 u)
    (some-injective (sees_empty 0 [] blank) v at)
    (sighted no_entry (0 ∷ []) 0 0 [] 1 blank record blind { found = 1 }
    (unseen no_entry (0 ∷ []) 0 0 [] 1 0 Member
    (λ _. record { sent = refl; got = refl; cut = refl; no_hub = λ q. omega arith; not_back = λ in_. in_ })
    (λ e. absurd (hub_is_no_member (sym e))) (λ e. absurd (spent_is_no_member (sym e))))
    (omega arith) (λ i e. absurd (no_some i e)) (λ e. absurd (true≢false (sym e)))
    (λ e. absurd (true≢false (sym e))) (omega arith))
fits_here (suc (suc n)) v at = absurd (some-ne-none v (sym at))

looked_here : (n : ℕ) (v : View ℕ) → get_elem? (one_out ∷ sees_empty 0 [] blank ∷ []) n ≡ some v → v.role ≡ Member
    → HasLooked (FoundEmpty 1 ∷ []) n v.sight
looked_here zero v at r = absurd (hub_is_no_member (ap (λ (u : View ℕ). u.role) (some-injective one_out v at) ∙ r))
looked_here (suc zero) v at r = subst (λ (u : View ℕ). HasLooked (FoundEmpty 1 ∷ []) 1 u.sight)
    (some-injective (sees_empty 0 [] blank) v at) (refl, λ _. (([], refl), refl, refl))
looked_here (suc (suc n)) v at r = absurd (some-ne-none v (sym at))

called_here : (n : ℕ) (v : View ℕ) → get_elem? (one_out ∷ sees_empty 0 [] blank ∷ []) n ≡ some v
    → IsCalled (λ j. 0) [] n v
called_here zero v at = subst (λ (u : View ℕ). IsCalled (λ j. 0) [] 0 u) (some-injective one_out v at)
    (λ _. refl, λ _. tt)
called_here (suc zero) v at = subst (λ (u : View ℕ). IsCalled (λ j. 0) [] 1 u)
    (some-injective (sees_empty 0 [] blank) v at) (λ _. refl, λ _. tt)
called_here (suc (suc n)) v at = absurd (some-ne-none v (sym at))

undrawn_here : (j : ℕ) → 0 ≤ j → j < 1
    → (get_elem? {A = ℕ} (0 ∷ []) j ≡ some 0) × (get_elem? (looked_after []).homes j ≡ some (some None))
undrawn_here zero le lt = (refl, refl)
undrawn_here (suc j) le lt = absurd (omega arith)

no_look : (n : ℕ) → 2 ≤ n → times_empty n (FoundEmpty 1 ∷ []) ≡ 0
no_look n le = ap (λ b. if b then 1 else 0) (ne_eqb 1 n (λ q. omega arith))

pub returns-clause-looked : goal.returns-clause-looked
returns-clause-looked c = record {
  history = no_entry;
  states = 0 ∷ [];
  tokens = 0;
  waiting = 0;
  cut = 0;
  words = refl;
  narrow = omega arith;
  sized = refl;
  small = omega arith;
  within = omega arith;
  cutter = refl;
  walk = FoundEmpty 1 ∷ [];
  walked = (refl, refl);
  true_ = (refl, tt);
  looked = looked_here;
  names = λ j. 0;
  short = λ j. omega arith;
  called = called_here;
  undrawn = undrawn_here;
  waits = λ k e le at. absurd (some-ne-none e (sym at));
  taken_ = λ k c at. absurd (some-ne-none c (sym at));
  counted = refl;
  given = refl;
  quiet = inl (omega arith);
  shut = inl (omega arith);
  hub = 0;
  roll = [];
  idle = (refl, refl, refl);
  apart = tt;
  rolled = λ n in_. absurd in_;
  known = omega arith;
  out_ = refl;
  newborn = λ n l. (refl, refl, refl, no_look n l);
  fits = fits_here;
}

pub returns-clause-overlooked : goal.returns-clause-overlooked
returns-clause-overlooked c k =
    let l = (k.looked 1 (sees_empty 0 (Drew ∷ []) blank) refl refl).1 (omega arith) in
    let e = (true_before (length k.states) l.0 k.true_).0 in absurd (omega arith)

pub returns-clause-looks : goal.returns-clause-looks
returns-clause-looks c = record {
  number = 1;
  none_yet = λ d. d;
  none_ever = λ d. d;
  before = (sees_empty 0 [] blank, []);
  after = (sees_empty 0 [] (sees_empty 0 [] blank), []);
  here = refl;
  looks = (
    (λ lt. absurd (omega arith)),
    (λ _ _. ([], (refl, refl), (tt, λ p e. absurd (no_some p e)))),
    λ _ le. absurd (omega arith),
  );
  counts = omega arith;
}

low_there : (n : ℕ) (v : View ℕ) → get_elem? overslept.views n ≡ some v → v.sight.low ≡ 0
low_there zero v at = ap (λ (u : View ℕ). u.sight.low) (sym (some-injective (record new_hub { out = 2 }) v at))
low_there (suc zero) v at = ap (λ (u : View ℕ). u.sight.low) (sym (some-injective (saw 0) v at))
low_there (suc (suc zero)) v at = ap (λ (u : View ℕ). u.sight.low) (sym (some-injective sleeper v at))
low_there (suc (suc (suc n))) v at = absurd (some-ne-none v (sym at))

pub returns-clause-overlooks : goal.returns-clause-overlooks
returns-clause-overlooks c x =
    let l = low_there x.number x.before.0 x.here in let more = x.counts in
    let e = ap (λ (u : View ℕ). u.sight.found) (x.looks.0 (omega arith)).0 in absurd (omega arith)
