use Rattle.mb_segment.proofs.Base.{List, [], ap, arith, get_elem?, inl, length, refl, some, some-injective, some-ne-none, subst, suc, sym}
use Rattle.mb_segment.proofs.Base.{None, false, slice_index, zero, ℕ, ⊎_elim, ◌-◌, ◌+◌, ◌∷◌, ◌≡◌, ◌≢◌, ◌≤◌}
use Rattle.mb_segment.specs.SegmentSamples.{account, forgotten, giver, marked_as, overslept, sleeper, taken, unused, view, with_tokens, woken}
use Rattle.mb_segment.specs.Vocabulary.{Has, Spot, all_entries, spot}
use Rattle.mb_segment.specs.Vocabulary.{Account, Called, Duty, Fits, HasLooked, History, IsCalled, Issuer, Keeps, Member, View, blank, drawn, free, if_hub, listed, member, new_hub, one_if_member, out}
use Rattle.mb_segment.specs.Vocabulary.{Sight, owes_wake, row, sleeping, takes_token, tokens_given, tokens_taken, with_duty}
use Rattle.mb_segment.proofs.Halves.{hub_is_no_member, hub_is_not_spent, spent_is_no_member}
use Rattle.mb_segment.proofs.Kept.{at0, at1, at2}
use Rattle.mb_segment.proofs.Fitting.{Plain, refit}
use Rattle.mb_segment.proofs.LookMoves.{none_free}
use Rattle.mb_segment.proofs.PassMoves.{opens, unseen}
use Rattle.mb_segment.proofs.Places.{drawn_at, new_open}
use Rattle.mb_segment.proofs.Spots.{index_at, state_word}
use Rattle.mb_segment.proofs.samples.sample_states.Goals as goal

pub returns-clause-new : goal.returns-clause-new
returns-clause-new c = opens 1 (omega arith)

pub returns-clause-cut : goal.returns-clause-cut
returns-clause-cut c k = new_open (unused 9223372036854775808) k refl (omega arith)

pub returns-clause-overslept : goal.returns-clause-overslept
returns-clause-overslept c k =
    let d = at0 overslept k in let t = at1 overslept k in let l = at2 overslept k in
    let n = k.narrow in let w = k.within in let m = k.small in
    ⊎_elim (λ x. absurd (omega arith)) (λ x. absurd (omega arith)) k.quiet

pub returns-clause-forgotten : goal.returns-clause-forgotten
returns-clause-forgotten c k =
    let d = at0 forgotten k in let t = at1 forgotten k in let l = at2 forgotten k in
    let n = k.narrow in let z = k.sized in let w = k.within in
    let none_ : free k.cut (length k.states - drawn k.history) ≡ 0 = none_free k.cut
    (length k.states - drawn k.history) 0 (length k.states) (omega arith) (omega arith) (omega arith) in
    ⊎_elim (λ x. absurd (omega arith)) (λ x. absurd (omega arith)) k.shut

pub returns-clause-unpaid : goal.returns-clause-unpaid
returns-clause-unpaid c k =
    let f = k.fits 0 (with_duty owes_wake new_hub) refl in
    let q = ap (λ (d : Duty). d.wakes) (f.debt hub_is_no_member) in absurd (omega arith)

pub returns-clause-misnamed : goal.returns-clause-misnamed
returns-clause-misnamed c k =
    let s = marked_as 7 in
    let t = at1 s k in
    let m = (k.fits 1 (view (account (spot 0 10 ∷ []) [] false)) refl).member refl in
    let d = drawn_at 1 0 10 0 (all_entries k.history)
    (subst (λ (l : List (Spot ℕ)). Has 0 10 l) m.sent (inl (refl, refl))) in
    let first : d.0 ≡ 0 = let q = d.2 in omega arith in
    let at_ = subst (λ (l : ℕ). get_elem? (all_entries k.history) l ≡ some d.1) first d.3 in
    let says : slice_index k.states 0 ≡ 8 = sym (ap (λ l. slice_index l (state_word 0)) k.words) in
    let none_ : 0 ≡ k.names 1 = (k.called 1 (view (account (spot 0 10 ∷ []) [] false)) refl).0 refl in
    let by = ap k.names d.4 in
    ⊎_elim
    (λ z. let e = index_at k.states 0 0 z.0 in absurd (omega arith))
    (λ z. let e = index_at k.states 0 (k.names d.1.by + 1) z.0 in absurd (omega arith))
    (k.waits 0 d.1 (omega arith) at_)

-- ---- a segment with no position, with tokens or not
abbrev two_out : View ℕ
two_out = record new_hub { out = 2 }

abbrev no_entry : History ℕ
no_entry = record { claims = []; rest = []; cutter = None }

is_pass : (n : ℕ) → n ≢ 0 → Fits no_entry [] 0 0 [] n blank
is_pass n apart = unseen no_entry [] 0 0 [] n 0 Member
    (λ _. record { sent = refl; got = refl; cut = refl; no_hub = apart; not_back = λ in_. in_ })
    (λ e. absurd (hub_is_no_member (sym e))) (λ e. absurd (spent_is_no_member (sym e)))

-- one that did nothing, and stands in the list as often as there are tokens
module _ (one : View ℕ) (plain_ : Plain blank one) where
  fits_both : (n : ℕ) (v : View ℕ) → get_elem? (two_out ∷ one ∷ giver ∷ []) n ≡ some v
      → Fits no_entry [] 0 0 [] n v
  fits_both zero v at = subst (λ (u : View ℕ). Fits no_entry [] 0 0 [] 0 u) (some-injective two_out v at)
      (refit no_entry [] 0 0 [] 0 new_hub two_out (refl, refl, refl, refl, refl, refl, refl, λ _ e. e)
      (unseen no_entry [] 0 0 [] 0 0 Issuer (λ e. absurd (hub_is_no_member e)) (λ _. (refl, tt))
      (λ e. absurd (hub_is_not_spent Issuer refl e))))
  fits_both (suc zero) v at = subst (λ (u : View ℕ). Fits no_entry [] 0 0 [] 1 u) (some-injective one v at)
      (refit no_entry [] 0 0 [] 1 blank one plain_ (is_pass 1 (λ q. omega arith)))
  fits_both (suc (suc zero)) v at = subst (λ (u : View ℕ). Fits no_entry [] 0 0 [] 2 u) (some-injective giver v at)
      (refit no_entry [] 0 0 [] 2 blank giver (refl, refl, refl, refl, refl, refl, refl, λ _ e. e)
      (is_pass 2 (λ q. omega arith)))
  fits_both (suc (suc (suc n))) v at = absurd (some-ne-none v (sym at))

  looked_both : (n : ℕ) (v : View ℕ) → get_elem? (two_out ∷ one ∷ giver ∷ []) n ≡ some v → HasLooked [] n v.sight
  looked_both zero v at =
      subst (λ (u : View ℕ). HasLooked [] 0 u.sight) (some-injective two_out v at) (refl, λ lt. absurd (omega arith))
  looked_both (suc zero) v at = subst (λ (u : View ℕ). HasLooked [] 1 u.sight) (some-injective one v at)
      (subst (λ (x : Sight). HasLooked [] 1 x) (sym plain_.3) (refl, λ lt. absurd (omega arith)))
  looked_both (suc (suc zero)) v at =
      subst (λ (u : View ℕ). HasLooked [] 2 u.sight) (some-injective giver v at) (refl, λ lt. absurd (omega arith))
  looked_both (suc (suc (suc n))) v at = absurd (some-ne-none v (sym at))

  called_both : (n : ℕ) (v : View ℕ) → get_elem? (two_out ∷ one ∷ giver ∷ []) n ≡ some v
      → IsCalled (λ j. 0) [] n v
  called_both zero v at = subst (λ (u : View ℕ). IsCalled (λ j. 0) [] 0 u) (some-injective two_out v at)
      (λ _. refl, λ _. tt)
  called_both (suc zero) v at = subst (λ (u : View ℕ). IsCalled (λ j. 0) [] 1 u) (some-injective one v at) (
    λ _. ap (λ (a : Account ℕ). a.name) plain_.1,
    λ _. subst (λ (as_ : List (Account ℕ)). Called (λ j. 0) [] as_) (sym plain_.5) tt,
  )
  called_both (suc (suc zero)) v at = subst (λ (u : View ℕ). IsCalled (λ j. 0) [] 2 u) (some-injective giver v at)
      (λ _. refl, λ _. tt)
  called_both (suc (suc (suc n))) v at = absurd (some-ne-none v (sym at))

  keeps_both : (t : ℕ) → t ≤ 1 → listed one ≡ t → sleeping one ≤ t → one.role ≡ Member → one.out ≡ 0
      → tokens_given one ≡ 0 → t + tokens_taken one ≡ 1 → Keeps (with_tokens t one giver)
  keeps_both t small in_ sleeps role out_ gave took = record {
    history = no_entry;
    states = [];
    tokens = t;
    waiting = 0;
    cut = 0;
    words = ap (λ m. row 0 0 m []) (omega arith);
    narrow = omega arith;
    sized = refl;
    small = omega arith;
    within = omega arith;
    cutter = refl;
    walk = [];
    walked = (refl, refl);
    true_ = tt;
    looked = λ n v at r. looked_both n v at;
    names = λ j. 0;
    short = λ j. omega arith;
    called = called_both;
    undrawn = λ k le lt. absurd (omega arith);
    waits = λ k e le at. absurd (some-ne-none e (sym at));
    taken_ = λ k c at. absurd (some-ne-none c (sym at));
    counted = omega arith;
    given = omega arith;
    quiet = inl (omega arith);
    shut = inl (omega arith);
    hub = 0;
    roll = [];
    idle = (refl, refl, refl);
    apart = tt;
    rolled = λ n in_. absurd in_;
    known = omega arith;
    out_ = let a : member one ≡ 1 = ap one_if_member role in
        let b : out one ≡ 0 = ap (λ r. if_hub r one.out) role in omega arith;
    newborn = λ n l. (refl, refl, refl, refl);
    fits = fits_both;
  }

pub returns-clause-given : goal.returns-clause-given
returns-clause-given c = keeps_both sleeper (refl, refl, refl, refl, refl, refl, refl, λ no_ e. absurd (no_ refl))
    1 (omega arith) refl (omega arith) refl refl refl refl

pub returns-clause-taken : goal.returns-clause-taken
returns-clause-taken c = keeps_both (takes_token blank) (refl, refl, refl, refl, refl, refl, refl, λ _ e. e)
    0 (omega arith) refl (omega arith) refl refl refl refl

pub returns-clause-from_nobody : goal.returns-clause-from_nobody
returns-clause-from_nobody c k =
    let l = at2 (woken blank) k in let n = k.narrow in let t = k.given in absurd (omega arith)

pub returns-clause-taken_from_nobody : goal.returns-clause-taken_from_nobody
returns-clause-taken_from_nobody c k =
    let l = at2 (taken blank) k in let n = k.narrow in let t = k.given in absurd (omega arith)
