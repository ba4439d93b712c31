-- The looks of a receiver keep the rule: at the number claimed, then at the number drawn.
use Rattle.mb_segment.proofs.Base.{Allows, List, None, Option, Some, [], ap, arith, dec_le, dec_lt, dite, get_elem?, inl, inr, keeps, length}
use Rattle.mb_segment.proofs.Base.{none, refl, slice_index, some, step, subst, suc, sym, zero, ℕ, ⊎_elim, ◌%◌, ◌*◌}
use Rattle.mb_segment.proofs.Base.{◌+◌, ◌-◌, ◌<◌, ◌∷◌, ◌≡◌, ◌≤◌}
use Rattle.mb_segment.specs.Vocabulary.{Below, Duty, Fits, FoundEmpty, Issuer, Keeps, Member, Role, SawAllTaken, Sat, Spent}
use Rattle.mb_segment.specs.Vocabulary.{Spot, View, all_entries}
use Rattle.mb_segment.specs.Vocabulary.{done, drawn, falls_asleep}
use Rattle.mb_segment.specs.Vocabulary.{free, listed, looked, no_duty, looking, mark_in, seeing_taken, sees_empty, sees_taken, told, with_duty}
use Rattle.mb_segment.proofs.Spots.{all_length, below_by, nothing_left}
use Rattle.mb_segment.proofs.Halves.{free_open}
use Rattle.mb_segment.proofs.Kept.{Goes, St, at0, at1, at_rest, loaded, now, settled}
use Rattle.mb_segment.proofs.Kept.{stays, steady}
use Rattle.mb_segment.proofs.Fitting.{Plain, StaysIdle, refit, sighted}
use Rattle.mb_segment.proofs.Walks.{a_look}

-- a view that differs in what it owes alone
pub plain : {T : Type 0} (f : Duty → Duty) (v : View T) → StaysIdle v (f v.duty) → Plain v (with_duty f v)
plain f v idle = (refl, refl, refl, refl, refl, refl, refl, idle)

-- who owes something, or is in the list, is a pass
pub owing : {T : Type 0} (x : Duty → ℕ) (v : View T) (d : Duty) → x no_duty ≡ 0 → 0 < x v.duty → StaysIdle v d
owing x v d none_ some_ no_ e = let q : x v.duty ≡ x no_duty = ap x e in absurd (omega arith)

-- the pass owes other things, and is in the list as often as before
abbrev pub StaysListed : {T : Type 0} → (Duty → Duty) → View T → Type 0
StaysListed f v = (listed (with_duty f v) ≡ listed v) × ((f v.duty).closing ≡ v.duty.closing)
    × StaysIdle v (f v.duty)

-- a number drawn at or above the number of positions, with the top bit or without, says that none is free
pub none_free : (k_cut undrawn r n : ℕ) → n ≤ r → r ≡ (n - undrawn) + 9223372036854775808 * k_cut → undrawn ≤ n
    → free k_cut undrawn ≡ 0
none_free zero undrawn r n le is in_ = omega arith
none_free (suc c) undrawn r n le is in_ = refl

-- and the other way round
pub all_drawn : (k_cut undrawn n r size : ℕ) → free k_cut undrawn ≡ 0 → r
    ≡ (n - undrawn) + 9223372036854775808 * k_cut → n ≡ size
    → n < 9223372036854775808 → size ≤ r
all_drawn zero undrawn n r size none_ is same_ small = omega arith
all_drawn (suc c) undrawn n r size none_ is same_ small = omega arith

mark_below : (x : Option ℕ) (r : ℕ) → ((j : ℕ) → x ≡ Some j → j ≤ r) → mark_in x ≤ r + 1
mark_below None r all = omega arith
mark_below (Some j) r all = let l = all j refl in omega arith

module _ {T : Type 0} where
  pub sees_taken_at : (slots n : ℕ) (me : Sat T)
      → Allows Keeps slots n me 16 (λ r. r) (seeing_taken (step slots 16 0 0 none) me)
  sees_taken_at slots n me s k homes at small =
      let now_ = at1 s k in
      let r = slice_index s.words 16 in
      let fit = k.fits n me.0 at in (
        sees_taken r me.0,
        keeps,
        tt,
        loaded s 16 n me.1 (sees_taken r me.0) (settled s k n me.0 (sees_taken r me.0) at refl refl refl refl refl
            (refl, refl, refl)
            (sighted k.history k.states k.cut k.hub k.roll n me.0 record me.0.sight { low = r } fit
            (omega arith) fit.ripe fit.full fit.cut_ fit.empty)
            (at_rest s k me.0 (sees_taken r me.0) refl)),
        ((refl, refl), mark_below me.0.sight.ripe r (λ j e. let l = (fit.ripe j e).2 in omega arith)),
      )

  -- nothing waits where no more are drawn than were claimed before
  pub nothing_waits : (s : St T) (k : Keeps s) (n : ℕ) (v : View T) → get_elem? s.views n ≡ some v
      → slice_index s.words 0 % 9223372036854775808 ≤ v.sight.low → k.history.rest ≡ []
  nothing_waits s k n v at le =
      let now_ = at0 s k in let many = k.sized in let small = k.small in let in_ = k.within in
      let low = (k.fits n v at).low in
      nothing_left k.history.rest (omega arith)

  -- where all that are drawn are below r, those are that the pass drew or saw marked
  all_below : (s : St T) (k : Keeps s) (n : ℕ) (v : View T) → get_elem? s.views n ≡ some v → (r : ℕ)
      → drawn k.history ≤ r → SawAllTaken (sees_empty r k.walk v)
  all_below s k n v at r le = (
    sent (k.fits n v at) le v.role refl,
    λ p e. let t = (k.fits n v at).ripe p e in
        dite (dec_lt p r) (λ lt. lt) (λ high. absurd (t.1 (k.undrawn p (omega arith) t.0).0)),
  )
    where
      sent : Fits k.history k.states k.cut k.hub k.roll n v → drawn k.history ≤ r → (a : Role) → v.role ≡ a
          → Below r v.account.sent
      sent fit le Issuer e = subst (λ (l : List (Spot T)). Below r l) (sym (fit.hub_ e).idle) tt
      sent fit le Spent e = subst (λ (l : List (Spot T)). Below r l) (sym (fit.back e).2) tt
      sent fit le Member e = let many = all_length k.history in
          subst (λ (l : List (Spot T)). Below r l) (sym (fit.member e).sent)
          (below_by n 0 r (all_entries k.history) (omega arith))

  looks_at : (f g : Duty → Duty) (slots n : ℕ) (me : Sat T) → StaysListed f me.0 → StaysListed g me.0
      → (g me.0.duty).asleep ≡ me.0.duty.asleep
      → (s : St T) (k : Keeps s) → length s.homes ≡ slots → get_elem? s.views n ≡ some me.0
      → Dec (slice_index s.words 0 % 9223372036854775808 ≤ me.0.sight.low) → Dec (slice_index s.words 0 < slots)
      → Goes s 0 n me (looking f g (step slots 0 0 0 none) me) (slice_index s.words 0)
  looks_at f g slots n me lf lg sleeps s k homes at (no some_) open_ = (
    me.0,
    keeps,
    tt,
    stays s k 0 n me.0 at me.1,
    (
      (λ _. (refl, refl)),
      (λ le _. absurd (some_ le)),
      λ le _. absurd (some_ le),
    ),
  )
  looks_at f g slots n me lf lg sleeps s k homes at (yes none_) (yes open_) =
      let r = slice_index s.words 0 in
      let w = sees_empty r k.walk (with_duty f me.0) in
      let now_ = at0 s k in let many = k.sized in let small = k.small in let in_ = k.within in
      let empty = nothing_waits s k n me.0 at none_ in
      let zero_ : length k.history.rest ≡ 0 = ap length empty in
      let not_cut : k.cut ≡ 0 = omega arith in
      let fit = k.fits n me.0 at in
      let free_is = free_open k.cut (length k.states - drawn k.history) not_cut in
      let l = lf.0 in (
        w,
        keeps,
        tt,
        loaded s 0 n me.1 w (steady s k n me.0 w record (now s k) { walk = FoundEmpty n ∷ k.walk } at record {
          words = k.words;
          narrow = k.narrow;
          counted = omega arith;
          given = omega arith;
          card = refl;
          out_ = refl;
          half = refl;
          own = sighted k.history k.states k.cut k.hub k.roll n (with_duty f me.0) w.sight
              (refit k.history k.states k.cut k.hub k.roll n me.0 (with_duty f me.0) (plain f me.0 lf.2) fit)
              fit.low fit.ripe fit.full fit.cut_ (omega arith);
          walk = a_look k.walk k.history (length k.states) n (with_duty f me.0) (k.looked n me.0 at) k.walked k.true_
              zero_ r (omega arith);
          laws = λ L O C L' O' C' l o c le q h. (inr (omega arith), inr (omega arith));
        }),
        (
          (λ lt. absurd (omega arith)),
          (λ _ _. (k.walk, (refl, refl), all_below s k n me.0 at r (omega arith))),
          λ _ le. absurd (omega arith),
        ),
      )
  looks_at f g slots n me lf lg sleeps s k homes at (yes none_) (no over_) =
      let w = told (with_duty g me.0) in
      let now_ = at0 s k in let many = k.sized in let small = k.small in let in_ = k.within in
      let empty = nothing_waits s k n me.0 at none_ in
      let zero_ : length k.history.rest ≡ 0 = ap length empty in
      let shut_ = none_free k.cut (length k.states - drawn k.history) (slice_index s.words 0) (length k.states)
      (omega arith) (omega arith) (omega arith) in
      let fit = refit k.history k.states k.cut k.hub k.roll n me.0 (with_duty g me.0) (plain g me.0 lg.2)
      (k.fits n me.0 at) in
      let l = lg.0 in (
        w,
        keeps,
        tt,
        loaded s 0 n me.1 w (settled s k n me.0 w at (omega arith) refl refl refl refl (refl, refl, refl)
            record {
              member = λ r. let m = fit.member r in record
                  { sent = m.sent; got = m.got; cut = m.cut; no_hub = m.no_hub; not_back = m.not_back };
              hub_ = λ r. let m = fit.hub_ r in record
                  { here = m.here; ends = m.ends; nothing = m.nothing; idle = m.idle };
              back = fit.back;
              debt = fit.debt;
              half = fit.half;
              low = fit.low;
              ripe = fit.ripe;
              full = fit.full;
              cut_ = fit.cut_;
              empty = fit.empty;
              heard = fit.heard;
              over = λ _. (shut_, empty);
            }
            (λ L O C L' O' C' l o c le q h. let e = lg.1 in
            (inr (omega arith), ⊎_elim (λ x. inl (omega arith)) (λ x. inr (omega arith)) h))),
        ((λ lt. absurd (omega arith)), (λ _ lt. absurd (over_ lt)), λ _ _. (refl, refl)),
      )

  looks_as : (f g : Duty → Duty) (slots n : ℕ) (me : Sat T) → StaysListed f me.0 → StaysListed g me.0
      → (g me.0.duty).asleep ≡ me.0.duty.asleep
      → Allows Keeps slots n me 0 (λ r. r) (looking f g (step slots 0 0 0 none) me)
  looks_as f g slots n me lf lg sleeps s k homes at small = looks_at f g slots n me lf lg sleeps s k homes at
      (dec_le (slice_index s.words 0 % 9223372036854775808) me.0.sight.low) (dec_lt (slice_index s.words 0) slots)

  pub looks : (slots n : ℕ) (me : Sat T) → Allows Keeps slots n me 0 (λ r. r)
      (looking looked looked (step slots 0 0 0 none) me)
  looks slots n me = looks_as looked looked slots n me (refl, refl, λ _ e. ap looked e)
      (refl, refl, λ _ e. ap looked e) refl

  pub looks_listed : (slots n : ℕ) (me : Sat T) → 0 < me.0.duty.fresh
      → Allows Keeps slots n me 0 (λ r. r) (looking falls_asleep done (step slots 0 0 0 none) me)
  looks_listed slots n me fresh = looks_as falls_asleep done slots n me
      (omega arith, refl, owing (λ d. d.fresh) me.0 (falls_asleep me.0.duty) refl fresh)
      (omega arith, refl, owing (λ d. d.fresh) me.0 (done me.0.duty) refl fresh) refl
