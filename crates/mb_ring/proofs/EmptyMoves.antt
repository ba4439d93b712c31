-- The load of the number drawn, after one of the number claimed, keeps the rule.
use Rattle.mb_ring.proofs.Base.{Allows, List, [], ap, arith, dec_le, dec_lt, get_elem?, inl, inr, keeps, length, none}
use Rattle.mb_ring.proofs.Base.{refl, slice_index, some, step, subst, sym, ℕ, ⊎_elim, ◌%◌, ◌<◌, ◌∷◌, ◌≡◌, ◌≤◌}
use Rattle.mb_segment.proofs.Spots.{all_length, below_by, nothing_left}
use Rattle.mb_ring.specs.Vocabulary.{Below, Fits, FoundEmpty, Issuer, Keeps, Member, Role, SawAllTaken, Sat, Spent, Spot, View}
use Rattle.mb_ring.specs.Vocabulary.{all_entries, drawn, looking, sees_drawn, sees_empty, told, Duty, done, falls_asleep}
use Rattle.mb_ring.specs.Vocabulary.{free, in_list, looked, on, Values, with_duty}
use Rattle.mb_ring.proofs.Laps.{marked_drawn}
use Rattle.mb_ring.proofs.Walks.{finds_nothing}
use Rattle.mb_ring.proofs.Kept.{St, no_event, one_listed, one_owes, settled}
use Rattle.mb_ring.proofs.Loads.{Goes, StaysIdle, at0, loaded, owing, pays_at, refit, sees, steps}

-- the pass owes other things, and is in the list as often as before
abbrev StaysListed : {T : Type 0} → (Duty → Duty) → View T → Type 0
StaysListed f v = (in_list (f v.duty.values) ≡ in_list v.duty.values)
    × ((f v.duty.values).closing ≡ v.duty.values.closing) × StaysIdle v (on Values f v.duty)

module _ {T : Type 0} where
  -- nothing waits where no more are drawn than were claimed before
  nothing_waits : (s : St T) (k : Keeps s) (i : ℕ) (v : View T) → get_elem? s.views i ≡ some v
      → slice_index s.words 0 % 9223372036854775808 ≤ v.sight.low → k.history.rest ≡ []
  nothing_waits s k i v at le =
      let now_ = at0 s k in let small = k.small in
      let low = (k.fits i v at).sight.low in
      nothing_left k.history.rest (omega arith)

  -- where all that are drawn are below r, those are that the pass drew or saw marked
  all_below : (s : St T) (k : Keeps s) (i : ℕ) (v : View T) → get_elem? s.views i ≡ some v → (r : ℕ)
      → drawn k.history ≤ r → SawAllTaken (sees_empty r k.walk v)
  all_below s k i v at r le = (
    sent (k.fits i v at) le v.role refl,
    λ p e. let lt = marked_drawn s k i v at p e in omega arith,
  )
    where
      sent : Fits k.history k.size k.states k.cut k.hub k.roll i v → drawn k.history ≤ r → (a : Role) → v.role ≡ a
          → Below r v.account.sent
      sent fit le Issuer e = subst (λ (l : List (Spot T)). Below r l) (sym (fit.hub_ e).idle.0) tt
      sent fit le Spent e = subst (λ (l : List (Spot T)). Below r l) (sym (fit.back e).2) tt
      sent fit le Member e = let many = all_length k.history in
          subst (λ (l : List (Spot T)). Below r l) (sym (fit.member e).sent)
          (below_by i 0 r (all_entries k.history) (omega arith))

  looks_at : (f g : Duty → Duty) (slots i : ℕ) (me : Sat T) → StaysListed f me.0 → StaysListed g me.0
      → (g me.0.duty.values).asleep ≡ me.0.duty.values.asleep → (s : St T) (k : Keeps s)
      → get_elem? s.views i ≡ some me.0
      → Dec (slice_index s.words 0 % 9223372036854775808 ≤ me.0.sight.low)
      → Dec (slice_index s.words 0 < 9223372036854775808)
      → Goes s 0 i me (looking f g (step slots 0 0 0 none) me) (slice_index s.words 0)
  looks_at f g slots i me lf lg sleeps s k at (no some_) open_ =
      let r = slice_index s.words 0 % 9223372036854775808 in
      let now_ = at0 s k in
      let small = k.small in
      let y = (k.fits i me.0 at).sight in (
        sees_drawn r me.0,
        keeps,
        tt,
        sees s k 0 i me.0 at me.1 record me.0.sight { top = r } refl record {
          low = y.low;
          top = omega arith;
          room = y.room;
          ripe = y.ripe;
          cut_ = y.cut_;
          empty = y.empty;
          full = y.full;
        } (omega arith),
        (
          (λ _. (refl, refl)),
          (λ le _. absurd (some_ le)),
          (λ le _. absurd (some_ le)),
          λ told_. absurd (let d = (k.fits i me.0 at).last told_.0 told_.1 in some_ (omega arith)),
        ),
      )
  looks_at f g slots i me lf lg sleeps s k at (yes none_) (yes open_) =
      let r = slice_index s.words 0 in
      let w = sees_empty r k.walk (with_duty Values f me.0) in
      let now_ = at0 s k in
      let empty = nothing_waits s k i me.0 at none_ in
      let zero_ : length k.history.rest ≡ 0 = ap length empty in
      let not_cut : k.cut ≡ 0 = omega arith in
      let free_is : free k.cut 1 ≡ 1 = ap (λ (n : ℕ). free n 1) not_cut in
      let y = (k.fits i me.0 at).sight in (
        w,
        keeps,
        tt,
        pays_at s k 0 i me.0 (FoundEmpty i ∷ k.walk) at me.1 Values f w.sight
            (finds_nothing k.walk k.history k.size i (with_duty Values f me.0) (k.looks i me.0 at) k.walked k.true_
            zero_ r (omega arith)) lf.2 lf.0
            (λ L O C L' O' C' l' o c le q h. (inr (omega arith), inr (omega arith))) record {
              low = y.low;
              top = y.top;
              room = y.room;
              ripe = y.ripe;
              cut_ = y.cut_;
              empty = omega arith;
              full = y.full;
            } (omega arith),
        (
          (λ lt. absurd (omega arith)),
          (λ _ _. (
            k.walk,
            (refl, refl),
            all_below s k i me.0 at r (omega arith),
            let d = (k.fits i me.0 at).heard.0 in omega arith,
          )),
          (λ _ le. absurd (omega arith)),
          λ told_. absurd (let c = ((k.fits i me.0 at).over told_.1).0 in omega arith),
        ),
      )
  looks_at f g slots i me lf lg sleeps s k at (yes none_) (no cut) =
      let w = told (with_duty Values g me.0) in
      let now_ = at0 s k in
      let small = k.small in
      let empty = nothing_waits s k i me.0 at none_ in
      let zero_ : length k.history.rest ≡ 0 = ap length empty in
      let fit = refit k.history k.size k.states k.cut k.hub k.roll i me.0 (on Values g me.0.duty) me.0.tokens lg.2
      (k.fits i me.0 at) in (
        w,
        keeps,
        tt,
        loaded s 0 i me.1 w (settled s k i me.0 w k.walk at (no_event s k i me.0 w at refl refl)
            (one_listed me.0 Values g lg.0) refl refl refl refl record {
              member = λ r. let m = fit.member r in record
                  { sent = m.sent; got = m.got; cut = m.cut; no_hub = m.no_hub; not_back = m.not_back };
              hub_ = λ r. let m = fit.hub_ r in record
                  { here = m.here; ends = m.ends; nothing = m.nothing; idle = m.idle };
              back = fit.back;
              debt = fit.debt;
              half = fit.half;
              sight = fit.sight;
              heard = fit.heard;
              over = λ _. (omega arith, empty);
              last = λ _ _. omega arith;
            }
            (one_owes s k me.0 Values g (λ L O C L' O' C' l' o c le q h. let e = lg.1 in
            (inr (omega arith), ⊎_elim (λ x. inl (omega arith)) (λ x. inr (omega arith)) h)))),
        (
          (λ lt. absurd (omega arith)),
          (λ _ lt. absurd (cut lt)),
          (λ _ _. (refl, refl)),
          λ _. (none_, omega arith),
        ),
      )

  looks_as : (f g : Duty → Duty) (slots i : ℕ) (me : Sat T) → StaysListed f me.0 → StaysListed g me.0
      → (g me.0.duty.values).asleep ≡ me.0.duty.values.asleep
      → Allows Keeps slots i me 0 (λ r. r) (looking f g (step slots 0 0 0 none) me)
  looks_as f g slots i me lf lg sleeps = steps slots i me 0 (λ r. r) (looking f g (step slots 0 0 0 none) me)
      (λ s k many at. looks_at f g slots i me lf lg sleeps s k at
      (dec_le (slice_index s.words 0 % 9223372036854775808) me.0.sight.low)
      (dec_lt (slice_index s.words 0) 9223372036854775808))

  pub looks : (slots i : ℕ) (me : Sat T) → Allows Keeps slots i me 0 (λ r. r)
      (looking looked looked (step slots 0 0 0 none) me)
  looks slots i me = looks_as looked looked slots i me (refl, refl, λ _ e. ap (on Values looked) e)
      (refl, refl, λ _ e. ap (on Values looked) e) refl

  pub looks_listed : (slots i : ℕ) (me : Sat T) → 0 < me.0.duty.values.fresh
      → Allows Keeps slots i me 0 (λ r. r) (looking falls_asleep done (step slots 0 0 0 none) me)
  looks_listed slots i me fresh = looks_as falls_asleep done slots i me
      (omega arith, refl, owing Values (λ d. d.fresh) me.0 (on Values falls_asleep me.0.duty) refl fresh)
      (omega arith, refl, owing Values (λ d. d.fresh) me.0 (on Values done me.0.duty) refl fresh) refl
