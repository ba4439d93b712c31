-- The steps on the list of those that wait keep the rule.
use Rattle.mb_segment.proofs.Base.{Allows, ap, arith, dec_lt, either, get_elem?, inl, inr, keeps, none, refl}
use Rattle.mb_segment.proofs.Base.{slice_index, slice_set, some, step, sym, ℕ, ⊎_elim, ◌%◌, ◌*◌, ◌+◌, ◌-◌}
use Rattle.mb_segment.proofs.Base.{◌<◌, ◌==◌, ◌∙◌, ◌≡◌, ◌≤◌}
use Rattle.mb_segment.specs.Vocabulary.{Duty, Keeps, Member, Sat, always, drawn, enters, exchanging}
use Rattle.mb_segment.specs.Vocabulary.{gives_up, goes_unseen, hands_on, has_closed, has_woken, if_none_waits}
use Rattle.mb_segment.specs.Vocabulary.{Sight, View, gives_token, leaves, leaves_with_token, listed, owed, row, same, taken, takes_token}
use Rattle.mb_segment.specs.Vocabulary.{tokens_given, tokens_taken, wakes_up, with_duty}
use Rattle.mb_segment.proofs.Kept.{Goes, Laws, St, at2, exchanges, loaded, now, settled, stays, steady}
use Rattle.mb_segment.proofs.Fitting.{Plain, StaysIdle, refit}
use Rattle.mb_segment.proofs.Walks.{unmoved}
use Rattle.mb_segment.proofs.LookMoves.{owing, plain}

module _ {T : Type 0} where
  -- an exchange that leaves t tokens and a waiting
  at_list : (f : View T → View T) (slots n : ℕ) (me : Sat T) (old new : ℕ) → Plain me.0 (f me.0)
      → (f me.0).out ≡ me.0.out
      → ((s : St T) (k : Keeps s) → get_elem? s.views n ≡ some me.0 → k.tokens + 4294967296 * k.waiting ≡ old
      → (t : ℕ) × (a : ℕ) × (new ≡ t + 4294967296 * a) × (t < 4294967296)
      × (listed (f me.0) + (k.tokens + k.waiting) ≡ listed me.0 + (t + a))
      × (tokens_given (f me.0) + (k.tokens + tokens_taken me.0) ≡ tokens_given me.0 + (t + tokens_taken (f me.0)))
      × Laws s k me.0 (f me.0) record (now s k)
      { words = slice_set s.words 8 new; tokens = t; waiting = a })
      → Allows Keeps slots n me 8 (λ r. either (r == old) new r)
      (exchanging f (step slots 8 old new none) me)
  at_list f slots n me old new plain_ out_ go = exchanges 8 (exchanging f (step slots 8 old new none) me) slots n
      me old new
      (λ s k homes at e. let x = go s k at (sym (at2 s k) ∙ e) in (
        f me.0,
        keeps,
        tt,
        steady s k n me.0 (f me.0) record (now s k)
            { words = slice_set s.words 8 new; tokens = x.0; waiting = x.1 } at record {
              words = ap (λ l. slice_set l 8 new) k.words
                  ∙ ap (λ r. row (drawn k.history + 9223372036854775808 * k.cut) (taken k.history) r k.states) x.2;
              narrow = x.3;
              counted = x.4;
              given = x.5;
              card = λ i. (plain_.0 i, (plain_.1 i).name, plain_.5 i);
              out_ = out_;
              half = plain_.2;
              own = refit k.history k.states k.cut k.hub k.roll n me.0 (f me.0) plain_ (k.fits n me.0 at);
              walk = unmoved s k n me.0 (f me.0) at plain_.0 (
                ap (λ (i : Sight). i.found) (sym plain_.3),
                ap (λ (i : Sight). i.walk) (sym plain_.3),
                ap (λ (i : Sight). i.empty) (sym plain_.3),
              );
              laws = x.6;
            },
        ((λ _. (refl, refl)), λ ne. absurd (ne e)),
      ))
      (λ r ne. ((λ e. absurd (ne e)), λ _. (refl, refl)))

  -- a look that may find that nobody waits without a token
  none_at : (f : Duty → Duty) (slots n : ℕ) (me : Sat T) → StaysIdle me.0 (f me.0.duty)
      → listed (with_duty f me.0) ≡ listed me.0
      → ((s : St T) (k : Keeps s) → k.waiting ≡ 0 → Laws s k me.0 (with_duty f me.0) (now s k))
      → (s : St T) (k : Keeps s) → get_elem? s.views n ≡ some me.0 → Dec (slice_index s.words 8 < 4294967296)
      → Goes s 8 n me (if_none_waits f (step slots 8 0 0 none) me) (slice_index s.words 8)
  none_at f slots n me idle li laws s k at (yes low) = let e = at2 s k in (
    with_duty f me.0,
    keeps,
    tt,
    loaded s 8 n me.1 (with_duty f me.0) (settled s k n me.0 (with_duty f me.0) at li refl refl refl refl
        (refl, refl, refl)
        (refit k.history k.states k.cut k.hub k.roll n me.0 (with_duty f me.0) (plain f me.0 idle) (k.fits n me.0 at))
        (laws s k (omega arith))),
    ((λ _. (refl, refl)), λ high. absurd (omega arith)),
  )
  none_at f slots n me idle li laws s k at (no high) =
      (me.0, keeps, tt, stays s k 8 n me.0 at me.1, ((λ low. absurd (high low)), λ _. (refl, refl)))

  none_as : (f : Duty → Duty) (slots n : ℕ) (me : Sat T) → StaysIdle me.0 (f me.0.duty)
      → listed (with_duty f me.0) ≡ listed me.0
      → ((s : St T) (k : Keeps s) → k.waiting ≡ 0 → Laws s k me.0 (with_duty f me.0) (now s k))
      → Allows Keeps slots n me 8 (λ r. r) (if_none_waits f (step slots 8 0 0 none) me)
  none_as f slots n me idle li laws s k homes at small = none_at f slots n me idle li laws s k at
      (dec_lt (slice_index s.words 8) 4294967296)

  -- a step that always succeeds, and changes what is owed alone
  owes_as : (f : Duty → Duty) (slots n : ℕ) (me : Sat T) → StaysIdle me.0 (f me.0.duty)
      → listed (with_duty f me.0) ≡ listed me.0
      → (f me.0.duty).asleep ≤ me.0.duty.asleep → owed me.0 ≤ owed (with_duty f me.0) → (f me.0.duty).closing
      ≡ me.0.duty.closing
      → Allows Keeps slots n me 8 (λ r. r) (always (λ _. with_duty f) (step slots 8 0 0 none) me)
  owes_as f slots n me idle li sleeps ow cl s k homes at small = (
    with_duty f me.0,
    keeps,
    tt,
    loaded s 8 n me.1 (with_duty f me.0) (settled s k n me.0 (with_duty f me.0) at li refl refl refl refl
        (refl, refl, refl)
        (refit k.history k.states k.cut k.hub k.roll n me.0 (with_duty f me.0) (plain f me.0 idle) (k.fits n me.0 at))
        (λ L O C L' O' C' l o c le q h. (
          ⊎_elim (λ x. inl (omega arith)) (λ x. inr (omega arith)) q,
          ⊎_elim (λ x. inl (omega arith)) (λ x. inr (omega arith)) h,
        ))),
    (refl, refl),
  )

module _ {T : Type 0} (slots n : ℕ) (me : Sat T) where
  pub none_waits : 0 < me.0.duty.wakes → Allows Keeps slots n me 8 (λ r. r)
      (if_none_waits has_woken (step slots 8 0 0 none) me)
  none_waits owes = none_as has_woken slots n me (owing (λ d. d.wakes) me.0 (has_woken me.0.duty) refl owes) refl
      (λ s k none_ L O C L' O' C' l o c le q h. (inl (omega arith), inl (omega arith)))

  pub finishes : 0 < me.0.duty.closing → Allows Keeps slots n me 8 (λ r. r)
      (if_none_waits has_closed (step slots 8 0 0 none) me)
  finishes owes = none_as has_closed slots n me (owing (λ d. d.closing) me.0 (has_closed me.0.duty) refl owes) refl
      (λ s k none_ L O C L' O' C' l o c le q h. (inl (omega arith), inl (omega arith)))

  pub gives_up_at : 0 < me.0.duty.asleep → Allows Keeps slots n me 8 (λ r. r)
      (always (λ _. with_duty gives_up) (step slots 8 0 0 none) me)
  gives_up_at sleeps = owes_as gives_up slots n me (owing (λ d. d.asleep) me.0 (gives_up me.0.duty) refl sleeps)
      (omega arith) (omega arith) (omega arith) refl

  pub goes_unseen_at : 0 < me.0.duty.fresh → Allows Keeps slots n me 8 (λ r. r)
      (always (λ _. with_duty goes_unseen) (step slots 8 0 0 none) me)
  goes_unseen_at fresh = owes_as goes_unseen slots n me (owing (λ d. d.fresh) me.0 (goes_unseen me.0.duty) refl fresh)
      (omega arith) (omega arith) (omega arith) refl

  pub hands_on_at : 0 < me.0.duty.looks → Allows Keeps slots n me 8 (λ r. r)
      (always (λ _. with_duty hands_on) (step slots 8 0 0 none) me)
  hands_on_at owes = owes_as hands_on slots n me (owing (λ d. d.looks) me.0 (hands_on me.0.duty) refl owes)
      refl (omega arith) (omega arith) refl

  module _ (old new : ℕ) where
    pub gives_wake : 0 < me.0.duty.wakes → 4294967296 ≤ old → old % 4294967296 < 4294967295 → new + 4294967296
        ≡ old + 1
        → Allows Keeps slots n me 8 (λ r. either (r == old) new r)
        (exchanging (λ v. with_duty has_woken (gives_token v)) (step slots 8 old new none) me)
    gives_wake owes waits room is = at_list (λ v. with_duty has_woken (gives_token v)) slots n me old new
        (plain has_woken (gives_token me.0) (owing (λ d. d.wakes) me.0 (has_woken me.0.duty) refl owes)) refl
        (λ s k at e. let narrow = k.narrow in (
          k.tokens + 1,
          k.waiting - 1,
          omega arith,
          omega arith,
          omega arith,
          omega arith,
          (λ L O C L' O' C' l o c le q h. (
            ⊎_elim (λ x. inl (omega arith)) (λ x. inr (omega arith)) q,
            ⊎_elim (λ x. inl (omega arith)) (λ x. inr (omega arith)) h,
          )),
        ))

    pub gives_all : 4294967296 ≤ old → old % 4294967296 < 4294967295 → new + 4294967296 ≡ old + 1
        → Allows Keeps slots n me 8 (λ r. either (r == old) new r)
        (exchanging (λ v. with_duty same (gives_token v)) (step slots 8 old new none) me)
    gives_all waits room is = at_list (λ v. with_duty same (gives_token v)) slots n me old new
        (plain same (gives_token me.0) (λ _ e. e)) refl (λ s k at e. let narrow = k.narrow in (
          k.tokens + 1,
          k.waiting - 1,
          omega arith,
          omega arith,
          omega arith,
          omega arith,
          (λ L O C L' O' C' l o c le q h. (
            ⊎_elim (λ x. inl (omega arith)) (λ x. inr (omega arith)) q,
            ⊎_elim (λ x. inl (omega arith)) (λ x. inr (omega arith)) h,
          )),
        ))

    pub goes_in : me.0.role ≡ Member → new ≡ old + 4294967296
        → Allows Keeps slots n me 8 (λ r. either (r == old) new r)
        (exchanging (with_duty enters) (step slots 8 old new none) me)
    goes_in role is = at_list (with_duty enters) slots n me old new
        (plain enters me.0 (λ no_ e. absurd (no_ role))) refl (λ s k at e. let narrow = k.narrow in (
          k.tokens,
          k.waiting + 1,
          omega arith,
          narrow,
          omega arith,
          omega arith,
          (λ L O C L' O' C' l o c le q h. (
            ⊎_elim (λ x. inl (omega arith)) (λ x. inr (omega arith)) q,
            ⊎_elim (λ x. inl (omega arith)) (λ x. inr (omega arith)) h,
          )),
        ))

    pub goes_out : 0 < me.0.duty.leaving → old ≡ new + 4294967296
        → Allows Keeps slots n me 8 (λ r. either (r == old) new r)
        (exchanging (with_duty leaves) (step slots 8 old new none) me)
    goes_out may is = at_list (with_duty leaves) slots n me old new
        (plain leaves me.0 (owing (λ d. d.leaving) me.0 (leaves me.0.duty) refl may)) refl
        (λ s k at e. let narrow = k.narrow in (
          k.tokens,
          k.waiting - 1,
          omega arith,
          narrow,
          omega arith,
          omega arith,
          (λ L O C L' O' C' l o c le q h. (
            ⊎_elim (λ x. inl (omega arith)) (λ x. inr (omega arith)) q,
            ⊎_elim (λ x. inl (omega arith)) (λ x. inr (omega arith)) h,
          )),
        ))

    pub goes_out_woken : 0 < me.0.duty.leaving → old < 4294967296 → old ≡ new + 1
        → Allows Keeps slots n me 8 (λ r. either (r == old) new r)
        (exchanging (λ v. with_duty leaves_with_token (takes_token v)) (step slots 8 old new none) me)
    goes_out_woken may woken is = at_list (λ v. with_duty leaves_with_token (takes_token v)) slots n me old new
        (plain leaves_with_token (takes_token me.0)
        (owing (λ d. d.leaving) me.0 (leaves_with_token me.0.duty) refl may)) refl
        (λ s k at e. let narrow = k.narrow in (
          k.tokens - 1,
          0,
          omega arith,
          omega arith,
          omega arith,
          omega arith,
          (λ L O C L' O' C' l o c le q h. (inl (omega arith), inl (omega arith))),
        ))

    pub accepts : 0 < me.0.duty.asleep → 0 < old % 4294967296 → old ≡ new + 1
        → Allows Keeps slots n me 8 (λ r. either (r == old) new r)
        (exchanging (λ v. with_duty wakes_up (takes_token v)) (step slots 8 old new none) me)
    accepts sleeps token is = at_list (λ v. with_duty wakes_up (takes_token v)) slots n me old new
        (plain wakes_up (takes_token me.0) (owing (λ d. d.asleep) me.0 (wakes_up me.0.duty) refl sleeps)) refl
        (λ s k at e. let narrow = k.narrow in (
          k.tokens - 1,
          k.waiting,
          omega arith,
          omega arith,
          omega arith,
          omega arith,
          (λ L O C L' O' C' l o c le q h. (
            ⊎_elim (λ x. inl (omega arith)) (λ x. inr (omega arith)) q,
            ⊎_elim (λ x. inl (omega arith)) (λ x. inr (omega arith)) h,
          )),
        ))
