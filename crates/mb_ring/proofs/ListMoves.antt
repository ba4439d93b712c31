-- The steps on a list of those that wait keep the rule. They are the same for both lists.
use Rattle.mb_ring.proofs.Base.{Allows, ap, arith, dec_lt, either, get_elem?, inl, inr, keeps, none, refl}
use Rattle.mb_ring.proofs.Base.{slice_index, slice_set, some, step, subst, sym, ℕ, ⊎_elim, ◌%◌, ◌*◌, ◌+◌, ◌-◌}
use Rattle.mb_ring.proofs.Base.{◌<◌, ◌==◌, ◌∙◌, ◌∷◌, ◌≡◌, ◌≤◌}
use Rattle.mb_ring.specs.Vocabulary.{Duty, Keeps, Member, Room, Sat, Tallies, Values, View, Want, always, drawn, enters, exchanging}
use Rattle.mb_ring.specs.Vocabulary.{gives_token, gives_tokens, takes_token, tally}
use Rattle.mb_ring.specs.Vocabulary.{free, gives_up, goes_unseen, hands_on, has_closed, has_woken, if_none_waits, in_list}
use Rattle.mb_ring.specs.Vocabulary.{leaves, leaves_with_token, list_word, no_duties, on, part, ready, same, taken, uncounted, wakes_up, with_duty}
use Rattle.mb_ring.proofs.Sleep.{Law, law_rest, put}
use Rattle.mb_ring.proofs.Kept.{Counts, Laws, Next, St, no_event, now, steady}
use Rattle.mb_ring.proofs.Loads.{Goes, StaysIdle, at_list_word, exchanges, owing, pays, refit, stays}

-- what is owed for one list alone
pub on_same : {T : Type 0} (q : Want) (v : View T) → with_duty q same v ≡ v
on_same Values v = refl
on_same Room v = refl

pub owes_after : {T : Type 0} (q : Want) (v : View T)
    → 0 < (part q (with_duty q leaves_with_token (takes_token q v)).duty).wakes
owes_after Values v = omega arith
owes_after Room v = omega arith

-- who takes a token with it, and wakes another for it, has left
pub on_leaves : {T : Type 0} (q : Want) (v : View T)
    → uncounted (with_duty q has_woken (with_duty q leaves_with_token (takes_token q v)))
    ≡ uncounted (with_duty q leaves v)
on_leaves Values v = let e : v.duty.values.wakes + 1 - 1 ≡ v.duty.values.wakes = omega arith in
    (λ z. uncounted record (with_duty Values leaves v) {
      duty = record v.duty {
        values = record v.duty.values
            { wakes = e z; leaving = v.duty.values.leaving - 1 };
      };
    })
on_leaves Room v = let e : v.duty.room.wakes + 1 - 1 ≡ v.duty.room.wakes = omega arith in
    (λ z. uncounted record (with_duty Room leaves v) {
      duty = record v.duty {
        room = record v.duty.room
            { wakes = e z; leaving = v.duty.room.leaving - 1 };
      };
    })

-- the tokens of a list that it gave are as many as were given one after the other
tokens_are : {T : Type 0} (q : Want) (v : View T) (m n k : ℕ) → m + n ≡ k
    → gives_tokens q n (gives_tokens q m v) ≡ gives_tokens q k v
tokens_are Values v m n k e = let g = v.tokens.values.gave in let a : g + m + n ≡ g + k = omega arith in
    (λ z. record v { tokens = record v.tokens { values = record v.tokens.values { gave = a z } } })
tokens_are Room v m n k e = let g = v.tokens.room.gave in let a : g + m + n ≡ g + k = omega arith in
    (λ z. record v { tokens = record v.tokens { room = record v.tokens.room { gave = a z } } })

pub one_more : {T : Type 0} (q : Want) (v : View T) (n : ℕ)
    → gives_token q (gives_tokens q n v) ≡ gives_tokens q (n + 1) v
one_more q v n = tokens_are q v n 1 (n + 1) refl

pub gives_none : {T : Type 0} (q : Want) (v : View T) → v ≡ gives_tokens q 0 v
gives_none Values v = let g = v.tokens.values.gave in let a : g ≡ g + 0 = omega arith in
    (λ z. record v { tokens = record v.tokens { values = record v.tokens.values { gave = a z } } })
gives_none Room v = let g = v.tokens.room.gave in let a : g ≡ g + 0 = omega arith in
    (λ z. record v { tokens = record v.tokens { room = record v.tokens.room { gave = a z } } })

same_none : (q : Want) → on q same no_duties ≡ no_duties
same_none Values = refl
same_none Room = refl

-- of list q, y tokens more were given, and x more were taken
abbrev IsTallied : Want → ℕ → ℕ → Tallies → Tallies → Type 0
IsTallied q y x b c = (p : Want) → ((tally p c).gave ≡ (tally p b).gave + put q y (λ _. 0) p)
    × ((tally p c).took ≡ (tally p b).took + put q x (λ _. 0) p)

none_tallied : (q : Want) (b : Tallies) → IsTallied q 0 0 b b
none_tallied Values b = elim [ Values ↦ (omega arith, omega arith) | Room ↦ (omega arith, omega arith) ]
none_tallied Room b = elim [ Values ↦ (omega arith, omega arith) | Room ↦ (omega arith, omega arith) ]

given_tallied : {T : Type 0} (q : Want) (v : View T) → IsTallied q 1 0 v.tokens (gives_token q v).tokens
given_tallied Values v = elim [ Values ↦ (omega arith, omega arith) | Room ↦ (omega arith, omega arith) ]
given_tallied Room v = elim [ Values ↦ (omega arith, omega arith) | Room ↦ (omega arith, omega arith) ]

taken_tallied : {T : Type 0} (q : Want) (v : View T) → IsTallied q 0 1 v.tokens (takes_token q v).tokens
taken_tallied Values v = elim [ Values ↦ (omega arith, omega arith) | Room ↦ (omega arith, omega arith) ]
taken_tallied Room v = elim [ Values ↦ (omega arith, omega arith) | Room ↦ (omega arith, omega arith) ]

list_given : (q : Want) (g : Want → ℕ) (t y x : ℕ) (b c : Tallies) → IsTallied q y x b c → t + x ≡ g q + y
    → (p : Want) → (tally p c).gave + (g p + (tally p b).took) ≡ (tally p b).gave + (put q t g p + (tally p c).took)
list_given Values g t y x b c is e Values = let i = (is Values).0 in let j = (is Values).1 in omega arith
list_given Values g t y x b c is e Room = let i = (is Room).0 in let j = (is Room).1 in omega arith
list_given Room g t y x b c is e Values = let i = (is Values).0 in let j = (is Values).1 in omega arith
list_given Room g t y x b c is e Room = let i = (is Room).0 in let j = (is Room).1 in omega arith

-- an exchange of one list's word for t tokens, and a that wait without one, is right, where it gives y and takes x
abbrev IsRight : (Duty → Duty) → Duty → ℕ → ℕ → ℕ → ℕ → Type 0
IsRight f d y x old new = (m n : ℕ) → m + 4294967296 * n ≡ old → m < 4294967296
    → (t : ℕ) × (a : ℕ) × (new ≡ t + 4294967296 * a) × (t < 4294967296) × (t + x ≡ m + y)
    × (in_list (f d) + (m + n) ≡ in_list d + (t + a)) × ((r z : ℕ) → Law d (f d) r r z z m t a)

list_narrow : (q p : Want) (g : Want → ℕ) (t : ℕ) → t < 4294967296 → ((o : Want) → g o < 4294967296)
    → put q t g p < 4294967296
list_narrow Values Values g t lt all = lt
list_narrow Values Room g t lt all = all Room
list_narrow Room Values g t lt all = all Values
list_narrow Room Room g t lt all = lt

module _ {T : Type 0} (s : St T) (k : Keeps s) (q : Want) (t a new : ℕ) where
  abbrev set_list : Next T
  set_list = record (now s k) {
    words = slice_set s.words (list_word q) new;
    tokens = put q t k.tokens;
    waiting = put q a k.waiting;
  }

module _ {T : Type 0} where
  list_words : (s : St T) (k : Keeps s) (q : Want) (t a new : ℕ) → new ≡ t + 4294967296 * a
      → slice_set s.words (list_word q) new ≡ (drawn k.history + 9223372036854775808 * k.cut) ∷ taken k.history
      ∷ (put q t k.tokens Values + 4294967296 * put q a k.waiting Values)
      ∷ (put q t k.tokens Room + 4294967296 * put q a k.waiting Room) ∷ k.states
  list_words s k Values t a new is = ap (λ l. slice_set l 2 new) k.words
      ∙ ap (λ r. (drawn k.history + 9223372036854775808 * k.cut) ∷ taken k.history ∷ r
      ∷ (k.tokens Room + 4294967296 * k.waiting Room) ∷ k.states) is
  list_words s k Room t a new is = ap (λ l. slice_set l 3 new) k.words
      ∙ ap (λ r. (drawn k.history + 9223372036854775808 * k.cut) ∷ taken k.history
      ∷ (k.tokens Values + 4294967296 * k.waiting Values) ∷ r ∷ k.states) is

  list_counts : (s : St T) (k : Keeps s) (q : Want) (v : View T) (f : Duty → Duty) (t a new : ℕ)
      → in_list (f (part q v.duty)) + (k.tokens q + k.waiting q) ≡ in_list (part q v.duty) + (t + a)
      → Counts s k v (with_duty q f v) (set_list s k q t a new)
  list_counts s k Values v f t a new e Values = e
  list_counts s k Values v f t a new e Room = refl
  list_counts s k Room v f t a new e Values = refl
  list_counts s k Room v f t a new e Room = e

  list_laws : (s : St T) (k : Keeps s) (q : Want) (v : View T) (f : Duty → Duty) (t a new : ℕ)
      → Law (part q v.duty) (f (part q v.duty)) (ready q k.history k.size k.cut) (ready q k.history k.size k.cut)
      (free k.cut 1) (free k.cut 1) (k.tokens q) t a
      → Laws s k v (with_duty q f v) (set_list s k q t a new)
  list_laws s k Values v f t a new law Values = law
  list_laws s k Values v f t a new law Room = law_rest v.duty.room (ready Room k.history k.size k.cut) (free k.cut 1)
      (k.tokens Room) (k.waiting Room)
  list_laws s k Room v f t a new law Values = law_rest v.duty.values (ready Values k.history k.size k.cut)
      (free k.cut 1) (k.tokens Values) (k.waiting Values)
  list_laws s k Room v f t a new law Room = law

  -- an exchange that leaves t tokens and a waiting
  at_list : (f : Duty → Duty) (c : View T → Tallies) (y x : ℕ) (q : Want) (slots n : ℕ) (me : Sat T) (j : ℕ)
      → j ≡ list_word q → (old new : ℕ) → IsTallied q y x me.0.tokens (c me.0) → StaysIdle me.0 (on q f me.0.duty)
      → IsRight f (part q me.0.duty) y x old new
      → Allows Keeps slots n me j (λ r. either (r == old) new r)
      (exchanging (λ v. with_duty q f record v { tokens = c v }) (step slots j old new none) me)
  at_list f c y x q slots n me j is old new tallied_ idle right = subst
      (λ (i : ℕ). Allows Keeps slots n me i (λ r. either (r == old) new r)
      (exchanging (λ v. with_duty q f record v { tokens = c v }) (step slots i old new none) me)) (sym is)
      (exchanges (list_word q)
      (exchanging (λ v. with_duty q f record v { tokens = c v }) (step slots (list_word q) old new none) me) slots n
      me old new
      (λ s k homes at e.
      let r = right (k.tokens q) (k.waiting q) (sym (at_list_word q s k) ∙ e) (k.lists q).narrow in
      let w : View T = with_duty q f record me.0 { tokens = c me.0 } in (
        w,
        keeps,
        tt,
        steady s k n me.0 w (set_list s k q r.0 r.1 new) at record {
          words = list_words s k q r.0 r.1 new r.2;
          narrow = λ p. list_narrow q p k.tokens r.0 r.3 (λ o. (k.lists o).narrow);
          counted = list_counts s k q me.0 f r.0 r.1 new r.5;
          given = list_given q k.tokens r.0 y x me.0.tokens (c me.0) tallied_ r.4;
          role = refl;
          out_ = refl;
          half = refl;
          own = refit k.history k.size k.states k.cut k.hub k.roll n me.0 (on q f me.0.duty) (c me.0) idle
              (k.fits n me.0 at);
          walk = no_event s k n me.0 w at refl refl;
          laws = list_laws s k q me.0 f r.0 r.1 new (r.6 (ready q k.history k.size k.cut) (free k.cut 1));
        },
        ((λ _. (refl, refl)), λ ne. absurd (ne e)),
      ))
      (λ r ne. ((λ e. absurd (ne e)), λ _. (refl, refl))))

  -- a look that may find that nobody waits without a token
  none_as : (f : Duty → Duty) (q : Want) (slots n : ℕ) (me : Sat T) (j : ℕ) → j ≡ list_word q
      → StaysIdle me.0 (on q f me.0.duty) → in_list (f (part q me.0.duty)) ≡ in_list (part q me.0.duty)
      → ((r z m : ℕ) → Law (part q me.0.duty) (f (part q me.0.duty)) r r z z m m 0)
      → Allows Keeps slots n me j (λ r. r) (if_none_waits q f (step slots j 0 0 none) me)
  none_as f q slots n me j is idle li law = subst
      (λ (i : ℕ). Allows Keeps slots n me i (λ r. r) (if_none_waits q f (step slots i 0 0 none) me)) (sym is)
      (λ s k homes at small. go s k at (dec_lt (slice_index s.words (list_word q)) 4294967296))
    where
      go : (s : St T) (k : Keeps s) → get_elem? s.views n ≡ some me.0
          → Dec (slice_index s.words (list_word q) < 4294967296)
          → Goes s (list_word q) n me (if_none_waits q f (step slots (list_word q) 0 0 none) me)
          (slice_index s.words (list_word q))
      go s k at (yes low) =
          let e = at_list_word q s k in
          let none_ : 0 ≡ k.waiting q = omega arith in
          let law' = law (ready q k.history k.size k.cut) (free k.cut 1) (k.tokens q) in (
            with_duty q f me.0,
            keeps,
            tt,
            pays s k (list_word q) n me.0 at me.1 q f me.0.sight refl idle li
                (subst (λ (a : ℕ). Law (part q me.0.duty) (f (part q me.0.duty)) (ready q k.history k.size k.cut)
                (ready q k.history k.size k.cut) (free k.cut 1) (free k.cut 1) (k.tokens q) (k.tokens q) a) none_ law')
                (k.fits n me.0 at).sight (omega arith),
            ((λ _. (refl, refl)), λ high. absurd (omega arith)),
          )
      go s k at (no high) =
          (me.0, keeps, tt, stays s k (list_word q) n me.0 at me.1, ((λ low. absurd (high low)), λ _. (refl, refl)))

  -- a step that always succeeds, and changes what is owed alone
  owes_as : (f : Duty → Duty) (q : Want) (slots n : ℕ) (me : Sat T) (j : ℕ) → StaysIdle me.0 (on q f me.0.duty)
      → in_list (f (part q me.0.duty)) ≡ in_list (part q me.0.duty)
      → ((r z m a : ℕ) → Law (part q me.0.duty) (f (part q me.0.duty)) r r z z m m a)
      → Allows Keeps slots n me j (λ r. r) (always (with_duty q f) (step slots j 0 0 none) me)
  owes_as f q slots n me j idle li law s k homes at small = (
    with_duty q f me.0,
    keeps,
    tt,
    pays s k j n me.0 at me.1 q f me.0.sight refl idle li
        (law (ready q k.history k.size k.cut) (free k.cut 1) (k.tokens q) (k.waiting q))
        (k.fits n me.0 at).sight (omega arith),
    (refl, refl),
  )

module _ {T : Type 0} (q : Want) (slots n : ℕ) (me : Sat T) (j : ℕ) (is : j ≡ list_word q) where
  pub none_waits : 0 < (part q me.0.duty).wakes → Allows Keeps slots n me j (λ r. r)
      (if_none_waits q has_woken (step slots j 0 0 none) me)
  none_waits owes = none_as has_woken q slots n me j is
      (owing q (λ d. d.wakes) me.0 (on q has_woken me.0.duty) refl owes) refl
      (λ r z m L O C L' O' C' l o c le x h. (inl (omega arith), inl (omega arith)))

  pub finishes : 0 < (part q me.0.duty).closing → Allows Keeps slots n me j (λ r. r)
      (if_none_waits q has_closed (step slots j 0 0 none) me)
  finishes owes = none_as has_closed q slots n me j is
      (owing q (λ d. d.closing) me.0 (on q has_closed me.0.duty) refl owes) refl
      (λ r z m L O C L' O' C' l o c le x h. (inl (omega arith), inl (omega arith)))

  pub gives_up_at : 0 < (part q me.0.duty).asleep → Allows Keeps slots n me j (λ r. r)
      (always (with_duty q gives_up) (step slots j 0 0 none) me)
  gives_up_at sleeps = owes_as gives_up q slots n me j
      (owing q (λ d. d.asleep) me.0 (on q gives_up me.0.duty) refl sleeps) (omega arith)
      (λ r z m a L O C L' O' C' l o c le x h. (
        ⊎_elim (λ y. inl (omega arith)) (λ y. inr (omega arith)) x,
        ⊎_elim (λ y. inl (omega arith)) (λ y. inr (omega arith)) h,
      ))

  pub goes_unseen_at : 0 < (part q me.0.duty).fresh → Allows Keeps slots n me j (λ r. r)
      (always (with_duty q goes_unseen) (step slots j 0 0 none) me)
  goes_unseen_at fresh = owes_as goes_unseen q slots n me j
      (owing q (λ d. d.fresh) me.0 (on q goes_unseen me.0.duty) refl fresh) (omega arith)
      (λ r z m a L O C L' O' C' l o c le x h. (
        ⊎_elim (λ y. inl (omega arith)) (λ y. inr (omega arith)) x,
        ⊎_elim (λ y. inl (omega arith)) (λ y. inr (omega arith)) h,
      ))

  pub hands_on_at : 0 < (part q me.0.duty).looks → Allows Keeps slots n me j (λ r. r)
      (always (with_duty q hands_on) (step slots j 0 0 none) me)
  hands_on_at owes = owes_as hands_on q slots n me j
      (owing q (λ d. d.looks) me.0 (on q hands_on me.0.duty) refl owes) refl
      (λ r z m a L O C L' O' C' l o c le x h. (
        ⊎_elim (λ y. inl (omega arith)) (λ y. inr (omega arith)) x,
        ⊎_elim (λ y. inl (omega arith)) (λ y. inr (omega arith)) h,
      ))

  module _ (old new : ℕ) where
    pub gives_wake : 0 < (part q me.0.duty).wakes → 4294967296 ≤ old → old % 4294967296 < 4294967295
        → new + 4294967296 ≡ old + 1
        → Allows Keeps slots n me j (λ r. either (r == old) new r)
        (exchanging (λ v. with_duty q has_woken (gives_token q v)) (step slots j old new none) me)
    gives_wake owes waits room eq = at_list has_woken (λ v. (gives_token q v).tokens) 1 0 q slots n me j is old new
        (given_tallied q me.0)
        (owing q (λ d. d.wakes) me.0 (on q has_woken me.0.duty) refl owes) (λ t w e narrow. (
          t + 1,
          w - 1,
          omega arith,
          omega arith,
          omega arith,
          omega arith,
          (λ r z L O C L' O' C' l o c le x h. (
            ⊎_elim (λ y. inl (omega arith)) (λ y. inr (omega arith)) x,
            ⊎_elim (λ y. inl (omega arith)) (λ y. inr (omega arith)) h,
          )),
        ))

    pub gives_all : 4294967296 ≤ old → old % 4294967296 < 4294967295 → new + 4294967296 ≡ old + 1
        → Allows Keeps slots n me j (λ r. either (r == old) new r)
        (exchanging (λ v. with_duty q same (gives_token q v)) (step slots j old new none) me)
    gives_all waits room eq = at_list same (λ v. (gives_token q v).tokens) 1 0 q slots n me j is old new
        (given_tallied q me.0)
        (λ _ e. ap (on q same) e ∙ same_none q) (λ t w e narrow. (
          t + 1,
          w - 1,
          omega arith,
          omega arith,
          omega arith,
          omega arith,
          (λ r z L O C L' O' C' l o c le x h. (
            ⊎_elim (λ y. inl (omega arith)) (λ y. inr (omega arith)) x,
            ⊎_elim (λ y. inl (omega arith)) (λ y. inr (omega arith)) h,
          )),
        ))

    pub goes_in : me.0.role ≡ Member → new ≡ old + 4294967296
        → Allows Keeps slots n me j (λ r. either (r == old) new r)
        (exchanging (with_duty q enters) (step slots j old new none) me)
    goes_in role eq = at_list enters (λ v. v.tokens) 0 0 q slots n me j is old new (none_tallied q me.0.tokens)
        (λ no_ e. absurd (no_ role)) (λ t w e narrow. (
          t,
          w + 1,
          omega arith,
          narrow,
          omega arith,
          omega arith,
          (λ r z L O C L' O' C' l o c le x h. (
            ⊎_elim (λ y. inl (omega arith)) (λ y. inr (omega arith)) x,
            ⊎_elim (λ y. inl (omega arith)) (λ y. inr (omega arith)) h,
          )),
        ))

    pub goes_out : 0 < (part q me.0.duty).leaving → old ≡ new + 4294967296
        → Allows Keeps slots n me j (λ r. either (r == old) new r)
        (exchanging (with_duty q leaves) (step slots j old new none) me)
    goes_out may eq = at_list leaves (λ v. v.tokens) 0 0 q slots n me j is old new (none_tallied q me.0.tokens)
        (owing q (λ d. d.leaving) me.0 (on q leaves me.0.duty) refl may) (λ t w e narrow. (
          t,
          w - 1,
          omega arith,
          narrow,
          omega arith,
          omega arith,
          (λ r z L O C L' O' C' l o c le x h. (
            ⊎_elim (λ y. inl (omega arith)) (λ y. inr (omega arith)) x,
            ⊎_elim (λ y. inl (omega arith)) (λ y. inr (omega arith)) h,
          )),
        ))

    pub goes_out_woken : 0 < (part q me.0.duty).leaving → old < 4294967296 → old ≡ new + 1
        → Allows Keeps slots n me j (λ r. either (r == old) new r)
        (exchanging (λ v. with_duty q leaves_with_token (takes_token q v)) (step slots j old new none) me)
    goes_out_woken may woken eq = at_list leaves_with_token (λ v. (takes_token q v).tokens) 0 1 q slots n me j is
        old new (taken_tallied q me.0)
        (owing q (λ d. d.leaving) me.0 (on q leaves_with_token me.0.duty) refl may) (λ t w e narrow. (
          t - 1,
          0,
          omega arith,
          omega arith,
          omega arith,
          omega arith,
          (λ r z L O C L' O' C' l o c le x h. (inl (omega arith), inl (omega arith))),
        ))

    pub accepts : 0 < (part q me.0.duty).asleep → 0 < old % 4294967296 → old ≡ new + 1
        → Allows Keeps slots n me j (λ r. either (r == old) new r)
        (exchanging (λ v. with_duty q wakes_up (takes_token q v)) (step slots j old new none) me)
    accepts sleeps token eq = at_list wakes_up (λ v. (takes_token q v).tokens) 0 1 q slots n me j is old new
        (taken_tallied q me.0)
        (owing q (λ d. d.asleep) me.0 (on q wakes_up me.0.duty) refl sleeps) (λ t w e narrow. (
          t - 1,
          w,
          omega arith,
          omega arith,
          omega arith,
          omega arith,
          (λ r z L O C L' O' C' l o c le x h. (
            ⊎_elim (λ y. inl (omega arith)) (λ y. inr (omega arith)) x,
            ⊎_elim (λ y. inl (omega arith)) (λ y. inr (omega arith)) h,
          )),
        ))
