-- The loads of senders keep the rule: of the number drawn, and of the number claimed after it.
use Rattle.mb_ring.proofs.Base.{Allows, Bool, List, [], ap, arith, dec_le, dec_lt, false, get_elem?, inl, inr}
use Rattle.mb_ring.proofs.Base.{keeps, length, none, refl, slice_index, some, step, subst, suc, sym, true, ℕ, ⊎_elim}
use Rattle.mb_ring.proofs.Base.{◌+◌, ◌-◌, ◌<◌, ◌∙◌, ◌∷◌, ◌≡◌, ◌≤◌}
use Rattle.mb_segment.proofs.Base.{if◌then◌else◌, nat_eq}
use Rattle.mb_segment.proofs.Halves.{free_shut}
use Rattle.mb_segment.proofs.Places.{is_cutter}
use Rattle.mb_segment.proofs.Spots.{same_some}
use Rattle.mb_ring.specs.Vocabulary.{Below, Claim, Duty, Fits, FoundFull, Issuer, Keeps, KnowsCut, Member, Role, Room, SawAllGot, Sat, Spent, Spot, View}
use Rattle.mb_ring.specs.Vocabulary.{asking, counting, done_with_all, dozes, drawn, free, gives_up, has_closed, in_list, looked, on}
use Rattle.mb_ring.specs.Vocabulary.{ready, same, seeing_cut, sees_cut, sees_drawn, sees_full}
use Rattle.mb_ring.specs.Vocabulary.{sees_taken, spot, spots_to, taken, with_duty}
use Rattle.mb_ring.proofs.Sleep.{Law, free_none, law_rest}
use Rattle.mb_ring.proofs.Walks.{finds_no_room}
use Rattle.mb_ring.proofs.Kept.{St}
use Rattle.mb_ring.proofs.Loads.{Goes, StaysIdle, at0, at1, owing, pays, pays_at, sees, steps}

-- a step with this effect for room is right where no room is ready; or at any time; or while the ring is open
abbrev IsPaid : {T : Type 0} → (Duty → Duty) → View T → Type 0
IsPaid f v = StaysIdle v (on Room f v.duty) × (in_list (f v.duty.room) ≡ in_list v.duty.room)
    × ((z t a : ℕ) → Law v.duty.room (f v.duty.room) 0 0 z z t t a)

abbrev IsStill_ : {T : Type 0} → (Duty → Duty) → View T → Type 0
IsStill_ f v = StaysIdle v (on Room f v.duty) × (in_list (f v.duty.room) ≡ in_list v.duty.room)
    × ((r z t a : ℕ) → Law v.duty.room (f v.duty.room) r r z z t t a)

abbrev IsOpen : {T : Type 0} → (Duty → Duty) → View T → Type 0
IsOpen f v = StaysIdle v (on Room f v.duty) × (in_list (f v.duty.room) ≡ in_list v.duty.room)
    × ((r t a : ℕ) → Law v.duty.room (f v.duty.room) r r 1 1 t t a)

module _ {T : Type 0} where
  paid_look : (v : View T) → IsPaid looked v
  paid_look v = (
    (λ _ e. ap (on Room looked) e),
    refl,
    (λ z t a L O C L' O' C' l o c le x h.
        (inr (omega arith), ⊎_elim (λ y. inl (omega arith)) (λ y. inr (omega arith)) h)),
  )

  paid_done : (v : View T) → 0 < v.duty.room.fresh → IsPaid done_with_all v
  paid_done v fresh = (
    owing Room (λ d. d.fresh) v (on Room done_with_all v.duty) refl fresh,
    omega arith,
    (λ z t a L O C L' O' C' l o c le x h. (inr (omega arith), inr (omega arith))),
  )

  paid_doze : (v : View T) → 0 < v.duty.room.fresh → IsPaid dozes v
  paid_doze v fresh = (
    owing Room (λ d. d.fresh) v (on Room dozes v.duty) refl fresh,
    omega arith,
    (λ z t a L O C L' O' C' l o c le x h. (inr (omega arith), inr (omega arith))),
  )

  -- ---- the number drawn
  cut_seen : (f : Duty → Duty) (i : ℕ) (me : Sat T) → IsPaid f me.0 → (s : St T) (k : Keeps s)
      → get_elem? s.views i ≡ some me.0 → 9223372036854775808 ≤ slice_index s.words 0
      → Goes s 0 i me (λ _ n. (n.0 ≡ sees_cut (with_duty Room f me.0)) × (n.1 ≡ me.1)) (slice_index s.words 0)
  cut_seen f i me paid s k at high =
      let now_ = at0 s k in let small = k.small in let y = (k.fits i me.0 at).sight in
      let none_ : 0 ≡ ready Room k.history k.size k.cut
      = sym (free_shut k.cut (k.size - length k.history.rest) (omega arith)) in (
        sees_cut (with_duty Room f me.0),
        keeps,
        tt,
        pays s k 0 i me.0 at me.1 Room f record me.0.sight { cut = true } refl paid.0 paid.1
            (subst (λ (r : ℕ). Law me.0.duty.room (f me.0.duty.room) r r (free k.cut 1) (free k.cut 1)
            (k.tokens Room) (k.tokens Room) (k.waiting Room)) none_
            (paid.2 (free k.cut 1) (k.tokens Room) (k.waiting Room))) record {
              low = y.low;
              top = y.top;
              room = y.room;
              ripe = y.ripe;
              cut_ = λ _. omega arith;
              empty = y.empty;
              full = y.full;
            } (omega arith),
        (refl, refl),
      )

  -- a look whether the ring is cut, where nothing else is owed if it is not
  sees_cuts_as : (f g : Duty → Duty) (slots i : ℕ) (me : Sat T) → IsStill_ f me.0 → IsOpen g me.0
      → Allows Keeps slots i me 0 (λ r. r) (seeing_cut f g (step slots 0 0 0 none) me)
  sees_cuts_as f g slots i me cut open_ = steps slots i me 0 (λ r. r) (seeing_cut f g (step slots 0 0 0 none) me)
      (λ s k many at. go s k at (dec_lt (slice_index s.words 0) 9223372036854775808))
    where
      go : (s : St T) (k : Keeps s) → get_elem? s.views i ≡ some me.0
          → Dec (slice_index s.words 0 < 9223372036854775808)
          → Goes s 0 i me (seeing_cut f g (step slots 0 0 0 none) me) (slice_index s.words 0)
      go s k at (yes low) =
          let now_ = at0 s k in
          let not_cut : k.cut ≡ 0 = omega arith in
          let one : 1 ≡ free k.cut 1 = sym (ap (λ (n : ℕ). free n 1) not_cut) in (
            with_duty Room g me.0,
            keeps,
            tt,
            pays s k 0 i me.0 at me.1 Room g me.0.sight refl open_.0 open_.1
                (subst (λ (z : ℕ). Law me.0.duty.room (g me.0.duty.room) (ready Room k.history k.size k.cut)
                (ready Room k.history k.size k.cut) z z (k.tokens Room) (k.tokens Room) (k.waiting Room)) one
                (open_.2 (ready Room k.history k.size k.cut) (k.tokens Room) (k.waiting Room)))
                (k.fits i me.0 at).sight (omega arith),
            ((λ le. absurd (omega arith)), λ _. (refl, refl)),
          )
      go s k at (no high) =
          let now_ = at0 s k in let small = k.small in let y = (k.fits i me.0 at).sight in (
            sees_cut (with_duty Room f me.0),
            keeps,
            tt,
            pays s k 0 i me.0 at me.1 Room f record me.0.sight { cut = true } refl cut.0 cut.1
                (cut.2 (ready Room k.history k.size k.cut) (free k.cut 1) (k.tokens Room) (k.waiting Room)) record {
                  low = y.low;
                  top = y.top;
                  room = y.room;
                  ripe = y.ripe;
                  cut_ = λ _. omega arith;
                  empty = y.empty;
                  full = y.full;
                } (omega arith),
            ((λ _. (refl, refl)), λ lt. absurd (high lt)),
          )

  pub sees_cuts : (slots i : ℕ) (me : Sat T)
      → Allows Keeps slots i me 0 (λ r. r) (seeing_cut same same (step slots 0 0 0 none) me)
  sees_cuts slots i me = sees_cuts_as same same slots i me
      ((λ _ e. e), refl, law_rest me.0.duty.room) ((λ _ e. e), refl, λ r t a. law_rest me.0.duty.room r 1 t a)

  pub sees_before_sleep : (slots i : ℕ) (me : Sat T) → 0 < me.0.duty.room.asleep → 0 < me.0.duty.room.closing
      → Allows Keeps slots i me 0 (λ r. r) (seeing_cut gives_up has_closed (step slots 0 0 0 none) me)
  sees_before_sleep slots i me sleeps owes = sees_cuts_as gives_up has_closed slots i me (
    owing Room (λ d. d.asleep) me.0 (on Room gives_up me.0.duty) refl sleeps,
    omega arith,
    (λ r z t a L O C L' O' C' l o c le x h. (
      ⊎_elim (λ y. inl (omega arith)) (λ y. inr (omega arith)) x,
      ⊎_elim (λ y. inl (omega arith)) (λ y. inr (omega arith)) h,
    )),
  ) (
    owing Room (λ d. d.closing) me.0 (on Room has_closed me.0.duty) refl owes,
    refl,
    (λ r t a L O C L' O' C' l o c le x h.
        (⊎_elim (λ y. inl (omega arith)) (λ y. inr (omega arith)) x, inr (omega arith))),
  )

  -- a ring is cut once a pass was told so, or cut it
  known_cut : (s : St T) (k : Keeps s) (i : ℕ) (v : View T) → get_elem? s.views i ≡ some v → KnowsCut v → 0 < k.cut
  known_cut s k i v at told_ = ⊎_elim (k.fits i v at).sight.cut_ (⊎_elim (λ on. ((k.fits i v at).over on).0)
      (λ did. let q = is_cutter i k.history.cutter (sym ((k.fits i v at).member did.0).cut ∙ did.1) in
      let w = k.cutter in let some_ = q.0 in omega arith)) told_

  asks_as : (f : Duty → Duty) (slots i : ℕ) (me : Sat T) → IsPaid f me.0
      → Allows Keeps slots i me 0 (λ r. r) (asking f (step slots 0 0 0 none) me)
  asks_as f slots i me paid = steps slots i me 0 (λ r. r) (asking f (step slots 0 0 0 none) me)
      (λ s k many at. go s k at (dec_lt (slice_index s.words 0) 9223372036854775808))
    where
      go : (s : St T) (k : Keeps s) → get_elem? s.views i ≡ some me.0
          → Dec (slice_index s.words 0 < 9223372036854775808)
          → Goes s 0 i me (asking f (step slots 0 0 0 none) me) (slice_index s.words 0)
      go s k at (yes low) =
          let now_ = at0 s k in let y = (k.fits i me.0 at).sight in let d = (k.fits i me.0 at).heard.0 in (
            sees_drawn (slice_index s.words 0) me.0,
            keeps,
            tt,
            sees s k 0 i me.0 at me.1 record me.0.sight { top = slice_index s.words 0 } refl record {
              low = y.low;
              top = omega arith;
              room = y.room;
              ripe = y.ripe;
              cut_ = y.cut_;
              empty = y.empty;
              full = y.full;
            } (omega arith),
            (
              (λ le. absurd (omega arith)),
              (λ _. ((refl, refl), omega arith)),
              λ told_. absurd (let c = known_cut s k i me.0 at told_ in omega arith),
            ),
          )
      go s k at (no high) = let c = cut_seen f i me paid s k at (omega arith) in
          (c.0, c.1, c.2, c.3, ((λ _. c.4), (λ lt. absurd (high lt)), λ _. omega arith))

  pub asks : (slots i : ℕ) (me : Sat T) → Allows Keeps slots i me 0 (λ r. r) (asking looked (step slots 0 0 0 none) me)
  asks slots i me = asks_as looked slots i me (paid_look me.0)

  pub asks_listed : (slots i : ℕ) (me : Sat T) → 0 < me.0.duty.room.fresh
      → Allows Keeps slots i me 0 (λ r. r) (asking done_with_all (step slots 0 0 0 none) me)
  asks_listed slots i me fresh = asks_as done_with_all slots i me (paid_done me.0 fresh)

  -- all that a pass received is below the number claimed
  below_to : (n b m : ℕ) (cs : List (Claim T)) → b + length cs ≤ m → Below m (spots_to n b cs)
  below_to n b m [] le = tt
  below_to n b m (d ∷ ds) le = go (omega arith) (below_to n (suc b) m ds (omega arith)) (nat_eq d.to n)
    where
      go : b < m → Below m (spots_to n (suc b) ds) → (c : Bool)
          → Below m (if c then spot b d.entry.value ∷ spots_to n (suc b) ds else spots_to n (suc b) ds)
      go lt r true = (lt, r)
      go lt r false = r

  all_got : (s : St T) (k : Keeps s) (i : ℕ) (v : View T) → get_elem? s.views i ≡ some v → (r : ℕ)
      → taken k.history ≡ r → SawAllGot (sees_full r k.walk v)
  all_got s k i v at r is t e = subst (λ (m : ℕ). Below m v.account.got) (same_some r t e)
      (go (k.fits i v at) v.role refl)
    where
      go : Fits k.history k.size k.states k.cut k.hub k.roll i v → (a : Role) → v.role ≡ a → Below r v.account.got
      go fit Issuer e = subst (λ (l : List (Spot T)). Below r l) (sym (fit.hub_ e).idle.1) tt
      go fit Spent e = subst (λ (l : List (Spot T)). Below r l) (sym (fit.back e).3) tt
      go fit Member e = subst (λ (l : List (Spot T)). Below r l) (sym (fit.member e).got)
          (below_to i 0 r k.history.claims (omega arith))

  -- no room is free where as many values wait as there are slots
  all_full : (s : St T) (k : Keeps s) → taken k.history + k.size ≤ drawn k.history
      → k.size - length k.history.rest ≡ 0
  all_full s k le = omega arith

  counts_as : (f : Duty → Duty) (slots i : ℕ) (me : Sat T) → IsPaid f me.0
      → Allows Keeps slots i me 1 (λ r. r) (counting f (step slots 1 0 0 none) me)
  counts_as f slots i me paid = steps slots i me 1 (λ r. r) (counting f (step slots 1 0 0 none) me)
      (λ s k many at. go s k many at (dec_le (slice_index s.words 1 + slots) me.0.sight.top))
    where
      go : (s : St T) (k : Keeps s) → k.size ≡ slots → get_elem? s.views i ≡ some me.0
          → Dec (slice_index s.words 1 + slots ≤ me.0.sight.top)
          → Goes s 1 i me (counting f (step slots 1 0 0 none) me) (slice_index s.words 1)
      go s k many at (yes full) =
          let now_ = at1 s k in
          let small = k.small in
          let r = slice_index s.words 1 in
          let y = (k.fits i me.0 at).sight in
          let top = y.top in
          let w = k.within in
          let none_ : 0 ≡ ready Room k.history k.size k.cut
          = sym (ap (free k.cut) (all_full s k (omega arith)) ∙ free_none k.cut) in (
            sees_full r k.walk (with_duty Room f me.0),
            keeps,
            tt,
            pays_at s k 1 i me.0 (FoundFull i ∷ k.walk) at me.1 Room f (sees_full r k.walk me.0).sight
                (finds_no_room k.walk k.history k.size i (with_duty Room f me.0) (k.looks i me.0 at) k.walked k.true_
                (omega arith) r now_) paid.0 paid.1
                (subst (λ (m : ℕ). Law me.0.duty.room (f me.0.duty.room) m m (free k.cut 1) (free k.cut 1)
                (k.tokens Room) (k.tokens Room) (k.waiting Room)) none_
                (paid.2 (free k.cut 1) (k.tokens Room) (k.waiting Room))) record {
                  low = y.low;
                  top = y.top;
                  room = y.room;
                  ripe = y.ripe;
                  cut_ = y.cut_;
                  empty = y.empty;
                  full = λ t e. let q : r ≡ t = same_some r t e in (omega arith, omega arith);
                } (omega arith),
            (
              (λ _. (k.walk, (refl, refl), all_got s k i me.0 at r (sym now_))),
              (λ lt. absurd (omega arith)),
              omega arith,
              let a = (k.fits i me.0 at).heard.1 in omega arith,
              let a = (k.fits i me.0 at).heard.0 in omega arith,
            ),
          )
      go s k many at (no room) =
          let now_ = at1 s k in
          let small = k.small in
          let r = slice_index s.words 1 in
          let y = (k.fits i me.0 at).sight in
          let low_ = y.low in (
            sees_taken r me.0,
            keeps,
            tt,
            sees s k 1 i me.0 at me.1 record me.0.sight { low = r } refl record {
              low = omega arith;
              top = y.top;
              room = y.room;
              ripe = y.ripe;
              cut_ = y.cut_;
              empty = y.empty;
              full = y.full;
            } (omega arith),
            (
              (λ le. absurd (room le)),
              (λ _. (refl, refl)),
              omega arith,
              let a = (k.fits i me.0 at).heard.1 in omega arith,
              let a = (k.fits i me.0 at).heard.0 in let w = k.within in omega arith,
            ),
          )

  pub counts : (slots i : ℕ) (me : Sat T)
      → Allows Keeps slots i me 1 (λ r. r) (counting looked (step slots 1 0 0 none) me)
  counts slots i me = counts_as looked slots i me (paid_look me.0)

  pub counts_listed : (slots i : ℕ) (me : Sat T) → 0 < me.0.duty.room.fresh
      → Allows Keeps slots i me 1 (λ r. r) (counting dozes (step slots 1 0 0 none) me)
  counts_listed slots i me fresh = counts_as dozes slots i me (paid_doze me.0 fresh)
