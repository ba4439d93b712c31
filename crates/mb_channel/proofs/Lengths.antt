-- The hubs of the list look how many positions are drawn and claimed.
use Rattle.std.proofs.Common.{ℕ, zero, suc, true, true≢false, List, [], length, sym, refl, ap, subst, inl, inr, ⊎_elim, arith}
use Rattle.std.proofs.Common.{◌≡◌, ◌+◌, ◌<◌, ◌⊎◌, ◌∷◌, ◌++◌, ◌∙◌}
use Rattle.std.specs.Prelude.{slice_set, None, Option}
use mathlib.Core.Option.{none, some, some-injective, some-ne-none}
use lib.ListN.{get_elem?}
use Rattle.atomic_table.specs.Table.{Allows, State, Step, step}
use Rattle.atomic_table.specs.declared.shared.Seat.{Seat}
use Rattle.mb_segment.specs.Vocabulary.{hub_view, is_over}
use Rattle.mb_channel.specs.Types.{Fates, Home, Homes, Knows, View}
use Rattle.mb_channel.specs.Homes.{Agrees, At, Changes, Grows, IsDone, IsNext, IsOver, IsReady, Keeps, Made, Sat, Stands}
use Rattle.mb_channel.specs.Homes.{is_in, locked, out_of, total, unlocked}
use Rattle.mb_channel.specs.Lengths.{HasLooked, HasSummed, HaveLooked, and_length, chair_told, gives_length, sum_of, sum_to, told_length}
use Rattle.mb_channel.proofs.Moves.{Lawful, busy_same, ended_stay, in_grows, led_grows, near_grows, next_grows, over_grows, still_told, unlocks_as}
use Rattle.mb_channel.proofs.Views.{made_map, size_set}

module _ {T : Type 0} where
  looks_same : (h : Home T) → HasLooked h h
  looks_same h = (refl, refl)

  looks_on : (h g u : Home T) → HasLooked h g → HasLooked g u → HasLooked h u
  looks_on h g u a b = (
    b.0 ∙ a.0,
    b.1 ∙ ap (λ (z : View T). record z { known = (hub_view u.hub).known }) a.1,
  )

  pub looked_same : (hs : List (Home T)) → HaveLooked hs hs
  looked_same [] = tt
  looked_same (h ∷ hs) = (looks_same h, looked_same hs)

  pub looked_on : (hs gs us : List (Home T)) → HaveLooked hs gs → HaveLooked gs us → HaveLooked hs us
  looked_on [] [] [] a b = tt
  looked_on [] [] (u ∷ us) a b = absurd b
  looked_on [] (g ∷ gs) us a b = absurd a
  looked_on (h ∷ hs) [] us a b = absurd a
  looked_on (h ∷ hs) (g ∷ gs) [] a b = absurd b
  looked_on (h ∷ hs) (g ∷ gs) (u ∷ us) a b = (looks_on h g u a.0 b.0, looked_on hs gs us a.1 b.1)

  looked_behind : (hs gs us : List (Home T)) → HaveLooked gs us → HaveLooked (hs ++ gs) (hs ++ us)
  looked_behind [] gs us a = a
  looked_behind (h ∷ hs) gs us a = (looks_same h, looked_behind hs gs us a)

  looked_set : (hs : List (Home T)) (k : ℕ) (h g : Home T) → get_elem? hs k ≡ some h → HasLooked h g
      → HaveLooked hs (slice_set hs k g)
  looked_set [] k h g at l = absurd (some-ne-none h (sym at))
  looked_set (x ∷ hs) zero h g at l = (subst (λ z. HasLooked z g) (sym (some-injective x h at)) l, looked_same hs)
  looked_set (x ∷ hs) (suc k) h g at l = (looks_same x, looked_set hs k h g at l)

  pub looked_long : (hs gs : List (Home T)) → HaveLooked hs gs → length gs ≡ length hs
  looked_long [] [] a = refl
  looked_long [] (g ∷ gs) a = absurd a
  looked_long (h ∷ hs) [] a = absurd a
  looked_long (h ∷ hs) (g ∷ gs) a = ap suc (looked_long hs gs a.1)

  -- ---- the sums
  sum_set : (f : Home T → ℕ) (hs : List (Home T)) (k : ℕ) (h g : Home T) → get_elem? hs k ≡ some h
      → sum_to f (suc k) (slice_set hs k g) ≡ sum_to f k hs + f g
  sum_set f [] k h g at = absurd (some-ne-none h (sym at))
  sum_set f (x ∷ hs) zero h g at = omega arith
  sum_set f (x ∷ hs) (suc k) h g at = let r = sum_set f hs k h g at in omega arith

  sum_stays : (f : Home T → ℕ) (hs : List (Home T)) (n k : ℕ) (h g : Home T) → get_elem? hs k ≡ some h → f g ≡ f h
      → sum_to f n (slice_set hs k g) ≡ sum_to f n hs
  sum_stays f hs zero k h g at same = refl
  sum_stays f [] (suc n) k h g at same = absurd (some-ne-none h (sym at))
  sum_stays f (x ∷ hs) (suc n) zero h g at same = let e : f x ≡ f h = ap f (some-injective x h at) in omega arith
  sum_stays f (x ∷ hs) (suc n) (suc k) h g at same = let r = sum_stays f hs n k h g at same in omega arith

  -- ---- one hub looked more
  pub looks_more : (hs gs us : List (Home T)) (k : ℕ) (P : Home T → Home T → Type 0) → HaveLooked hs gs
      → Changes gs us k (λ h g. HasLooked h g × P h g) → HaveLooked hs us
  looks_more hs gs us k P a c = looked_on hs gs us a
      (subst (λ z. HaveLooked gs z) (sym c.3) (looked_set gs k c.0 c.1 c.2 c.4.0))

  pub sums_more : (f : Home T → ℕ) (gs us : List (Home T)) (k n : ℕ) (P : Home T → Home T → Type 0)
      → Changes gs us k (λ h g. P h g × (n ≡ f g)) → sum_to f (k + 1) us ≡ sum_to f k gs + n
  sums_more f gs us k n P c = let e : k + 1 ≡ suc k = omega arith in
      ap (λ m. sum_to f m us) e ∙ ap (sum_to f (suc k)) c.3 ∙ sum_set f gs k c.0 c.1 c.2
      ∙ ap (λ m. sum_to f k gs + m) (sym c.4.1)

  pub sums_same : (f : Home T → ℕ) (gs us : List (Home T)) (k : ℕ) (P : Home T → Home T → Type 0)
      → Changes gs us k (λ h g. P h g × (f g ≡ f h)) → sum_of f us ≡ sum_of f gs
  sums_same f gs us k P c = ap (sum_of f) c.3
      ∙ ap (λ n. sum_to f n (slice_set gs k c.1)) (size_set gs k c.1)
      ∙ sum_stays f gs (length gs) k c.0 c.1 c.2 c.4.1

  -- ---- the list, with those that are freed
  pub stands_looked : (hs : List (Home T)) (l m : Homes T) → Stands hs l → HaveLooked l.list.items m.list.items
      → (m.first ≡ l.first) × (m.audited ≡ l.audited) → (gs : List (Home T)) × Stands gs m × HaveLooked hs gs
  stands_looked hs l m s a same = (
    s.gone ++ m.list.items,
    record {
      gone = s.gone;
      all = refl;
      number = s.number ∙ sym same.0;
      freed = s.freed;
    },
    subst (λ x. HaveLooked x (s.gone ++ m.list.items)) (sym s.all) (looked_behind s.gone l.list.items m.list.items a),
  )

  -- ---- the lock is given back
  grows_looked : (hs gs : List (Home T)) → HaveLooked hs gs → Grows hs gs
  grows_looked [] gs a k h e = absurd (some-ne-none h (sym e))
  grows_looked (x ∷ hs) [] a k h e = absurd a
  grows_looked (x ∷ hs) (g ∷ gs) a zero h e = (
    g,
    refl,
    subst (λ z. (g.segment ≡ z.segment) × (IsDone z → IsDone g) × (IsOver z → IsOver g)) (some-injective x h e)
        (a.0.0, (λ d. ap (λ (z : View T). z.over) a.0.1 ∙ d), λ o. ap is_over a.0.1 ∙ o),
  )
  grows_looked (x ∷ hs) (g ∷ gs) a (suc k) h e = grows_looked hs gs a.1 k h e

  looked_from : (hs gs : List (Home T)) → HaveLooked hs gs → (k : ℕ) (g : Home T) → get_elem? gs k ≡ some g
      → At hs k (λ h. HasLooked h g)
  looked_from [] [] a k g e = absurd (some-ne-none g (sym e))
  looked_from [] (x ∷ gs) a k g e = absurd a
  looked_from (h ∷ hs) [] a k g e = absurd a
  looked_from (h ∷ hs) (x ∷ gs) a zero g e = (h, refl, subst (λ z. HasLooked h z) (some-injective x g e) a.0)
  looked_from (h ∷ hs) (x ∷ gs) a (suc k) g e = looked_from hs gs a.1 k g e

  agrees_looked : (hs gs : List (Home T)) → HaveLooked hs gs → (all : List (Made T)) → Agrees hs all → Agrees gs all
  agrees_looked hs gs l all a = record {
    here = λ k g e. let x = looked_from hs gs l k g e in ap (λ (z : View T). z.ends) x.2.1 ∙ a.here k x.0 x.1;
    none_behind = λ k long. (let n = looked_long hs gs l in a.none_behind k (omega arith));
    turn = made_map (λ m. (m.visit.account.got ≡ []) ⊎ IsNext hs m.visit.segment) (λ m. (m.visit.account.got ≡ [])
        ⊎ IsNext gs m.visit.segment) all
        (λ m x. ⊎_elim (λ l. inl l) (λ r. inr (next_grows hs gs (grows_looked hs gs l) m.visit.segment r)) x) a.turn;
  }

  busy_looked : (s : State (Homes T) (Knows T)) (k : Keeps s) (gs : List (Home T)) → HaveLooked k.homes gs
      → (p m : ℕ) (g : Home T) → get_elem? gs m ≡ some g → out_of g + p ≡ total (is_in m) s.views + p
  busy_looked s k gs l p m g e = let x = looked_from k.homes gs l m g e in
      ap (λ (z : View T). z.out + p) x.2.1 ∙ busy_same s k m p x.0 x.1

  pub lawful_looked : (s : State (Homes T) (Knows T)) (k : Keeps s) (id : ℕ) (v : Knows T) (hs : List (Home T))
      (ns : List ℕ) (fs : List (Option (Fates T))) → get_elem? s.views id ≡ some v → 0 < v.rights
      → v.before ≡ k.homes → HaveLooked v.before hs
      → Lawful s k id v hs (record (unlocked v) { lengths = ns; fates = fs })
  lawful_looked s k id v hs ns fs at part before looked =
      let w : Knows T = record (unlocked v) { lengths = ns; fates = fs } in
      let f = k.fits id v at in
      let l : HaveLooked k.homes hs = subst (λ x. HaveLooked x hs) before looked in
      let g = grows_looked k.homes hs l in
      let size = looked_long k.homes hs l in (
        k.all,
        g,
        led_grows k.homes hs g size k.leads,
        agrees_looked k.homes hs l k.all k.agrees,
        (λ n _. refl),
        (λ g. omega arith),
        (λ n h e. busy_looked s k hs l (is_in n v) n h e),
        record {
          named = f.named;
          falls = f.falls;
          names = f.names;
          near = near_grows k.homes hs g v.at f.near;
          inside = λ is. in_grows k.homes hs g v (f.inside is);
          takes = λ is. next_grows k.homes hs g v.at (f.takes is);
          newborn = f.newborn;
          idle = λ z. absurd (omega arith);
          ended = ended_stay s k id v w at part k.all (λ n _. refl);
        },
        still_told s k id v w hs at g size refl
            (λ q. absurd (true≢false (sym q))) (λ q. absurd (true≢false (sym q))) refl refl refl
            (λ q. over_grows k.homes hs g v.at ((k.told id v at).over q)),
      )

  pub unlocks_looked : (told : Option ℕ) (slots id : ℕ) (me : Sat T) → me.0.live ≡ true → me.0.holds ≡ true
      → HasSummed me.0.before told me.1
      → Allows Keeps slots id me 0 (λ _. 0) (λ _. gives_length told (step slots 0 0 0 none) me 0)
  unlocks_looked told slots id me live holds sum = unlocks_as
      (gives_length told (step slots 0 0 0 none) me 0) (told_length told (unlocked me.0)) slots id me sum.0 sum.2 sum.3
      sum.1 live holds refl refl refl refl refl (refl, holds, sum)
      (λ s k at part before. lawful_looked s k id me.0 sum.2 (and_length told me.0.lengths) me.0.fates at part before
      sum.4)

  -- the list that an end gives back when it is told a length is the channel's
  pub told_of_list : (s : State (Homes T) (Knows T)) (k : Keeps s) (id r : ℕ) (told : Option ℕ) (st : Step (Homes T))
      (m n : Sat T) → get_elem? s.views id ≡ some m.0 → gives_length told st m r n → HasSummed k.homes told m.1
  told_of_list s k id r told st m n at gives = subst (λ hs. HasSummed hs told m.1) (⊎_elim
      (λ free. absurd (true≢false (sym gives.1 ∙ free.4 id m.0 at)))
      (λ held. (held.3 id m.0 at gives.1).1) k.lock) gives.2

  -- ---- the end that is told
  pub seat_is : (p q : Seat (Homes T) (Knows T)) → (q.table_id ≡ p.table_id) × (q.id ≡ p.id) → q.me ≡ p.me → q ≡ p
  seat_is p q same me i = record q { table_id = same.0 i; id = same.1 i; me = me i }

  pub let_go : (m : Sat T) (hs : List (Home T)) → IsReady m → unlocked (locked hs m.0) ≡ m.0
  let_go m hs r i = record m.0 { holds = sym r.1 i; before = sym r.2 i; is_open = sym r.4 i; may_add = sym r.5 i }

  -- whoever has tried to count what waits is told that, or is as it was
  pub told_nothing : (p q : Seat (Homes T) (Knows T)) → (q.table_id ≡ p.table_id) × (q.id ≡ p.id) → q.me ≡ p.me
      → q ≡ chair_told None p
  told_nothing p q same me = seat_is p q same me

  pub told_there : (told : Option ℕ) (hs : List (Home T)) (p q : Seat (Homes T) (Knows T)) (v : Knows T)
      → (q.table_id ≡ p.table_id) × (q.id ≡ p.id) → IsReady p.me → v ≡ locked hs p.me.0
      → q.me ≡ (told_length told (unlocked v), []) → q ≡ chair_told told p
  told_there told hs p q v same ready is me = seat_is (chair_told told p) q same (me
      ∙ ap (λ u. (told_length told u, [])) (ap (λ u. unlocked u) is ∙ let_go p.me hs ready)
      ∙ ap (λ c. (told_length told p.me.0, c)) (sym ready.3))
