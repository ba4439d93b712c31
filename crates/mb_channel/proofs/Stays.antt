-- An end leaves a segment, and comes to one.
use Rattle.std.proofs.Common.{ℕ, zero, suc, Bool, true, false, true≢false, List, [], length, sym, refl, ap, subst, inl, inr, ⊎_elim, arith}
use Rattle.std.proofs.Common.{◌≡◌, ◌≢◌, ◌⊎◌, ◌∷◌, ◌∙◌, ◌+◌, ◌-◌, ◌<◌, ◌≤◌, ◌&&◌, ◌||◌}
use Rattle.std.specs.Prelude.{Some, slice_set}
use native.Mathlib.Decide.{ℕ_discrete}
use mathlib.Core.Option.{some, some-injective}
use lib.ListN.{get_elem?}
use Rattle.atomic_table.specs.Table.{State}
use Rattle.atomic_table.proofs.Lists.{at_set, set_else, set_here}
use Rattle.mb_segment.specs.Vocabulary.{hub_view, is_over}
use Rattle.mb_channel.specs.Types.{Account, Arc, Global, Home, Homes, Knows, Pass, Segment, View, Visit}
use Rattle.mb_channel.specs.Homes.{Agrees, AreLed, AreOver, At, Falls, Grows, HasIssued, IsDone, IsNear, IsNext, IsOver, IsShare, Keeps, Made, MayGive, Sat, Stands}
use Rattle.mb_channel.specs.Homes.{came_back, came_to, is_in, left_segment, made_by, made_in, out_of, total, unlocked, went_on}
use Rattle.mb_channel.specs.Tallies.{GoesOnTo}
use Rattle.mb_channel.proofs.Moves.{ended_stay, grows_same, led_grows, near_grows, next_grows, over_grows, still_told, unlocks}
use Rattle.mb_channel.proofs.Views.{below_total, by_other, by_own, in_else, in_here, in_none, in_other, in_own, made_map, size_set, there}

both_are : (a b : Bool) → a && b ≡ true → (a ≡ true) × (b ≡ true)
both_are true b e = (refl, e)
both_are false b e = absurd (true≢false (sym e))

module _ {T : Type 0} where
  pub done_over : (h : Home T) → IsDone h → IsOver h
  done_over h done = ap (λ b. b || (hub_view h.hub).sight.full || (hub_view h.hub).sight.cut) done

  -- one segment's hub has changed
  pub grows_set : (hs : List (Home T)) (k : ℕ) (h g : Home T) → get_elem? hs k ≡ some h → g.segment ≡ h.segment
      → (IsDone h → IsDone g) → (IsOver h → IsOver g)
      → Grows hs (slice_set hs k g)
  grows_set hs k h g at same done over j u at' = go (ℕ_discrete j k)
    where
      go : Dec (j ≡ k) → At (slice_set hs k g) j (λ x. (x.segment ≡ u.segment) × (IsDone u → IsDone x)
          × (IsOver u → IsOver x))
      go (yes e) = let is : h ≡ u = some-injective h u (sym at ∙ ap (get_elem? hs) (sym e) ∙ at') in (
        g,
        ap (get_elem? (slice_set hs k g)) e ∙ set_here hs k g (there hs k h at),
        (
          same ∙ ap (λ (x : Home T). x.segment) is,
          (λ d. done (subst (λ x. IsDone x) (sym is) d)),
          λ o. over (subst (λ x. IsOver x) (sym is) o),
        ),
      )
      go (no ne) = (u, set_else hs k j g ne ∙ at', (refl, (λ d. d), λ o. o))

  -- it has issued a pass
  pub agrees_set : (hs : List (Home T)) (all : List (Made T)) (k : ℕ) (h g : Home T) → get_elem? hs k ≡ some h
      → Grows hs (slice_set hs k g)
      → came_back g ≡ came_back h → Agrees hs all → Agrees (slice_set hs k g) all
  agrees_set hs all k h g at grows same a = record {
    here = λ j u e. ⊎_elim
        (λ (t : (j ≡ k) × (g ≡ u)). ap came_back (sym t.1) ∙ same ∙ a.here k h at ∙ ap (λ i. made_in i all) (sym t.0))
        (λ (t : (j ≢ k) × (get_elem? hs j ≡ some u)). a.here j u t.1) (at_set hs k j g u e);
    none_behind = λ j long. (let l = size_set hs k g in a.none_behind j (omega arith));
    turn = made_map (λ m. (m.visit.account.got ≡ []) ⊎ IsNext hs m.visit.segment) (λ m. (m.visit.account.got ≡ [])
        ⊎ IsNext (slice_set hs k g) m.visit.segment) all
        (λ m x. ⊎_elim (λ l. inl l) (λ r. inr (next_grows hs (slice_set hs k g) grows m.visit.segment r)) x) a.turn;
  }

  -- it has taken back a pass that did this
  agrees_back : (hs : List (Home T)) (all : List (Made T)) (k : ℕ) (h g : Home T) (id : ℕ) (a : Account T)
      → get_elem? hs k ≡ some h
      → Grows hs (slice_set hs k g) → came_back g ≡ a ∷ came_back h → (a.got ≡ []) ⊎ IsNext hs k → Agrees hs all
      → Agrees (slice_set hs k g) (record { by = id; visit = record { segment = k; account = a } } ∷ all)
  agrees_back hs all k h g id a at grows back next x =
      let m : Made T = record { by = id; visit = record { segment = k; account = a } } in record {
        here = λ j u e. ⊎_elim
            (λ (t : (j ≡ k) × (g ≡ u)). ap came_back (sym t.1) ∙ back ∙ ap (λ l. a ∷ l) (x.here k h at) ∙ sym
            (in_own k m all refl) ∙ ap (λ i. made_in i (m ∷ all)) (sym t.0))
            (λ (t : (j ≢ k) × (get_elem? hs j ≡ some u)). x.here j u t.1 ∙ sym (in_other j m all (λ q. t.0 (sym q))))
            (at_set hs k j g u e);
        none_behind = λ j long. (let l = size_set hs k g in let i = there hs k h at in
            in_other j m all (λ (q : k ≡ j). omega arith) ∙ x.none_behind j (omega arith));
        turn = (
          ⊎_elim (λ l. inl l) (λ r. inr (next_grows hs (slice_set hs k g) grows k r)) next,
          made_map (λ m. (m.visit.account.got ≡ []) ⊎ IsNext hs m.visit.segment) (λ m. (m.visit.account.got ≡ [])
              ⊎ IsNext (slice_set hs k g) m.visit.segment) all
              (λ m w. ⊎_elim (λ l. inl l)
              (λ r. inr (next_grows hs (slice_set hs k g) grows m.visit.segment r)) w) x.turn,
        );
      }

  -- what is so of all before, and of the next one
  one_more : (P : Home T → Type 0) (hs : List (Home T)) (k : ℕ) → ((j : ℕ) → j < k → At hs j P) → At hs k P
      → (j : ℕ) → j < suc k → At hs j P
  one_more P hs k next here j lt = go (ℕ_discrete j k)
    where
      go : Dec (j ≡ k) → At hs j P
      go (yes e) = subst (λ i. At hs i P) (sym e) here
      go (no ne) = next j (omega arith)

  -- who may not receive has received nothing
  rich : (P : Type 0) (b c : Bool) → c ≡ b → (a : Account T) → (c ≡ true → P) → (c ≡ false → a.got ≡ [])
      → (a.got ≡ []) ⊎ P
  rich P true c e a next poor = inr (next e)
  rich P false c e a next poor = inl (poor e)

  -- the passes that are out, where one segment's hub has changed
  crowd_set : (s : State (Homes T) (Knows T)) (k : Keeps s) (v w : Knows T) (n : ℕ) (h g : Home T)
      → get_elem? k.homes n ≡ some h → out_of g + is_in n v ≡ out_of h + is_in n w
      → ((m : ℕ) → m ≢ n → is_in m v ≡ is_in m w)
      → (m : ℕ) (u : Home T) → get_elem? (slice_set k.homes n g) m ≡ some u
      → out_of u + is_in m v ≡ total (is_in m) s.views + is_in m w
  crowd_set s k v w n h g at here else_ m u e = ⊎_elim
      (λ (t : (m ≡ n) × (g ≡ u)). subst (λ (z : ℕ × Home T). out_of z.1 + is_in z.0 v ≡ total (is_in z.0) s.views
      + is_in z.0 w) (λ i. (sym t.0 i, t.1 i)) (here ∙ ap (λ x. x + is_in n w) (k.crowd n h at)))
      (λ (t : (m ≢ n) × (get_elem? k.homes m ≡ some u)). (
      let c = k.crowd m u t.1 in let d = else_ m t.0 in omega arith
      ))
      (at_set k.homes n m g u e)

  pub unlocks_left : (x : View T) (done : Bool) (slots id : ℕ) (me : Sat T) (y : Homes T) (hs : List (Home T))
      → Stands hs y → me.1 ≡ (0, y) ∷ [] → me.0.live ≡ true → me.0.holds ≡ true → me.0.inside ≡ true
      → (h g : Home T) → get_elem? me.0.before me.0.at ≡ some h → hs ≡ slice_set me.0.before me.0.at g
      → g.segment ≡ h.segment → (IsDone h → IsDone g) → (IsOver h → IsOver g) → came_back g ≡ x.account ∷ came_back h
      → out_of g ≡ out_of h - 1 → (done ≡ true → IsDone g) → (is_over x ≡ true → IsOver g)
      → (me.0.takes ≡ false → x.account.got ≡ []) → x.account.name ≡ me.0.name
      → MayGive (left_segment x done) slots id me
  unlocks_left x done slots id me y hs stands carried live holds inside h g at is same keeps_ stays back out next over
      poor name = unlocks (left_segment x done) slots id me y hs stands carried live holds refl refl refl refl refl refl
      refl refl
      (λ s k at' part before.
      let v = me.0 in
      let a = x.account in
      let f = k.fits id v at' in
      let here : get_elem? k.homes v.at ≡ some h = ap (λ l. get_elem? l v.at) (sym before) ∙ at in
      let now : hs ≡ slice_set k.homes v.at g = is ∙ ap (λ l. slice_set l v.at g) before in
      let grows : Grows k.homes (slice_set k.homes v.at g) = grows_set k.homes v.at h g here same keeps_ stays in
      let m : Made T = record { by = id; visit = record { segment = v.at; account = a } } in
      let n = f.named live in
      let w = left_segment x done (unlocked v) in
      let others : (j : ℕ) → j ≢ id → made_by j (m ∷ k.all) ≡ made_by j k.all = λ j ne. by_other j m k.all ne in
      let there_ : get_elem? (slice_set k.homes v.at g) v.at ≡ some g = set_here k.homes v.at g
      (there k.homes v.at h here) in
      let crowd : out_of g + is_in v.at v ≡ out_of h + is_in v.at w = (
      let c = k.crowd v.at h here in let b = below_total (is_in v.at) s.views id v at' in
      let one = in_here v v.at inside refl in let none_ = in_none w v.at refl in omega arith
      ) in (
        m ∷ k.all,
        subst (λ l. Grows k.homes l) (sym now) grows,
        subst (λ l. AreLed l) (sym now) (led_grows k.homes (slice_set k.homes v.at g) grows
            (size_set k.homes v.at g) k.leads),
        subst (λ l. Agrees l (m ∷ k.all)) (sym now) (agrees_back k.homes k.all v.at h g id a here grows back (rich
            (IsNext k.homes v.at) v.takes v.takes refl a f.takes poor) k.agrees),
        others,
        (λ w. let e : w v.number ≡ w id = ap w n.0 in omega arith),
        (λ j u e. crowd_set s k v w v.at h g here crowd (λ i ne. in_else v i (λ q. ne (sym q)) ∙ sym (in_none w i refl))
            j u (ap (λ l. get_elem? l j) (sym now) ∙ e)),
        record {
          named = λ _. (n.0, ap (λ l. record { segment = v.at; account = a } ∷ l) n.1 ∙ sym (by_own m k.all));
          falls = (omega arith, f.falls);
          names = ((name, f.names.0), f.names.1);
          near = subst (λ l. IsNear l (suc v.at)) (sym now) (inr (v.at, refl, (g, there_, tt)));
          inside = λ q. absurd (true≢false (sym q));
          takes = λ q. subst (λ l. IsNext l (suc v.at)) (sym now) (one_more IsDone (slice_set k.homes v.at g) v.at
              (next_grows k.homes (slice_set k.homes v.at g) grows v.at (f.takes (both_are v.takes done q).0))
              (g, there_, next (both_are v.takes done q).1));
          newborn = λ q. absurd (true≢false (sym live ∙ q));
          idle = λ z. absurd (omega arith);
          ended = ended_stay s k id v w at' part (m ∷ k.all) others;
        },
        still_told s k id v w hs at' (subst (λ l. Grows k.homes l) (sym now) grows)
            (ap length now ∙ size_set k.homes v.at g) refl (λ q. absurd (true≢false (sym q)))
            (λ q. absurd (true≢false (sym q))) refl refl refl
            (λ q. subst (λ l. AreOver l (suc v.at)) (sym now) (one_more IsOver (slice_set k.homes v.at g) v.at
            (over_grows k.homes (slice_set k.homes v.at g) grows v.at
            ((k.told id v at').over (both_are v.orderly (is_over x) q).0))
            (g, there_, over (both_are v.orderly (is_over x) q).1))),
      ))

  pub unlocks_came : (b : Bool) (c : Arc (Segment T Global) Global) (p : Pass T) (g : Home T) (slots id : ℕ)
      (me : Sat T) (y : Homes T) (hs : List (Home T))
      → Stands hs y → me.1 ≡ (0, y) ∷ [] → me.0.live ≡ true → me.0.holds ≡ true → me.0.inside ≡ false
      → (h : Home T) → get_elem? me.0.before me.0.at ≡ some h → hs ≡ slice_set me.0.before me.0.at g
      → HasIssued h g c p → (b ≡ true → me.0.takes ≡ true)
      → MayGive (came_to c b) slots id me
  unlocks_came b c p g slots id me y hs stands carried live holds outside h at is did next = unlocks
      (came_to c b) slots id me y hs stands carried live holds refl refl refl refl refl refl refl refl
      (λ s k at' part before.
      let v = me.0 in
      let f = k.fits id v at' in
      let here : get_elem? k.homes v.at ≡ some h = ap (λ l. get_elem? l v.at) (sym before) ∙ at in
      let now : hs ≡ slice_set k.homes v.at g = is ∙ ap (λ l. slice_set l v.at g) before in
      let grows : Grows k.homes (slice_set k.homes v.at g) = grows_set k.homes v.at h g here did.0
      (λ d. ap (λ (z : View T). z.over) did.1 ∙ d) (λ o. ap is_over did.1 ∙ o) in
      let w = came_to c b (unlocked v) in
      let more : out_of g ≡ out_of h + 1 = ap (λ (z : View T). z.out) did.1 in
      let crowd : out_of g + is_in v.at v ≡ out_of h + is_in v.at w = (
      let one = in_here w v.at refl refl in let none_ = in_none v v.at outside in omega arith
      ) in (
        k.all,
        subst (λ l. Grows k.homes l) (sym now) grows,
        subst (λ l. AreLed l) (sym now) (led_grows k.homes (slice_set k.homes v.at g) grows
            (size_set k.homes v.at g) k.leads),
        subst (λ l. Agrees l k.all) (sym now) (agrees_set k.homes k.all v.at h g here grows
            (ap (λ (z : View T). z.ends) did.1) k.agrees),
        (λ j _. refl),
        (λ w. omega arith),
        (λ j u e. crowd_set s k v w v.at h g here crowd (λ i ne. in_none v i outside ∙ sym (in_else w i (λ q. ne
            (sym q)))) j u (ap (λ l. get_elem? l j) (sym now) ∙ e)),
        record {
          named = f.named;
          falls = f.falls;
          names = f.names;
          near = subst (λ l. IsNear l v.at) (sym now) (near_grows k.homes (slice_set k.homes v.at g) grows v.at f.near);
          inside = λ _. subst (λ l. At l v.at (IsShare (Some c))) (sym now)
              (g, set_here k.homes v.at g (there k.homes v.at h here), (c, refl, did.2));
          takes = λ q. subst (λ l. IsNext l v.at) (sym now) (next_grows k.homes (slice_set k.homes v.at g) grows v.at
              (f.takes (next q)));
          newborn = λ q. absurd (true≢false (sym live ∙ q));
          idle = λ z. absurd (omega arith);
          ended = ended_stay s k id v w at' part k.all (λ j _. refl);
        },
        still_told s k id v w hs at' (subst (λ l. Grows k.homes l) (sym now) grows)
            (ap length now ∙ size_set k.homes v.at g) refl (λ q. absurd (true≢false (sym q)))
            (λ q. absurd (true≢false (sym q))) refl refl refl
            (λ q. subst (λ l. AreOver l v.at) (sym now) (over_grows k.homes (slice_set k.homes v.at g) grows v.at
            ((k.told id v at').over q))),
      ))

  falls_more : (b c : ℕ) (vs : List (Visit T)) → b ≤ c → Falls b vs → Falls c vs
  falls_more b c [] le f = tt
  falls_more b c (v ∷ vs) le f = (let x = f.0 in omega arith, f.1)

  near_over : (hs : List (Home T)) (k : ℕ) → AreOver hs k → IsNear hs k
  near_over hs zero o = inl refl
  near_over hs (suc j) o = let a = o j (omega arith) in inr (j, refl, (a.0, a.1, tt))

  next_over : (hs : List (Home T)) (k : ℕ) → IsNext hs k → AreOver hs k
  next_over hs k next j lt = let d = next j lt in (d.0, d.1, done_over d.0 d.2)

  -- all before where an end goes on to is over
  on_over : (b : Bool) (hs : List (Home T)) (k : ℕ) → AreLed hs → GoesOnTo b hs k → AreOver hs k
  on_over true hs k led on = next_over hs k on
  on_over false hs k led on = ⊎_elim (λ (e : suc k ≡ length hs). λ j lt. led j (omega arith))
      (λ (n : (length hs ≡ k) × IsNext hs k). next_over hs k n.1) on

  on_next : (b : Bool) (hs : List (Home T)) (k : ℕ) → b ≡ true → GoesOnTo b hs k → IsNext hs k
  on_next true hs k e on = on
  on_next false hs k e on = absurd (true≢false (sym e))

  pub unlocks_on : (b : Bool) (j slots id : ℕ) (me : Sat T) (y : Homes T) (hs : List (Home T)) → Stands hs y
      → me.1 ≡ (0, y) ∷ [] → me.0.live ≡ true → me.0.holds ≡ true → me.0.inside ≡ false → hs ≡ me.0.before
      → me.0.at < j → GoesOnTo b me.0.before j → MayGive (went_on j b) slots id me
  unlocks_on b j slots id me y hs stands carried live holds outside is far on = unlocks
      (went_on j b) slots id me y hs stands carried live holds refl refl refl refl refl refl refl refl
      (λ s k at part before.
      let v = me.0 in
      let f = k.fits id v at in
      let w = went_on j b (unlocked v) in
      let now : k.homes ≡ hs = sym before ∙ sym is in
      let there_ : GoesOnTo b hs j = subst (λ l. GoesOnTo b l j) (sym is) on in
      let over = on_over b hs j (subst (λ l. AreLed l) now k.leads) there_ in (
        k.all,
        subst (λ l. Grows k.homes l) now (grows_same k.homes),
        subst (λ l. AreLed l) now k.leads,
        subst (λ l. Agrees l k.all) now k.agrees,
        (λ n _. refl),
        (λ g. omega arith),
        (λ m h e. (
            let c = k.crowd m h (ap (λ l. get_elem? l m) now ∙ e) in let a = in_none v m outside in
            let b = in_none w m outside in omega arith
            )),
        record {
          named = f.named;
          falls = falls_more v.at j v.visits (omega arith) f.falls;
          names = f.names;
          near = near_over hs j over;
          inside = λ q. absurd (true≢false (sym q ∙ outside));
          takes = λ q. on_next b hs j q there_;
          newborn = λ q. absurd (true≢false (sym live ∙ q));
          idle = λ z. absurd (omega arith);
          ended = ended_stay s k id v w at part k.all (λ n _. refl);
        },
        still_told s k id v w hs at (subst (λ l. Grows k.homes l) now (grows_same k.homes)) (ap length (sym now)) refl
            (λ q. absurd (true≢false (sym q))) (λ q. absurd (true≢false (sym q))) refl refl refl
            (λ _. over),
      ))
