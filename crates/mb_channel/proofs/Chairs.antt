-- What the calls on the list's lock stand on.
use Rattle.std.proofs.Common.{ℕ, Bool, true, false, true≢false, List, [], length, sym, refl, ap, subst, inl, inr, ⊎_elim, arith}
use Rattle.std.proofs.Common.{◌≡◌, ◌+◌, ◌<◌, ◌≤◌, ◌⊎◌, ◌∷◌, ◌++◌, ◌||◌, ◌∙◌}
use Rattle.std.specs.Prelude.{IfSome, None, Option, Some, get_or, is_some, slice_set}
use Rattle.mb_segment.specs.Seats.{view_in as pass_view}
use Rattle.mb_segment.specs.Vocabulary.{IsFree as IsCalmPass, hub_view, is_over, named, or, took_back}
use mathlib.Core.Option.{some, some-injective}
use lib.ListN.{get_elem?}
use Rattle.mb_channel.specs.Types.{Arc, Global, Home, Homes, Knows, Pass, Segment, View, arc_value}
use Rattle.atomic_table.specs.Table.{State, rest}
use Rattle.atomic_table.proofs.Lists.{at_longer}
use Rattle.mb_channel.specs.Homes.{Agrees, AreLed, AreOver, At, Changes, Grows, HasIssued, HasTakenBack, IsBusy, IsDone, IsIn, IsNew, IsNext, IsOver}
use Rattle.mb_channel.specs.Homes.{IsPassOf, Keeps, Longer, Made, MayGive, MayLeave, Sat, Stands, came_back, came_to, is_in, left_segment, out_of, sends, total, unlocked}
use Rattle.mb_channel.proofs.Moves.{AllFitEnd, busy_same, ended_stay, grows_same, in_grows, near_grows, next_grows, nobody_set, over_grows, still_told, unlocks}
use Rattle.mb_channel.proofs.Stays.{unlocks_came, unlocks_left}
use Rattle.mb_channel.proofs.Remembers.{still_remembers}
use Rattle.mb_channel.proofs.Views.{all_zero, in_else, in_none, made_map, size_snoc, snoc_cases, there, total_set}

some_is : {A : Type 0} (a b : A) → Some a ≡ Some b → a ≡ b
some_is {A = A} a b e = ap (λ (o : Option A). Rattle.std.specs.Option.unwrap_or o a) e

one_is : (a b : Bool) → (a ≡ true) ⊎ (b ≡ true) → or a b ≡ true
one_is true b e = refl
one_is false b e = ⊎_elim (λ q. absurd (true≢false (sym q))) (λ q. q) e

over_or : (a b c a' b' c' : Bool) → (a || b || c ≡ true) ⊎ (a' || b' || c' ≡ true)
    → or a a' || or b b' || or c c' ≡ true
over_or true b c a' b' c' e = refl
over_or false b c true b' c' e = refl
over_or false true c false b' c' e = refl
over_or false false c false true c' e = refl
over_or false false true false false c' e = refl
over_or false false false false false c' e = ⊎_elim (λ q. absurd (true≢false (sym q))) (λ q. q) e

module _ {T : Type 0} where
  -- the list that is lent is the one held, and nothing else is held
  pub was : (l : List (ℕ × Homes T)) (y now : Homes T) → l ≡ (0, y) ∷ [] → l ≡ (0, now) ∷ rest l → now ≡ y
  was l y now a b = ap (λ (k : List (ℕ × Homes T)). (get_or k 0 (0, y)).1) (sym b ∙ a)

  pub only_one : (l : List (ℕ × Homes T)) (y z : Homes T) → l ≡ (0, y) ∷ [] → (0, z) ∷ rest l ≡ (0, z) ∷ []
  only_one l y z a = ap (λ (k : List (ℕ × Homes T)). (0, z) ∷ rest k) a

  grows_snoc : (hs : List (Home T)) (h : Home T) → Grows hs (hs ++ h ∷ [])
  grows_snoc hs h k u at = (u, at_longer hs (h ∷ []) k u at, (refl, (λ d. d), λ o. o))

  agrees_snoc : (hs : List (Home T)) (h : Home T) (all : List (Made T)) → IsNew h → Agrees hs all → Agrees
      (hs ++ h ∷ []) all
  agrees_snoc hs h all new a = record {
    here = λ k u e. ⊎_elim (λ at. a.here k u at)
        (λ (t : (k ≡ length hs) × (h ≡ u)). ap came_back (sym t.1) ∙ ap (λ (z : View T). z.ends) new
        ∙ sym (a.none_behind k (let q = t.0 in omega arith))) (snoc_cases hs h u k e);
    none_behind = λ k long. (let l = size_snoc hs h in a.none_behind k (omega arith));
    turn = made_map (λ m. (m.visit.account.got ≡ []) ⊎ IsNext hs m.visit.segment) (λ m. (m.visit.account.got ≡ [])
        ⊎ IsNext (hs ++ h ∷ []) m.visit.segment) all
        (λ m x. ⊎_elim (λ l. inl l) (λ r. inr (next_grows hs (hs ++ h ∷ [])
        (grows_snoc hs h) m.visit.segment r)) x) a.turn;
  }

  -- the list as it was, or longer
  abbrev IsKept : ℕ → List (Home T) → List (Home T) → Type 0
  IsKept n hs gs = (gs ≡ hs) ⊎ Longer n hs gs

  grows_longer : (n : ℕ) (hs gs : List (Home T)) → IsKept n hs gs → Grows hs gs
  grows_longer n hs gs l = ⊎_elim (λ e. subst (λ x. Grows hs x) (sym e) (grows_same hs))
      (λ m. subst (λ x. Grows hs x) (sym m.2) (grows_snoc hs m.0)) l

  agrees_longer : (n : ℕ) (hs gs : List (Home T)) → IsKept n hs gs → (all : List (Made T))
      → Agrees hs all → Agrees gs all
  agrees_longer n hs gs l all a = ⊎_elim (λ e. subst (λ x. Agrees x all) (sym e) a)
      (λ m. subst (λ x. Agrees x all) (sym m.2) (agrees_snoc hs m.0 all m.1 a)) l

  -- all before the new segment are over
  led_longer : (n : ℕ) (hs gs : List (Home T)) → IsKept n hs gs → AreOver hs n → AreLed hs → AreLed gs
  led_longer n hs gs l over led = ⊎_elim (λ e. subst (λ x. AreLed x) (sym e) led)
      (λ m. subst (λ x. AreLed x) (sym m.2) (λ j lt. (
      let more = size_snoc hs m.0 in
      let e = m.3 in
      let a = over j (omega arith) in (a.0, at_longer hs (m.0 ∷ []) j a.0 a.1, a.2)
      ))) l

  -- nobody has a pass of a segment that is not there
  none_in : (s : State (Homes T) (Knows T)) (k : Keeps s) (m : ℕ) → length k.homes ≤ m → total (is_in m) s.views ≡ 0
  none_in s k m long = all_zero (is_in m) s.views (λ j u at. go j u at u.inside refl)
    where
      go : (j : ℕ) (u : Knows T) → get_elem? s.views j ≡ some u → (b : Bool) → u.inside ≡ b → is_in m u ≡ 0
      go j u at true is = let i = (k.fits j u at).inside is in let lt = there k.homes u.at i.0 i.1 in
          in_else u m (λ q. omega arith)
      go j u at false is = in_none u m is

  busy_longer : (s : State (Homes T) (Knows T)) (k : Keeps s) (n : ℕ) (gs : List (Home T))
      → IsKept n k.homes gs → (p m : ℕ)
      (h : Home T) → get_elem? gs m ≡ some h → out_of h + p ≡ total (is_in m) s.views + p
  busy_longer s k n gs l p m h e = ⊎_elim
      (λ q. busy_same s k m p h (ap (λ x. get_elem? x m) (sym q) ∙ e))
      (λ q. ⊎_elim (λ at. busy_same s k m p h at)
      (λ (t : (m ≡ length k.homes) × (q.0 ≡ h)). (
      let a : out_of h ≡ 0 = ap out_of (sym t.1) ∙ ap (λ (z : View T). z.out) q.1 in
      let b = none_in s k m (let i = t.0 in omega arith) in omega arith
      ))
      (snoc_cases k.homes q.0 h m (ap (λ x. get_elem? x m) (sym q.2) ∙ e))) l

  -- whoever adds a segment knows that nobody was told that there will be no more
  grown_told : (s : State (Homes T) (Knows T)) (k : Keeps s) (id : ℕ) (v : Knows T) (hs : List (Home T))
      → get_elem? s.views id ≡ some v → v.before ≡ k.homes → MayLeave v hs → Grows k.homes hs
      → AllFitEnd s k id (unlocked v) hs k.mark
  grown_told s k id v hs at before may grows = ⊎_elim
      (λ e. still_told s k id v (unlocked v) hs at grows (ap length (e ∙ before)) refl
      (λ q. absurd (true≢false (sym q))) (λ q. absurd (true≢false (sym q))) refl refl refl
      (λ q. over_grows k.homes hs grows v.at ((k.told id v at).over q)))
      (λ more.
      let b = total_set sends s.views id v (unlocked v) at in
      let e : total sends (slice_set s.views id (unlocked v)) ≡ total sends s.views = omega arith in
      let nobody = ((k.told id v at).may_add more.0).1 in (
        (λ j u ne at'. let t = k.told j u at' in record {
          is_open = t.is_open;
          may_add = λ q. ((t.may_add q).0, nobody_set s.views id v (unlocked v) at refl nobody);
          alone = λ q. e ∙ t.alone q;
          shut = t.shut;
          over = λ q. over_grows k.homes hs grows u.at (t.over q);
          last = λ n q. absurd (true≢false (ap is_some (sym q ∙ nobody j u at')));
        }),
        (let t = k.told id v at in record {
          is_open = λ q. absurd (true≢false (sym q));
          may_add = λ q. absurd (true≢false (sym q));
          alone = λ q. e ∙ t.alone q;
          shut = t.shut;
          over = λ q. over_grows k.homes hs grows v.at (t.over q);
          last = λ n q. absurd (true≢false (ap is_some (sym q ∙ nobody id v at)));
        }),
        still_remembers k.mark k.mark (total sends s.views) (total sends (slice_set s.views id (unlocked v))) s.views
            id v (unlocked v) at (λ q. q) (λ q. q) (λ z. z) (λ z. sym e ∙ z) k.known,
      ))
      may

  -- nothing was done, or a segment was added
  pub unlocks_same : (slots id : ℕ) (me : Sat T) (y : Homes T) (hs : List (Home T)) → Stands hs y → me.1 ≡ (0, y) ∷ []
      → me.0.live ≡ true → me.0.holds ≡ true → MayLeave me.0 hs → MayGive (λ v. v) slots id me
  unlocks_same slots id me y hs stands carried live holds may = unlocks
      (λ v. v) slots id me y hs stands carried live holds refl refl refl refl refl refl refl refl
      (λ s k at part before.
      let f = k.fits id me.0 at in
      let l : IsKept me.0.at k.homes hs = subst (λ x. IsKept me.0.at x hs) before
      (⊎_elim (λ e. inl e) (λ m. inr m.2) may) in
      let g = grows_longer me.0.at k.homes hs l in
      let led : AreLed hs = ⊎_elim (λ e. subst (λ x. AreLed x) (sym (e ∙ before)) k.leads)
      (λ m. led_longer me.0.at k.homes hs (inr (subst (λ x. Longer me.0.at x hs) before m.2))
      ((k.told id me.0 at).over m.1) k.leads) may in (
        k.all,
        g,
        led,
        agrees_longer me.0.at k.homes hs l k.all k.agrees,
        (λ n _. refl),
        (λ g. omega arith),
        (λ n h e. busy_longer s k me.0.at hs l (is_in n me.0) n h e),
        record {
          named = f.named;
          falls = f.falls;
          names = f.names;
          near = near_grows k.homes hs g me.0.at f.near;
          inside = λ is. in_grows k.homes hs g me.0 (f.inside is);
          takes = λ is. next_grows k.homes hs g me.0.at (f.takes is);
          newborn = f.newborn;
          idle = λ z. absurd (omega arith);
          ended = ended_stay s k id me.0 (unlocked me.0) at part k.all (λ n _. refl);
        },
        grown_told s k id me.0 hs at before may g,
      ))

  -- a pass of the segment where the end is belongs to the hub there
  pub pass_here : (hs : List (Home T)) (v : Knows T) (p : Pass T) → IsIn hs v → IsBusy hs v.at → IsPassOf v.place p
      → At hs v.at (λ h. (p.seat.table_id ≡ h.hub.seat.table_id) × (0 < out_of h))
  pass_here hs v p is busy of = let same = some_is of.0 is.2.0 (sym of.1 ∙ is.2.1) in (
    is.0,
    is.1,
    (
      of.2 ∙ ap (λ (s : Arc (Segment T Global) Global). (arc_value s).table.shared.table_id) same
          ∙ ap (λ (s : Segment T Global). s.table.shared.table_id) is.2.2 ∙ sym is.0.same,
      subst (λ h. 0 < out_of h) (some-injective busy.0 is.0 (sym busy.1 ∙ is.1)) busy.2,
    ),
  )

  -- a hub that took back a pass: its segment is done if it was, or if the pass was told so
  done_then : (x : View T) (h g : Home T) → hub_view g.hub ≡ took_back (hub_view h.hub) x
      → IsDone h ⊎ (x.over ≡ true) → IsDone g
  done_then x h g did is = ap (λ (z : View T). z.over) did ∙ one_is (hub_view h.hub).over x.over is

  -- and over if it was, or if the pass was told so
  over_then : (x : View T) (h g : Home T) → hub_view g.hub ≡ took_back (hub_view h.hub) x
      → IsOver h ⊎ (is_over x ≡ true) → IsOver g
  over_then x h g did is = let v = hub_view h.hub in ap is_over did
      ∙ over_or v.over v.sight.full v.sight.cut x.over x.sight.full x.sight.cut is

  pub leaves_list : (x : View T) (done : Bool) (slots id : ℕ) (me : Sat T) (y : Homes T) (hs : List (Home T))
      → Stands hs y → me.1 ≡ (0, y) ∷ [] → me.0.live ≡ true → me.0.holds ≡ true → me.0.inside ≡ true
      → Changes me.0.before hs me.0.at (λ h g. HasTakenBack h g x × (done ≡ g.done))
      → (me.0.takes ≡ false → x.account.got ≡ []) → x.account.name ≡ me.0.name
      → MayGive (left_segment x done) slots id me
  leaves_list x done slots id me y hs stands carried live holds inside c poor name = let did = c.4.0 in
      unlocks_left x done slots id me y hs stands carried live holds inside c.0 c.1 c.2 c.3
      did.0 (λ d. done_then x c.0 c.1 did.1 (inl d)) (λ o. over_then x c.0 c.1 did.1 (inl o))
      (ap (λ (z : View T). z.ends) did.1) (ap (λ (z : View T). z.out) did.1)
      (λ q. sym c.1.tells ∙ sym c.4.1 ∙ q) (λ o. over_then x c.0 c.1 did.1 (inr o)) poor name

  -- the segment is done if the pass saw that
  pub done_if : (x : View T) (done : Bool) (hs gs : List (Home T)) (k : ℕ)
      → Changes hs gs k (λ h g. HasTakenBack h g x × (done ≡ g.done)) → x.over ≡ true → done ≡ true
  done_if x done hs gs k c o = c.4.1 ∙ c.1.tells ∙ done_then x c.0 c.1 c.4.0.1 (inr o)

  pub comes_list : (b : Bool) (a : Arc (Segment T Global) Global) (p : Pass T) (slots id : ℕ) (me : Sat T) (y : Homes T)
      (hs : List (Home T)) → Stands hs y → me.1 ≡ (0, y) ∷ [] → me.0.live ≡ true → me.0.holds ≡ true
      → me.0.inside ≡ false → Changes me.0.before hs me.0.at (λ h g. HasIssued h g a p)
      → (b ≡ true → me.0.takes ≡ true) → MayGive (came_to a b) slots id me
  comes_list b a p slots id me y hs stands carried live holds outside c may =
      unlocks_came b a p c.1 slots id me y hs stands carried live holds outside c.0 c.2 c.3 c.4 may

  -- the pass that was issued is of the segment of which the end got a share
  pub came_where : (a : Arc (Segment T Global) Global) (p : Pass T) (h g : Home T) → HasIssued h g a p
      → p.seat.table_id ≡ (arc_value a).table.shared.table_id
  came_where a p h g did = did.3 ∙ g.same ∙ ap (λ (s : Segment T Global). s.table.shared.table_id) (sym did.2)

  -- the segment whose hub issued a pass
  pub issued_of : (n : ℕ) (r : Option (Arc (Segment T Global) Global × Pass T)) (hs : List (Home T)) (k : ℕ)
      (h g : Home T)
      → get_elem? hs k ≡ some h → IfSome r (λ r. HasIssued h g r.0 r.1)
      → IfSome r (λ r. (pass_view r.1 ≡ named n) × IsCalmPass r.1)
      → IfSome r (λ r. Changes hs (slice_set hs k g) k (λ h g. HasIssued h g r.0 r.1) × (pass_view r.1 ≡ named n)
      × IsCalmPass r.1)
  issued_of n (Some r) hs k h g at did new = ((h, g, at, refl, did), new.0, new.1)
  issued_of n None hs k h g at did new = tt
