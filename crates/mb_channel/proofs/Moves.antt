-- Each step keeps the rule of the list.
use Rattle.std.proofs.Common.{ℕ, zero, suc, true, false, true≢false, List, [], length, sym, refl, ap, subst, inl, inr, ⊎_elim, arith}
use Rattle.std.proofs.Common.{◌≡◌, ◌≢◌, ◌+◌, ◌<◌, ◌⊎◌, ◌∷◌, ◌∙◌}
use Rattle.std.specs.Prelude.{◌==◌, None, slice_set, slice_index}
use mathlib.Core.Option as maybe
use mathlib.Core.Option.{some, none, some-injective, some-ne-none}
use lib.ListN.{get_elem?}
use prog.Atomic.{either}
use Rattle.atomic_table.specs.Table.{State, Act, keeps, takes, gives, step, stepped, Allows, Valid, carried_after, homes_after, put_back, rest}
use Rattle.atomic_table.proofs.Lists.{exchanged, set_again, at_set, set_else}
use Rattle.mb_channel.specs.Types.{Home, Homes, Knows, Past, arc_value}
use Rattle.mb_channel.specs.Homes.{Agrees, AllPast, AreLed, AreOver, Fits, FitsEnd, Grows, IsBusy, IsFree, IsHeld, IsIn, IsNear, IsNext, Keeps, Made, MayGive, NobodyTold, PastFits}
use Rattle.mb_channel.specs.Homes.{Sat, IsSpent, Stands, count, gives_lock, how_many, is_in, locked, made_by, made_count, tallies, out_of, receives, rights, sends, takes_lock, total, unlocked}
use Rattle.mb_channel.specs.Remembers.{Remembers}
use Rattle.mb_channel.proofs.Remembers.{still_remembers}
use Rattle.mb_channel.proofs.Views.{below_total, in_here, none_many, not_true, past_map, size_set, there, total_set}

module _ {T : Type 0} where
  abbrev pub Same : List (Made T) → List (Made T) → ℕ → Type 0
  Same all new id = (n : ℕ) → n ≢ id → made_by n new ≡ made_by n all

  pub grows_same : (hs : List (Home T)) → Grows hs hs
  grows_same hs k h at = (h, at, (refl, (λ d. d), λ o. o))

  pub next_grows : (hs gs : List (Home T)) → Grows hs gs → (k : ℕ) → IsNext hs k → IsNext gs k
  next_grows hs gs grows k is j lt = let a = is j lt in let g = grows j a.0 a.1 in (g.0, g.1, g.2.1 a.2)

  pub over_grows : (hs gs : List (Home T)) → Grows hs gs → (k : ℕ) → AreOver hs k → AreOver gs k
  over_grows hs gs grows k is j lt = let a = is j lt in let g = grows j a.0 a.1 in (g.0, g.1, g.2.2 a.2)

  pub led_grows : (hs gs : List (Home T)) → Grows hs gs → length gs ≡ length hs → AreLed hs → AreLed gs
  led_grows hs gs grows size led j lt = let a = led j (omega arith) in let g = grows j a.0 a.1 in (g.0, g.1, g.2.2 a.2)

  pub near_grows : (hs gs : List (Home T)) → Grows hs gs → (k : ℕ) → IsNear hs k → IsNear gs k
  near_grows hs gs grows k is = ⊎_elim (λ e. inl e)
      (λ n. let a = n.2 in let g = grows n.0 a.0 a.1 in inr (n.0, n.1, (g.0, g.1, tt))) is

  pub in_grows : (hs gs : List (Home T)) → Grows hs gs → (v : Knows T) → IsIn hs v → IsIn gs v
  in_grows hs gs grows v is = let g = grows v.at is.0 is.1 in
      (g.0, g.1, (is.2.0, is.2.1, is.2.2 ∙ ap arc_value (sym g.2.0)))

  -- who has rights is not spent
  pub not_spent : (views : List (Knows T)) (id : ℕ) (v : Knows T) → get_elem? views id ≡ some v → 0 < v.rights
      → (n : ℕ) → IsSpent views n → n ≢ id
  not_spent views id v at part n spent = λ q. (
      let two : some spent.0 ≡ some v = sym spent.1 ∙ (ap (get_elem? views) q ∙ at) in
      let is : spent.0.rights ≡ v.rights = ap (λ (u : Knows T). u.rights) (some-injective spent.0 v two) in
      let z = spent.2 in
      omega arith
      )

  -- nor was it given back to anybody
  pub not_back : (s : State (Homes T) (Knows T)) (k : Keeps s) (id : ℕ) (v : Knows T) → get_elem? s.views id ≡ some v
      → 0 < v.rights → (j : ℕ) (u : Knows T) → get_elem? s.views j ≡ some u → how_many id u.ended ≡ 0
  not_back s k id v at part j u at' = none_many id u.ended (past_map (PastFits k.all s.views) (λ p. p.number ≢ id)
      u.ended (λ p x. not_spent s.views id v at part p.number x.2) (k.fits j u at').ended)

  pub past_stays : (all new : List (Made T)) (views : List (Knows T)) (id : ℕ) (v w : Knows T)
      → get_elem? views id ≡ some v → 0 < v.rights
      → Same all new id → (p : Past T) → PastFits all views p → PastFits new (slice_set views id w) p
  past_stays all new views id v w at part same p x =
      let ne = not_spent views id v at part p.number x.2 in
      (x.0 ∙ sym (same p.number ne), x.1, (x.2.0, set_else views id p.number w ne ∙ x.2.1, x.2.2))

  -- ---- the tallies, and what views say of them
  pub tallies_set : (views : List (Knows T)) (id : ℕ) (v w : Knows T) (mark : ℕ) → get_elem? views id ≡ some v
      → w.rights ≡ v.rights → w.sends ≡ v.sends → w.receives ≡ v.receives
      → tallies (slice_set views id w) mark ≡ tallies views mark
  tallies_set views id v w mark at same same' same'' =
      let a = total_set rights views id v w at in
      let b = total_set sends views id v w at in
      let c = total_set receives views id v w at in
      let x : total rights (slice_set views id w) ≡ total rights views = omega arith in
      let y : total sends (slice_set views id w) ≡ total sends views = omega arith in
      let z : total receives (slice_set views id w) ≡ total receives views = omega arith in
      λ i. x i ∷ y i ∷ z i ∷ mark ∷ []

  pub nobody_else : (views : List (Knows T)) (id : ℕ) (w : Knows T) → w.last ≡ None → NobodyTold views
      → NobodyTold (slice_set views id w)
  nobody_else views id w none_ nobody j u e = ⊎_elim
      (λ (t : (j ≡ id) × (w ≡ u)). ap (λ (z : Knows T). z.last) (sym t.1) ∙ none_)
      (λ (t : (j ≢ id) × (get_elem? views j ≡ some u)). nobody j u t.1) (at_set views id j w u e)

  pub nobody_set : (views : List (Knows T)) (id : ℕ) (v w : Knows T) → get_elem? views id ≡ some v
      → w.last ≡ v.last → NobodyTold views → NobodyTold (slice_set views id w)
  nobody_set views id v w at same nobody = nobody_else views id w (same ∙ nobody id v at) nobody

  pub told_same : (hs gs : List (Home T)) (mark : ℕ) (views ws : List (Knows T)) (u : Knows T)
      → Grows hs gs → length gs ≡ length hs → (total sends views ≡ 0 → total sends ws ≡ 0)
      → (u.holds ≡ true → NobodyTold views → NobodyTold ws) → FitsEnd hs mark views u → FitsEnd gs mark ws u
  told_same hs gs mark views ws u grows size none_left nobody t = record {
    is_open = t.is_open;
    may_add = λ q. let x = t.may_add q in (x.0, nobody (t.is_open x.0).0 x.1);
    alone = λ q. none_left (t.alone q);
    shut = t.shut;
    over = λ q. over_grows hs gs grows u.at (t.over q);
    last = λ n q. let x = t.last n q in (
      size ∙ x.0,
      ⊎_elim (λ e. inl e) (λ e. inr (none_left e)) x.1,
      over_grows hs gs grows n x.2,
    );
  }

  -- what the others say is still so after the step of one
  abbrev pub AllFitEnd : (s : State (Homes T) (Knows T)) → Keeps s → ℕ → Knows T → List (Home T) → ℕ → Type 0
  AllFitEnd s k id w hs mark = ((j : ℕ) (u : Knows T) → j ≢ id → get_elem? s.views j ≡ some u
      → FitsEnd hs mark (slice_set s.views id w) u) × FitsEnd hs mark (slice_set s.views id w) w
      × Remembers mark (total sends (slice_set s.views id w)) (slice_set s.views id w)

  -- where the list and the number of senders stay
  pub still_told : (s : State (Homes T) (Knows T)) (k : Keeps s) (id : ℕ) (v w : Knows T) (hs : List (Home T))
      → get_elem? s.views id ≡ some v → Grows k.homes hs → length hs ≡ length k.homes → w.sends ≡ v.sends
      → (w.is_open ≡ true → (w.holds ≡ true) × (0 < k.mark))
      → (w.may_add ≡ true → (w.is_open ≡ true) × NobodyTold s.views)
      → w.alone ≡ v.alone → w.shut ≡ v.shut → w.last ≡ v.last
      → (w.orderly ≡ true → AreOver hs w.at) → AllFitEnd s k id w hs k.mark
  still_told s k id v w hs at grows size same is_open may_add alone shut last over =
      let b = total_set sends s.views id v w at in
      let e : total sends (slice_set s.views id w) ≡ total sends s.views = omega arith in
      let nobody = nobody_set s.views id v w at last in
      let t = told_same k.homes hs k.mark s.views (slice_set s.views id w) v grows size (λ q. e ∙ q) (λ _. nobody)
      (k.told id v at) in (
        λ j u ne at'. told_same k.homes hs k.mark s.views (slice_set s.views id w) u grows size (λ q. e ∙ q)
            (λ _. nobody) (k.told j u at'),
        record {
          is_open = is_open;
          may_add = λ q. let x = may_add q in (x.0, nobody x.1);
          alone = λ q. t.alone (sym alone ∙ q);
          shut = λ q. t.shut (sym shut ∙ q);
          over = over;
          last = λ n q. t.last n (sym last ∙ q);
        },
        still_remembers k.mark k.mark (total sends s.views) (total sends (slice_set s.views id w)) s.views id v w at
            (λ q. shut ∙ q) (λ q. alone ∙ q) (λ z. z) (λ z. sym e ∙ z) k.known,
      )

  -- a step of one that counts for an end. `mine`: its new view fits
  pub moved : (s : State (Homes T) (Knows T)) (k : Keeps s) (id : ℕ) (v w : Knows T) → get_elem? s.views id ≡ some v
      → 0 < v.rights → w.ended ≡ v.ended
      → (hs : List (Home T)) (new : List (Made T)) (mark : ℕ) → Grows k.homes hs → AreLed hs → Agrees hs new
      → Same k.all new id → ((f : ℕ → ℕ) → count f w + made_count f k.all ≡ count f v + made_count f new)
      → ((m : ℕ) (h : Home T) → get_elem? hs m ≡ some h → out_of h + is_in m v ≡ total (is_in m) s.views + is_in m w)
      → Fits hs new (slice_set s.views id w) id w → AllFitEnd s k id w hs mark
      → (words : List ℕ) (homes : List (maybe.Option (Homes T)))
      → (IsFree record { words = words; homes = homes; views = slice_set s.views id w } hs mark
      ⊎ IsHeld record { words = words; homes = homes; views = slice_set s.views id w } hs mark)
      → Keeps record { words = words; homes = homes; views = slice_set s.views id w }
  moved s k id v w at part past hs new mark grows leads agrees same weight busy mine tells words homes lock = record {
    homes = hs;
    all = new;
    mark = mark;
    lock = lock;
    leads = leads;
    agrees = agrees;
    balance = λ f. (let t = total_set (count f) s.views id v w at in let b = k.balance f in let d = weight f
        in omega arith);
    once = λ n. (let t = total_set (λ u. how_many n u.ended) s.views id v w at in let o = k.once n in
        let e : how_many n w.ended ≡ how_many n v.ended = ap (how_many n) past in omega arith);
    crowd = λ m h e. (let t = total_set (is_in m) s.views id v w at in let c = busy m h e in omega arith);
    fresh = λ m long. (
        let l = size_set s.views id w in
        let i = there s.views id v at in
        let apart : m ≢ id = λ q. omega arith in
        same m apart ∙ k.fresh m (omega arith)
        );
    fits = λ j u e. ⊎_elim
        (λ (t : (j ≡ id) × (w ≡ u)). subst (λ (z : ℕ × Knows T). Fits hs new (slice_set s.views id w) z.0 z.1) (λ i.
        (sym t.0 i, t.1 i)) mine)
        (λ (t : (j ≢ id) × (get_elem? s.views j ≡ some u)). let f = k.fits j u t.1 in record {
          named = λ l. let x = f.named l in (x.0, x.1 ∙ sym (same j t.0));
          falls = f.falls;
          names = f.names;
          near = near_grows k.homes hs grows u.at f.near;
          inside = λ is. in_grows k.homes hs grows u (f.inside is);
          takes = λ is. next_grows k.homes hs grows u.at (f.takes is);
          newborn = λ l. let x = f.newborn l in (x.0, x.1, x.2, λ r. same j t.0 ∙ x.3 r);
          idle = f.idle;
          ended = past_map (PastFits k.all s.views) (PastFits new (slice_set s.views id w)) u.ended
              (past_stays k.all new s.views id v w at part same) f.ended;
        })
        (at_set s.views id j w u e);
    told = λ j u e. ⊎_elim
        (λ (t : (j ≡ id) × (w ≡ u)). subst (λ (z : Knows T). FitsEnd hs mark (slice_set s.views id w) z) t.1 tells.1)
        (λ (t : (j ≢ id) × (get_elem? s.views j ≡ some u)). tells.0 j u t.0 t.1)
        (at_set s.views id j w u e);
    known = tells.2;
  }

  -- nothing was issued or taken back
  pub busy_same : (s : State (Homes T) (Knows T)) (k : Keeps s) (m p : ℕ) (h : Home T) → get_elem? k.homes m ≡ some h
      → out_of h + p ≡ total (is_in m) s.views + p
  busy_same s k m p h e = ap (λ n. n + p) (k.crowd m h e)

  busy_here : (s : State (Homes T) (Knows T)) (k : Keeps s) (id : ℕ) (v : Knows T) → get_elem? s.views id ≡ some v
      → v.inside ≡ true → IsBusy k.homes v.at
  busy_here s k id v at is =
      let i = (k.fits id v at).inside is in
      let c = k.crowd v.at i.0 i.1 in
      let b = below_total (is_in v.at) s.views id v at in
      let one = in_here v v.at is refl in
      (i.0, i.1, omega arith)

  pub has_part : (hs : List (Home T)) (all : List (Made T)) (views : List (Knows T)) (id : ℕ) (v : Knows T)
      → Fits hs all views id v → v.live ≡ true → 0 < v.rights
  has_part hs all views id v f live = go v.rights refl
    where
      go : (n : ℕ) → v.rights ≡ n → 0 < n
      go zero e = absurd (true≢false (sym live ∙ ap (λ (z : Knows T). z.live) (f.idle e)))
      go (suc n) e = omega arith

  -- the ended of a view that fits, after its step
  pub ended_stay : (s : State (Homes T) (Knows T)) (k : Keeps s) (id : ℕ) (v w : Knows T)
      → get_elem? s.views id ≡ some v → 0 < v.rights
      → (new : List (Made T)) → Same k.all new id → AllPast (PastFits new (slice_set s.views id w)) v.ended
  ended_stay s k id v w at part new same = past_map (PastFits k.all s.views) (PastFits new
      (slice_set s.views id w)) v.ended
      (past_stays k.all new s.views id v w at part same) (k.fits id v at).ended

  pub stays_word : (s : State (Homes T) (Knows T)) (k : Keeps s) (n : ℕ) → n ≡ slice_index s.words 0
      → slice_set s.words 0 n ≡ s.words
  stays_word s k n e = ⊎_elim
      (λ x. ap (λ m. slice_set s.words 0 m) e ∙ ap (λ l. slice_set l 0 (slice_index l 0)) x.1 ∙ sym x.1)
      (λ x. ap (λ m. slice_set s.words 0 m) e ∙ ap (λ l. slice_set l 0 (slice_index l 0)) x.1 ∙ sym x.1) k.lock

  pub same_state : (s : State (Homes T) (Knows T)) (k : Keeps s) (id : ℕ) (v : Knows T)
      → get_elem? s.views id ≡ some v → (n : ℕ) → n ≡ slice_index s.words 0
      → Keeps record { words = slice_set s.words 0 n; homes = s.homes; views = slice_set s.views id v }
  same_state s k id v at n e = let vs : slice_set s.views id v ≡ s.views = set_again s.views id v at in
      let ws = stays_word s k n e in
      subst (λ (z : List ℕ × List (Knows T)). Keeps record { words = z.0; homes = s.homes; views = z.1 }) (λ i.
      (sym ws i, sym vs i)) k

  -- ---- the lock
  pub locks : (slots id : ℕ) (me : Sat T) → me.0.live ≡ true
      → Allows Keeps slots id me 0 (λ n. either (n == 0) 1 n) (takes_lock (step slots 0 0 1 none) me)
  locks slots id me live s k len at small =
      let v = me.0 in
      let f = k.fits id v at in
      let part = has_part k.homes k.all s.views id v f live in
      exchanged (slice_index s.words 0) 0 1
      (λ m. (w : Knows T) × (a : Act (Homes T)) × Valid s.homes me.1 a × Keeps (stepped s 0 m id me.1 w a)
      × takes_lock (step slots 0 0 1 none) me (slice_index s.words 0) (w, carried_after me.1 a))
      (λ e. ⊎_elim
      (λ free. let l = free.0 in let w = locked k.homes v in (
        w,
        takes 0 l,
        ap (λ x. get_elem? x 0) free.2,
        moved s k id v w at part refl k.homes k.all k.mark (grows_same k.homes) k.leads k.agrees (λ n _. refl)
            (λ g. omega arith) (λ m h e. busy_same s k m (is_in m v) h e)
            record {
              named = f.named;
              falls = f.falls;
              names = f.names;
              near = f.near;
              inside = f.inside;
              takes = f.takes;
              newborn = f.newborn;
              idle = λ z. absurd (omega arith);
              ended = ended_stay s k id v w at part k.all (λ n _. refl);
            }
            (still_told s k id v w k.homes at (grows_same k.homes) refl refl
            (λ q. (refl, ((k.told id v at).is_open q).1)) (k.told id v at).may_add refl refl refl
            (k.told id v at).over)
            (slice_set s.words 0 1) (slice_set s.homes 0 none)
            (inr (
              id,
              ap (λ x. slice_set x 0 1) free.1 ∙ ap (λ l. 1 ∷ l) (sym (tallies_set s.views id v w k.mark at refl refl
                  refl)),
              ap (λ x. slice_set x 0 none) free.2,
              λ j u e. ⊎_elim (λ (t : (j ≡ id) × (w ≡ u)). λ held. (
                t.0,
                ap (λ (z : Knows T). z.before) (sym t.1),
              ))
                  (λ (t : (j ≢ id) × (get_elem? s.views j ≡ some u)). λ held. absurd (true≢false (sym held
                  ∙ free.4 j u t.1)))
                  (at_set s.views id j w u e),
            )),
        (
          (λ _. (l, k.homes, free.3, refl, (f.near, (λ is. (f.inside is, busy_here s k id v at is)), f.takes))),
          λ ne. absurd (ne e),
        ),
      ))
      (λ held. let is : slice_index s.words 0 ≡ 1 = ap (λ x. slice_index x 0) held.1 in absurd (omega arith))
      k.lock)
      (λ ne. (
        v,
        keeps,
        tt,
        same_state s k id v at (slice_index s.words 0) refl,
        ((λ e. absurd (ne e)), λ _. refl),
      ))

  -- what an end does that gives the lock back. All segments are hs now, w is its view, and `new` are the visits
  abbrev pub Lawful : (s : State (Homes T) (Knows T)) → Keeps s → ℕ → Knows T → List (Home T) → Knows T → Type 0
  Lawful s k id v hs w = (new : List (Made T)) × Grows k.homes hs × AreLed hs × Agrees hs new × Same k.all new id
      × ((g : ℕ → ℕ) → count g w + made_count g k.all ≡ count g v + made_count g new)
      × ((m : ℕ) (h : Home T) → get_elem? hs m ≡ some h → out_of h + is_in m v ≡ total (is_in m) s.views + is_in m w)
      × Fits hs new (slice_set s.views id w) id w × AllFitEnd s k id w hs k.mark

  -- P is what the step tells
  pub unlocks_as : (P : Sat T → Type 0) (w : Knows T) (slots id : ℕ) (me : Sat T) (y : Homes T) (hs : List (Home T))
      → Stands hs y → me.1 ≡ (0, y) ∷ [] → me.0.live ≡ true → me.0.holds ≡ true
      → w.rights ≡ me.0.rights → w.sends ≡ me.0.sends → w.receives ≡ me.0.receives → w.ended ≡ me.0.ended
      → w.holds ≡ false → P (w, [])
      → ((s : State (Homes T) (Knows T)) (k : Keeps s) → get_elem? s.views id ≡ some me.0 → 0 < me.0.rights
      → me.0.before ≡ k.homes → Lawful s k id me.0 hs w)
      → Allows Keeps slots id me 0 (λ _. 0) (λ _. P)
  unlocks_as P w slots id me y hs stands carried live holds ends senders receivers past lets tells go s k len at small =
      ⊎_elim
      (λ free. absurd (true≢false (sym holds ∙ free.4 id me.0 at)))
      (λ held.
      let mine = held.3 id me.0 at holds in
      let part = has_part k.homes k.all s.views id me.0 (k.fits id me.0 at) live in
      let r = go s k at part mine.1 in
      let homes' : homes_after s.homes me.1 gives ≡ some y ∷ [] = ap (λ c. put_back s.homes c) carried ∙ ap
      (λ l. slice_set l 0 (some y)) held.2 in (
        w,
        gives,
        tt,
        moved s k id me.0 w at part past hs r.0 k.mark r.1 r.2 r.3 r.4 r.5 r.6 r.7 r.8
            (slice_set s.words 0 0) (homes_after s.homes me.1 gives)
            (inl (
              y,
              ap (λ l. slice_set l 0 0) held.1 ∙ ap (λ l. 0 ∷ l) (sym (tallies_set s.views id me.0 w k.mark at ends
                  senders receivers)),
              homes',
              stands,
              λ j u e. ⊎_elim (λ (t : (j ≡ id) × (w ≡ u)). ap (λ (z : Knows T). z.holds) (sym t.1) ∙ lets)
                  (λ (t : (j ≢ id) × (get_elem? s.views j ≡ some u)). not_true u.holds (λ on. t.0
                  ((held.3 j u t.1 on).0 ∙ sym mine.0)))
                  (at_set s.views id j w u e),
            )),
        subst (λ c. P (w, c)) (sym (ap rest carried)) tells,
      ))
      k.lock

  pub unlocks : (f : Knows T → Knows T) (slots id : ℕ) (me : Sat T) (y : Homes T) (hs : List (Home T)) → Stands hs y
      → me.1 ≡ (0, y) ∷ [] → me.0.live ≡ true → me.0.holds ≡ true
      → (f (unlocked me.0)).rights ≡ me.0.rights → (f (unlocked me.0)).sends ≡ me.0.sends
      → (f (unlocked me.0)).receives ≡ me.0.receives → (f (unlocked me.0)).ended ≡ me.0.ended
      → (f (unlocked me.0)).holds ≡ false → (f (unlocked me.0)).found ≡ me.0.found
      → (f (unlocked me.0)).lengths ≡ me.0.lengths → (f (unlocked me.0)).fates ≡ me.0.fates
      → ((s : State (Homes T) (Knows T)) (k : Keeps s) → get_elem? s.views id ≡ some me.0 → 0 < me.0.rights
      → me.0.before ≡ k.homes → Lawful s k id me.0 hs (f (unlocked me.0)))
      → MayGive f slots id me
  unlocks f slots id me y hs stands carried live holds ends senders receivers past lets same lengths fates = unlocks_as
      (gives_lock f (step slots 0 0 0 none) me 0) (f (unlocked me.0)) slots id me y hs stands carried live holds
      ends senders receivers past lets (refl, refl, same, lengths, fates)
