-- An end sees that no sender is left or that the list is closed, closes it, and is told that it never grows any more.
use Rattle.std.proofs.Common.{ℕ, zero, suc, Bool, true, false, true≢false, List, [], length, sym, refl, ap, subst, inl, inr, ⊎_elim, arith}
use Rattle.std.proofs.Common.{◌≡◌, ◌≢◌, ◌<◌, ◌≤◌, ◌⊎◌, ◌∷◌, ◌∙◌, if◌then◌else◌}
use Rattle.std.specs.Prelude.{None, Option, Some, slice_set, slice_index}
use mathlib.Core.Option.{some, none}
use lib.ListN.{get_elem?}
use native.Mathlib.Decide.{ℕ_discrete}
use Rattle.atomic_table.specs.Table.{State, Act, Step, keeps, step, stepped, Allows, Valid, carried_after}
use Rattle.mb_channel.specs.Types.{Home, Homes, Knows}
use Rattle.mb_channel.specs.Homes.{Agrees, AreLed, AreOver, Grows, IsIn, IsNear, IsNext, IsShut, Keeps, MayGive, NobodyTold, Sat, Stands}
use Rattle.mb_channel.specs.Homes.{is_in, sends, tallies, total, unlocked}
use Rattle.mb_channel.specs.Tallies.{IsLast, closing, saw_closed, saw_none, saw_open, saw_sender, sees_mark, sees_senders, told_last}
use Rattle.mb_channel.proofs.Members.{lock_view, senders_word, mark_word, set_same, tallies_stay}
use Rattle.mb_channel.proofs.Moves.{AllFitEnd, busy_same, ended_stay, grows_same, has_part, moved, nobody_set, over_grows, tallies_set, told_same, unlocks}
use Rattle.mb_channel.proofs.Remembers.{some_here, some_set, still_remembers}
use Rattle.mb_channel.proofs.Views.{below_total, there, total_set}

some_number : (n : ℕ) → n ≢ 0 → 0 < n
some_number zero ne = absurd (ne refl)
some_number (suc n) ne = omega arith

some_is : (a b : ℕ) → Some a ≡ Some b → a ≡ b
some_is a b e = ap (λ (o : Option ℕ). Rattle.std.specs.Option.unwrap_or o a) e

module _ {T : Type 0} where
  -- a step that changes what the view says of the senders, the mark and its looks alone
  abbrev noticed : Bool → Bool → Bool → Bool → ℕ → Knows T → Knows T
  noticed o a b c d v = record v { is_open = o; may_add = a; alone = b; shut = c; found = d }

  notices : (s : State (Homes T) (Knows T)) (k : Keeps s) (id : ℕ) (v : Knows T) (o a b c : Bool) (d : ℕ)
      (words : List ℕ) (mark : ℕ) → get_elem? s.views id ≡ some v → v.live ≡ true
      → ((lock : ℕ) → s.words ≡ lock ∷ tallies s.views k.mark
      → words ≡ lock ∷ tallies (slice_set s.views id (noticed o a b c d v)) mark)
      → AllFitEnd s k id (noticed o a b c d v) k.homes mark
      → Keeps record { words = words; homes = s.homes; views = slice_set s.views id (noticed o a b c d v) }
  notices s k id v o a b c d words mark at live same tells =
      let w = noticed o a b c d v in
      let f = k.fits id v at in
      let part = has_part k.homes k.all s.views id v f live in
      moved s k id v w at part refl k.homes k.all mark (grows_same k.homes) k.leads k.agrees (λ n _. refl)
      (λ g. omega arith) (λ m h e. busy_same s k m (is_in m v) h e)
      record {
        named = f.named;
        falls = f.falls;
        names = f.names;
        near = f.near;
        inside = f.inside;
        takes = f.takes;
        newborn = λ l. absurd (true≢false (sym live ∙ l));
        idle = λ z. absurd (omega arith);
        ended = ended_stay s k id v w at part k.all (λ n _. refl);
      }
      tells words s.homes (lock_view s k.homes k.mark mark words id v w at refl refl same k.lock)

  -- a word that is loaded
  loaded : (s : State (Homes T) (Knows T)) (k : Keeps s) (id i : ℕ) (v w : Knows T) → get_elem? s.views id ≡ some v
      → w.rights ≡ v.rights → w.sends ≡ v.sends → w.receives ≡ v.receives → (lock : ℕ)
      → s.words ≡ lock ∷ tallies s.views k.mark
      → slice_set s.words i (slice_index s.words i) ≡ lock ∷ tallies (slice_set s.views id w) k.mark
  loaded s k id i v w at a b c lock e = set_same s.words i ∙ tallies_stay s k.mark id v w at a b c lock e

  -- it sees the mark or looks, and does not see that no sender is left
  sees_it : (s : State (Homes T) (Knows T)) (k : Keeps s) (id : ℕ) (v : Knows T) (o a c : Bool) (d : ℕ)
      → get_elem? s.views id ≡ some v → (o ≡ true → (v.holds ≡ true) × (0 < k.mark))
      → (a ≡ true → (o ≡ true) × NobodyTold s.views) → (c ≡ true → k.mark ≡ 0) → (v.shut ≡ true → c ≡ true)
      → AllFitEnd s k id (noticed o a v.alone c d v) k.homes k.mark
  sees_it s k id v o a c d at is_open may_add shut more =
      let t = k.told id v at in
      let w = noticed o a v.alone c d v in
      let b = total_set sends s.views id v w at in
      let same : total sends (slice_set s.views id w) ≡ total sends s.views = omega arith in
      let nobody = nobody_set s.views id v w at refl in
      let x = told_same k.homes k.homes k.mark s.views (slice_set s.views id w) v (grows_same k.homes) refl
      (λ q. same ∙ q) (λ _. nobody) t in (
        (λ j u ne at'. told_same k.homes k.homes k.mark s.views (slice_set s.views id w) u (grows_same k.homes) refl
            (λ q. same ∙ q) (λ _. nobody) (k.told j u at')),
        record {
          is_open = is_open;
          may_add = λ q. let y = may_add q in (y.0, nobody y.1);
          alone = x.alone;
          shut = shut;
          over = x.over;
          last = x.last;
        },
        still_remembers k.mark k.mark (total sends s.views) (total sends (slice_set s.views id w)) s.views id v w at
            more (λ q. q) (λ z. z) (λ z. sym same ∙ z) k.known,
      )

  -- where the list is not closed, and a sender is left
  nobody_is : (s : State (Homes T) (Knows T)) (k : Keeps s) → 0 < k.mark → total sends s.views ≢ 0 → NobodyTold s.views
  nobody_is s k open_ left j u at = go u.last refl
    where
      go : (o : Option ℕ) → u.last ≡ o → u.last ≡ None
      go None e = e
      go (Some n) e = ⊎_elim (λ z. absurd (omega arith)) (λ z. absurd (left z)) ((k.told j u at).last n e).1

  -- no sender is left, and the end saw that
  pub sees_none : (s : State (Homes T) (Knows T)) (k : Keeps s) (id : ℕ) (v : Knows T) → get_elem? s.views id ≡ some v
      → v.live ≡ true → slice_index s.words 2 ≡ 0 → Keeps record {
        words = slice_set s.words 2 (slice_index s.words 2);
        homes = s.homes;
        views = slice_set s.views id (saw_none v);
      } × (v.sends ≡ 0)
  sees_none s k id v at live e =
      let t = k.told id v at in
      let w = saw_none v in
      let gone : total sends s.views ≡ 0 = sym (senders_word s k) ∙ e in
      let b = total_set sends s.views id v w at in
      let now : total sends (slice_set s.views id w) ≡ 0 = omega arith in
      let nobody = nobody_set s.views id v w at refl in
      let mine = below_total sends s.views id v at in (
        notices s k id v v.is_open v.may_add true v.shut v.found (slice_set s.words 2 (slice_index s.words 2))
            k.mark at live (loaded s k id 2 v w at refl refl refl) (
              (λ j u ne at'. told_same k.homes k.homes k.mark s.views (slice_set s.views id w) u
                  (grows_same k.homes) refl (λ _. now) (λ _. nobody) (k.told j u at')),
              record {
                is_open = t.is_open;
                may_add = λ q. let x = t.may_add q in (x.0, nobody x.1);
                alone = λ _. now;
                shut = t.shut;
                over = t.over;
                last = λ n q. let x = t.last n q in (x.0, inr now, x.2);
              },
              still_remembers k.mark k.mark (total sends s.views) (total sends (slice_set s.views id w)) s.views
                  id v w at (λ q. q) (λ _. refl) (λ z. z) (λ _. gone) k.known,
            ),
        omega arith,
      )

  pub sees_whether : (slots id : ℕ) (me : Sat T) → me.0.live ≡ true → IsLast me.0
      → Allows Keeps slots id me 2 (λ n. n) (sees_senders (step slots 2 0 0 none) me)
  sees_whether slots id me live last s k len at small = go (ℕ_discrete (slice_index s.words 2) 0)
    where
      go : Dec (slice_index s.words 2 ≡ 0) → (w : Knows T) × (a : Act (Homes T)) × Valid s.homes me.1 a
          × Keeps (stepped s 2 (slice_index s.words 2) id me.1 w a)
          × sees_senders (step slots 2 0 0 none) me (slice_index s.words 2) (w, carried_after me.1 a)
      go (yes e) = let x = sees_none s k id me.0 at live e in
          (saw_none me.0, keeps, tt, x.0, (refl, last, (λ _. (refl, x.1)), λ ne. absurd (ne e)))
      go (no ne) = let v = me.0 in let t = k.told id v at in let w = saw_sender v in (
        w,
        keeps,
        tt,
        notices s k id v v.is_open v.is_open v.alone v.shut w.found (slice_set s.words 2 (slice_index s.words 2))
            k.mark at live (loaded s k id 2 v w at refl refl refl)
            (sees_it s k id v v.is_open v.is_open v.shut w.found at t.is_open
            (λ q. (q, nobody_is s k (t.is_open q).1 (λ z. ne (senders_word s k ∙ z)))) t.shut (λ q. q)),
        (refl, last, (λ e. absurd (ne e)), λ _. refl),
      )

  pub sees_marked : (slots id : ℕ) (me : Sat T) → me.0.live ≡ true
      → Allows Keeps slots id me 4 (λ n. n) (sees_mark (step slots 4 0 0 none) me)
  sees_marked slots id me live s k len at small = go (ℕ_discrete (slice_index s.words 4) 0)
    where
      go : Dec (slice_index s.words 4 ≡ 0) → (w : Knows T) × (a : Act (Homes T)) × Valid s.homes me.1 a
          × Keeps (stepped s 4 (slice_index s.words 4) id me.1 w a)
          × sees_mark (step slots 4 0 0 none) me (slice_index s.words 4) (w, carried_after me.1 a)
      go (yes e) = let v = me.0 in (
        saw_closed v,
        keeps,
        tt,
        notices s k id v v.is_open v.may_add v.alone true v.found (slice_set s.words 4 (slice_index s.words 4)) k.mark
            at live (loaded s k id 4 v (saw_closed v) at refl refl refl)
            (sees_it s k id v v.is_open v.may_add true v.found at (k.told id v at).is_open (k.told id v at).may_add
            (λ _. sym (mark_word s k) ∙ e) (λ _. refl)),
        (refl, (λ _. refl), λ ne. absurd (ne e)),
      )
      go (no ne) = let v = me.0 in let t = k.told id v at in let w = saw_open v in (
        w,
        keeps,
        tt,
        notices s k id v v.holds v.may_add v.alone v.shut v.found (slice_set s.words 4 (slice_index s.words 4)) k.mark
            at live (loaded s k id 4 v w at refl refl refl)
            (sees_it s k id v v.holds v.may_add v.shut v.found at
            (λ q. (q, some_number k.mark (λ z. ne (mark_word s k ∙ z))))
            (λ q. let x = t.may_add q in ((t.is_open x.0).0, x.1)) t.shut (λ q. q)),
        (refl, (λ e. absurd (ne e)), λ _. refl),
      )

  -- nobody else has the lock
  one_holds : (s : State (Homes T) (Knows T)) (k : Keeps s) (i j : ℕ) (u v : Knows T) → get_elem? s.views i ≡ some u
      → get_elem? s.views j ≡ some v → u.holds ≡ true → v.holds ≡ true → i ≡ j
  one_holds s k i j u v at at' a b = ⊎_elim
      (λ free. absurd (true≢false (sym a ∙ free.4 i u at)))
      (λ held. (held.3 i u at a).0 ∙ sym (held.3 j v at' b).0)
      k.lock

  pub closes_list : (slots id : ℕ) (me : Sat T) → me.0.live ≡ true → me.0.holds ≡ true
      → Allows Keeps slots id me 4 (λ _. 0) (λ _. closing (step slots 4 0 0 none) me 0)
  closes_list slots id me live holds s k len at small =
      let v = me.0 in
      let w : Knows T = record v { is_open = false; may_add = false; shut = true } in
      let t = k.told id v at in
      let b = total_set sends s.views id v w at in
      let same : total sends (slice_set s.views id w) ≡ total sends s.views = omega arith in (
        w,
        keeps,
        tt,
        notices s k id v false false v.alone true v.found (slice_set s.words 4 0) 0 at live
            (λ lock e. ap (λ l. slice_set l 4 0) e ∙ ap (λ l. lock ∷ l)
            (sym (tallies_set s.views id v w 0 at refl refl refl))) (
              (λ j u ne at'. let x = k.told j u at' in record {
                is_open = λ q. absurd (ne (one_holds s k j id u v at' at (x.is_open q).0 holds));
                may_add = λ q. absurd (ne (one_holds s k j id u v at' at (x.is_open (x.may_add q).0).0 holds));
                alone = λ q. same ∙ x.alone q;
                shut = λ _. refl;
                over = x.over;
                last = λ n q. let y = x.last n q in (y.0, inl refl, y.2);
              }),
              record {
                is_open = λ q. absurd (true≢false (sym q));
                may_add = λ q. absurd (true≢false (sym q));
                alone = λ q. same ∙ t.alone q;
                shut = λ _. refl;
                over = t.over;
                last = λ n q. let y = t.last n q in (y.0, inl refl, y.2);
              },
              record {
                closer = λ _. some_here (λ u. u.shut ≡ true) s.views id v w at refl;
                loner = λ z. some_set (λ u. u.alone ≡ true) s.views id v w at (λ q. q)
                    (k.known.loner (sym same ∙ z));
              },
            ),
        (refl, refl),
      )

  -- it gives the lock back, and is told
  pub unlocks_told : (n slots id : ℕ) (me : Sat T) (y : Homes T) (hs : List (Home T)) → Stands hs y
      → me.1 ≡ (0, y) ∷ [] → me.0.live ≡ true → me.0.holds ≡ true → hs ≡ me.0.before → length me.0.before ≡ n
      → (me.0.shut ≡ true) ⊎ (me.0.alone ≡ true) → (me.0.at ≡ n) × (me.0.orderly ≡ true)
      → MayGive (told_last n) slots id me
  unlocks_told n slots id me y hs stands carried live holds is size seen here = unlocks
      (told_last n) slots id me y hs stands carried live holds refl refl refl refl refl refl refl refl
      (λ s k at part before.
      let v = me.0 in
      let f = k.fits id v at in
      let w = told_last n (unlocked v) in
      let now : k.homes ≡ hs = sym before ∙ sym is in
      let b = total_set sends s.views id v w at in
      let same : total sends (slice_set s.views id w) ≡ total sends s.views = omega arith in
      let long : length hs ≡ length k.homes = ap length (sym now) in
      let grows : Grows k.homes hs = subst (λ l. Grows k.homes l) now (grows_same k.homes) in
      let t = k.told id v at in
      let never : IsShut k.mark (slice_set s.views id w) = ⊎_elim (λ q. inl (t.shut q))
      (λ q. inr (same ∙ t.alone q)) seen in (
        k.all,
        grows,
        subst (λ l. AreLed l) now k.leads,
        subst (λ l. Agrees l k.all) now k.agrees,
        (λ j _. refl),
        (λ g. omega arith),
        (λ m h e. busy_same s k m (is_in m v) h (ap (λ l. get_elem? l m) now ∙ e)),
        record {
          named = f.named;
          falls = f.falls;
          names = f.names;
          near = subst (λ l. IsNear l v.at) now f.near;
          inside = λ q. subst (λ l. IsIn l v) now (f.inside q);
          takes = λ q. subst (λ l. IsNext l v.at) now (f.takes q);
          newborn = f.newborn;
          idle = λ z. absurd (omega arith);
          ended = ended_stay s k id v w at part k.all (λ j _. refl);
        },
        (
          (λ j u ne at'. told_same k.homes hs k.mark s.views (slice_set s.views id w) u grows long (λ q. same ∙ q)
              (λ on. absurd (ne (one_holds s k j id u v at' at on holds))) (k.told j u at')),
          record {
            is_open = λ q. absurd (true≢false (sym q));
            may_add = λ q. absurd (true≢false (sym q));
            alone = λ q. same ∙ t.alone q;
            shut = t.shut;
            over = λ q. over_grows k.homes hs grows v.at (t.over q);
            last = λ m q. (
              ap length is ∙ size ∙ some_is n m q,
              never,
              subst (λ i. AreOver hs i) (here.0 ∙ some_is n m q) (over_grows k.homes hs grows v.at (t.over here.1)),
            );
          },
          still_remembers k.mark k.mark (total sends s.views) (total sends (slice_set s.views id w)) s.views id v w at
              (λ q. q) (λ q. q) (λ z. z) (λ z. sym same ∙ z) k.known,
        ),
      ))

  -- whoever counts that it is behind the last segment may receive there
  pub none_waits : (s : State (Homes T) (Knows T)) (k : Keeps s) (id r : ℕ) (st : Step (Homes T)) (m n : Sat T)
      → get_elem? s.views id ≡ some m.0 → sees_senders st m r n → m.0.found < n.0.found
      → (length k.homes ≡ m.0.at) × IsNext k.homes m.0.at
  none_waits s k id r st m n at saw more = let v = m.0 in
      let same : v.before ≡ k.homes = ⊎_elim (λ free. absurd (true≢false (sym saw.1.0 ∙ free.4 id v at)))
      (λ held. (held.3 id v at saw.1.0).1) k.lock in
      (ap length (sym same) ∙ saw.1.1, (k.fits id v at).takes (counted v.takes refl (ℕ_discrete r 0)))
    where
      counted : (b : Bool) → m.0.takes ≡ b → Dec (r ≡ 0) → m.0.takes ≡ true
      counted true is d = is
      counted false is (yes e) = let same = ap (λ (z : Knows T). z.found) (saw.2 e).0 in absurd (omega arith)
      counted false is (no ne) = let same = ap (λ (z : Knows T). z.found) (saw.3 ne)
          ∙ ap (λ (b : Bool). if b then suc m.0.found else m.0.found) is in absurd (omega arith)

  -- an end is no further than behind the last segment
  pub near_last : (hs : List (Home T)) (k : ℕ) → IsNear hs k → k ≤ length hs
  near_last hs k near = ⊎_elim (λ e. omega arith)
      (λ t. let e = t.1 in let i = there hs t.0 t.2.0 t.2.1 in omega arith) near
