-- Ends are numbered, and the numbers of ends, senders and receivers change.
use Rattle.std.proofs.Common.{ℕ, zero, suc, Bool, true, false, true≢false, List, [], nat_eq, sym, refl, ap, subst, inl, inr, ⊎_elim, arith, eq-eqb, eqb-true}
use Rattle.std.proofs.Common.{◌≡◌, ◌≢◌, ◌+◌, ◌-◌, ◌<◌, ◌≤◌, ◌⊎◌, ◌∷◌, ◌∙◌}
use Rattle.std.specs.Prelude.{◌==◌, slice_set, slice_index}
use mathlib.Core.Option.{some, none}
use lib.ListN.{get_elem?}
use prog.Atomic.{either}
use Rattle.atomic_table.specs.Table.{State, Act, keeps, step, stepped, Allows, Valid, carried_after}
use Rattle.atomic_table.proofs.Lists.{exchanged, set_again, at_set}
use Rattle.mb_channel.specs.Types.{Home, Homes, Knows}
use Rattle.mb_channel.specs.Homes.{AreNamed, IsFree, IsHeld, Keeps, Sat}
use Rattle.mb_channel.specs.Homes.{receives, rights, sends, tallies, total}
use Rattle.mb_channel.specs.Tallies.{counting, counts_more, gets_number, hires_receiver, hires_sender, retires_receiver, retires_sender}
use Rattle.mb_channel.specs.Homes.{is_in, times}
use Rattle.mb_channel.proofs.Moves.{AllFitEnd, busy_same, ended_stay, grows_same, has_part, moved, nobody_set, tallies_set, stays_word, still_told, told_same}
use Rattle.mb_channel.specs.Remembers.{SomeView}
use Rattle.mb_channel.proofs.Remembers.{some_here, some_set}
use Rattle.mb_channel.proofs.Views.{below_total, not_true, total_set}

pub set_same : (l : List ℕ) (i : ℕ) → slice_set l i (slice_index l i) ≡ l
set_same [] i = refl
set_same (x ∷ xs) zero = refl
set_same (x ∷ xs) (suc i) = ap (λ l. x ∷ l) (set_same xs i)

module _ {T : Type 0} where
  -- a lock is as free or as held as before, if the views that were there hold as much
  pub lock_views : (s : State (Homes T) (Knows T)) (hs : List (Home T)) (m n : ℕ) (words : List ℕ)
      (views : List (Knows T))
      → ((lock : ℕ) → s.words ≡ lock ∷ tallies s.views m → words ≡ lock ∷ tallies views n)
      → ((j : ℕ) (u : Knows T) → get_elem? views j ≡ some u → u.holds ≡ true → (w : Knows T)
      × (get_elem? s.views j ≡ some w) × (w.holds ≡ true) × (w.before ≡ u.before))
      → IsFree s hs m ⊎ IsHeld s hs m
      → IsFree record { words = words; homes = s.homes; views = views } hs n
      ⊎ IsHeld record { words = words; homes = s.homes; views = views } hs n
  lock_views s hs m n words views same was lock = ⊎_elim
      (λ free. inl (
        free.0,
        same 0 free.1,
        free.2,
        free.3,
        λ j u at. not_true u.holds (λ on. let w = was j u at on
            in true≢false (sym w.2 ∙ free.4 j w.0 w.1)),
      ))
      (λ held. inr (
        held.0,
        same 1 held.1,
        held.2,
        λ j u at on. let w = was j u at on in let x = held.3 j w.0 w.1 w.2 in
            (x.0, sym w.3 ∙ x.1),
      ))
      lock

  -- the same where a step changed one view, which holds as much
  pub lock_view : (s : State (Homes T) (Knows T)) (hs : List (Home T)) (m n : ℕ) (words : List ℕ) (id : ℕ)
      (v w : Knows T) → get_elem? s.views id ≡ some v → w.holds ≡ v.holds → w.before ≡ v.before
      → ((lock : ℕ) → s.words ≡ lock ∷ tallies s.views m → words ≡ lock ∷ tallies (slice_set s.views id w) n)
      → IsFree s hs m ⊎ IsHeld s hs m
      → IsFree record { words = words; homes = s.homes; views = slice_set s.views id w } hs n
      ⊎ IsHeld record { words = words; homes = s.homes; views = slice_set s.views id w } hs n
  lock_view s hs m n words id v w at holds before same = lock_views s hs m n words (slice_set s.views id w) same
      (λ j u e on. ⊎_elim
      (λ (t : (j ≡ id) × (w ≡ u)). (
        v,
        ap (get_elem? s.views) t.0 ∙ at,
        sym holds ∙ (ap (λ (z : Knows T). z.holds) t.1
            ∙ on),
        sym before ∙ ap (λ (z : Knows T). z.before) t.1,
      ))
      (λ (t : (j ≢ id) × (get_elem? s.views j ≡ some u)). (u, t.1, on, refl)) (at_set s.views id j w u e))

  pub tallies_stay : (s : State (Homes T) (Knows T)) (mark id : ℕ) (v w : Knows T) → get_elem? s.views id ≡ some v
      → w.rights ≡ v.rights → w.sends ≡ v.sends → w.receives ≡ v.receives
      → (lock : ℕ) → s.words ≡ lock ∷ tallies s.views mark → s.words ≡ lock ∷ tallies (slice_set s.views id w) mark
  tallies_stay s mark id v w at a b c lock e = e ∙ ap (λ l. lock ∷ l) (sym (tallies_set s.views id v w mark at a b c))

  pub numbers : (name slots id : ℕ) (me : Sat T) → me.0.live ≡ false → 0 < me.0.rights
      → Allows Keeps slots id me 0 (λ n. n) (gets_number name (step slots 0 0 0 none) me)
  numbers name slots id me unborn part s k len at small =
      let v = me.0 in
      let w : Knows T = record v { live = true; number = id; name = name } in
      let f = k.fits id v at in
      let b = f.newborn unborn in
      let none_made = b.3 part in (
        w,
        keeps,
        tt,
        subst (λ (z : List ℕ). Keeps record { words = z; homes = s.homes; views = slice_set s.views id w }) (sym
            (stays_word s k (slice_index s.words 0) refl))
            (moved s k id v w at part refl k.homes k.all k.mark (grows_same k.homes) k.leads k.agrees (λ n _. refl)
            (λ g. let x : times (g id) v.visits ≡ 0 = ap (times (g id)) b.0 in let y : times
            (g v.number) v.visits ≡ 0 = ap (times (g v.number)) b.0 in omega arith)
            (λ m h e. busy_same s k m (is_in m v) h e)
            record {
              named = λ _. (refl, b.0 ∙ sym none_made);
              falls = f.falls;
              names = (subst (λ l. AreNamed name l) (sym b.0) tt, f.names.1);
              near = f.near;
              inside = f.inside;
              takes = f.takes;
              newborn = λ l. absurd (true≢false l);
              idle = λ z. absurd (omega arith);
              ended = ended_stay s k id v w at part k.all (λ n _. refl);
            }
            (still_told s k id v w k.homes at (grows_same k.homes) refl refl (k.told id v at).is_open
            (k.told id v at).may_add refl refl refl (k.told id v at).over)
            s.words s.homes (lock_view s k.homes k.mark k.mark s.words id v w at refl refl
            (tallies_stay s k.mark id v w at refl refl refl) k.lock)),
        (id, refl),
      )

  -- ---- an end counts for one more, or for one less
  pub unchanged : (s : State (Homes T) (Knows T)) (k : Keeps s) (id i : ℕ) (v : Knows T) → get_elem? s.views id ≡ some v
      → Keeps record {
        words = slice_set s.words i (slice_index s.words i);
        homes = s.homes;
        views = slice_set s.views id v;
      }
  unchanged s k id i v at = let ws = set_same s.words i in let vs = set_again s.views id v at in
      subst (λ (z : List ℕ × List (Knows T)). Keeps record { words = z.0; homes = s.homes; views = z.1 })
      (λ i. (sym ws i, sym vs i)) k

  abbrev recounted : ℕ → ℕ → ℕ → Bool → Knows T → Knows T
  recounted a b c d v = record v { rights = a; sends = b; receives = c; alone = d }

  -- what a step on a number owes
  abbrev Recounts : (i seen new : ℕ) (id : ℕ) (v w : Knows T) → Type 0
  Recounts i seen new id v w = (s : State (Homes T) (Knows T)) (k : Keeps s) → get_elem? s.views id ≡ some v
      → slice_index s.words i ≡ seen
      → ((lock : ℕ) → s.words ≡ lock ∷ tallies s.views k.mark
      → slice_set s.words i new ≡ lock ∷ tallies (slice_set s.views id w) k.mark) × AllFitEnd s k id w k.homes k.mark

  recounts : (of : Knows T → ℕ) (slots id i seen new a b c : ℕ) (d : Bool) (f : ℕ → Knows T → Knows T) (me : Sat T)
      → ((s : State (Homes T) (Knows T)) → Keeps s → slice_index s.words i ≡ total of s.views) → me.0.live ≡ true
      → 0 < a → recounted a b c d me.0 ≡ f seen me.0 → Recounts i seen new id me.0 (recounted a b c d me.0)
      → Allows Keeps slots id me i (λ n. either (n == seen) new n) (counting of f (step slots i seen new none) me)
  recounts of slots id i seen new a b c d f me word live some_ is owes s k len at small =
      let v = me.0 in
      let w = recounted a b c d v in
      let x = k.fits id v at in
      let part = has_part k.homes k.all s.views id v x live in
      let low : of v ≤ slice_index s.words i = subst (λ n. of v ≤ n) (sym (word s k))
      (below_total of s.views id v at) in
      exchanged (slice_index s.words i) seen new
      (λ m. (w : Knows T) × (a : Act (Homes T)) × Valid s.homes me.1 a × Keeps (stepped s i m id me.1 w a)
      × counting of f (step slots i seen new none) me (slice_index s.words i) (w, carried_after me.1 a))
      (λ e. let o = owes s k at e in (
        w,
        keeps,
        tt,
        moved s k id v w at part refl k.homes k.all k.mark (grows_same k.homes) k.leads k.agrees (λ n _. refl)
            (λ g. omega arith) (λ m h e. busy_same s k m (is_in m v) h e)
            record {
              named = x.named;
              falls = x.falls;
              names = x.names;
              near = x.near;
              inside = x.inside;
              takes = x.takes;
              newborn = λ l. absurd (true≢false (sym live ∙ l));
              idle = λ z. absurd (omega arith);
              ended = ended_stay s k id v w at part k.all (λ n _. refl);
            }
            o.1 (slice_set s.words i new) s.homes
            (lock_view s k.homes k.mark k.mark (slice_set s.words i new) id v w at refl refl o.0 k.lock),
        (refl, (λ q. is ∙ ap (λ r. f r v) (sym q)), (λ ne. absurd (ne e)), low),
      ))
      (λ ne. (
        v,
        keeps,
        tt,
        unchanged s k id i v at,
        (refl, (λ e. absurd (ne e)), (λ _. refl), low),
      ))

  -- if no sender was left, none is
  tell_on : (s : State (Homes T) (Knows T)) (k : Keeps s) (id : ℕ) (v : Knows T) (a b c : ℕ) (d : Bool)
      → get_elem? s.views id ≡ some v
      → (total sends s.views ≡ 0 → total sends (slice_set s.views id (recounted a b c d v)) ≡ 0)
      → (d ≡ true → total sends (slice_set s.views id (recounted a b c d v)) ≡ 0)
      → (total sends (slice_set s.views id (recounted a b c d v)) ≡ 0
      → SomeView (λ u. u.alone ≡ true) (slice_set s.views id (recounted a b c d v)))
      → AllFitEnd s k id (recounted a b c d v) k.homes k.mark
  tell_on s k id v a b c d at none_left alone loner =
      let w = recounted a b c d v in
      let nobody = nobody_set s.views id v w at refl in
      let t = told_same k.homes k.homes k.mark s.views (slice_set s.views id w) v (grows_same k.homes) refl none_left
      (λ _. nobody) (k.told id v at) in (
        λ j u ne at'. told_same k.homes k.homes k.mark s.views (slice_set s.views id w) u (grows_same k.homes) refl
            none_left (λ _. nobody) (k.told j u at'),
        record {
          is_open = t.is_open;
          may_add = t.may_add;
          alone = alone;
          shut = t.shut;
          over = t.over;
          last = t.last;
        },
        record {
          closer = λ z. some_set (λ u. u.shut ≡ true) s.views id v w at (λ q. q) (k.known.closer z);
          loner = loner;
        },
      )

  -- none was left before, and somebody knew
  still_alone : (s : State (Homes T) (Knows T)) (k : Keeps s) (id : ℕ) (v w : Knows T) → get_elem? s.views id ≡ some v
      → w.alone ≡ v.alone → total sends s.views ≡ 0 → SomeView (λ u. u.alone ≡ true) (slice_set s.views id w)
  still_alone s k id v w at same gone = some_set (λ u. u.alone ≡ true) s.views id v w at (λ q. same ∙ q)
      (k.known.loner gone)

  pub senders_word : (s : State (Homes T) (Knows T)) (k : Keeps s) → slice_index s.words 2 ≡ total sends s.views
  senders_word s k = ⊎_elim (λ x. ap (λ l. slice_index l 2) x.1) (λ x. ap (λ l. slice_index l 2) x.1) k.lock

  rights_word : (s : State (Homes T) (Knows T)) (k : Keeps s) → slice_index s.words 1 ≡ total rights s.views
  rights_word s k = ⊎_elim (λ x. ap (λ l. slice_index l 1) x.1) (λ x. ap (λ l. slice_index l 1) x.1) k.lock

  receivers_word : (s : State (Homes T) (Knows T)) (k : Keeps s) → slice_index s.words 3 ≡ total receives s.views
  receivers_word s k = ⊎_elim (λ x. ap (λ l. slice_index l 3) x.1) (λ x. ap (λ l. slice_index l 3) x.1) k.lock

  pub mark_word : (s : State (Homes T) (Knows T)) (k : Keeps s) → slice_index s.words 4 ≡ k.mark
  mark_word s k = ⊎_elim (λ x. ap (λ l. slice_index l 4) x.1) (λ x. ap (λ l. slice_index l 4) x.1) k.lock

  receivers_owe : (seen new id : ℕ) (v : Knows T) (c : ℕ) → ((t u : ℕ) → u + v.receives ≡ t + c → seen ≡ t → new ≡ u)
      → Recounts 3 seen new id v (recounted v.rights v.sends c v.alone v)
  receivers_owe seen new id v c is_new s k at is =
      let w = recounted v.rights v.sends c v.alone v in
      let a = total_set rights s.views id v w at in
      let b = total_set sends s.views id v w at in
      let r = total_set receives s.views id v w at in
      let y : total rights s.views ≡ total rights (slice_set s.views id w) = omega arith in
      let same : total sends (slice_set s.views id w) ≡ total sends s.views = omega arith in (
        λ lock e. (
            let n : seen ≡ total receives s.views = sym is ∙ ap (λ l. slice_index l 3) e in
            let x = is_new (total receives s.views) (total receives (slice_set s.views id w)) r n in
            ap (λ l. slice_set l 3 new) e ∙ (λ i. lock ∷ y i ∷ sym same i ∷ x i ∷ k.mark ∷ [])
            ),
        tell_on s k id v v.rights v.sends c v.alone at (λ q. same ∙ q) (λ q. same ∙ (k.told id v at).alone q)
            (λ q. still_alone s k id v w at refl (sym same ∙ q)),
      )

  pub adds : (slots id seen new : ℕ) (me : Sat T) → me.0.live ≡ true → new ≡ seen + 1
      → Allows Keeps slots id me 1 (λ n. either (n == seen) new n)
      (counting rights (λ _. counts_more) (step slots 1 seen new none) me)
  adds slots id seen new me live one = let v = me.0 in
      recounts rights slots id 1 seen new (v.rights + 1) v.sends v.receives v.alone (λ _. counts_more) me rights_word
      live (omega arith) refl (λ s k at is.
      let w = counts_more v in
      let a = total_set rights s.views id v w at in
      let b = total_set sends s.views id v w at in
      let c = total_set receives s.views id v w at in
      let same : total sends (slice_set s.views id w) ≡ total sends s.views = omega arith in
      let z : total receives s.views ≡ total receives (slice_set s.views id w) = omega arith in (
        λ lock e. (
            let n = sym (ap (λ l. slice_index l 1) e) ∙ is in
            let x : new ≡ total rights (slice_set s.views id w) = omega arith in
            ap (λ l. slice_set l 1 new) e ∙ (λ i. lock ∷ x i ∷ sym same i ∷ z i ∷ k.mark ∷ [])
            ),
        tell_on s k id v (v.rights + 1) v.sends v.receives v.alone at (λ q. same ∙ q)
            (λ q. same ∙ (k.told id v at).alone q) (λ q. still_alone s k id v w at refl (sym same ∙ q)),
      ))

  pub hires_one : (slots id seen new : ℕ) (me : Sat T) → me.0.live ≡ true → 0 < seen → new ≡ seen + 1
      → Allows Keeps slots id me 2 (λ n. either (n == seen) new n)
      (counting sends (λ _. hires_sender) (step slots 2 seen new none) me)
  hires_one slots id seen new me live some_ one s k len at small = let v = me.0 in
      let part = has_part k.homes k.all s.views id v (k.fits id v at) live in
      recounts sends slots id 2 seen new v.rights (v.sends + 1) v.receives v.alone (λ _. hires_sender) me senders_word
      live part refl
      (λ s k at is.
      let w = hires_sender v in
      let a = total_set rights s.views id v w at in
      let b = total_set sends s.views id v w at in
      let c = total_set receives s.views id v w at in
      let y : total rights s.views ≡ total rights (slice_set s.views id w) = omega arith in
      let z : total receives s.views ≡ total receives (slice_set s.views id w) = omega arith in
      let word = senders_word s k in (
        λ lock e. (
            let n = sym (ap (λ l. slice_index l 2) e) ∙ is in
            let x : new ≡ total sends (slice_set s.views id w) = omega arith in
            ap (λ l. slice_set l 2 new) e ∙ (λ i. lock ∷ y i ∷ x i ∷ z i ∷ k.mark ∷ [])
            ),
        tell_on s k id v v.rights (v.sends + 1) v.receives v.alone at (λ q. absurd (omega arith))
            (λ q. let e = (k.told id v at).alone q in absurd (omega arith)) (λ q. absurd (omega arith)),
      )) s k len at small

  pub retires_one : (slots id seen new : ℕ) (me : Sat T) → me.0.live ≡ true → 0 < me.0.sends → seen ≡ new + 1
      → Allows Keeps slots id me 2 (λ n. either (n == seen) new n)
      (counting sends (λ r. retires_sender (nat_eq r 1)) (step slots 2 seen new none) me)
  retires_one slots id seen new me live some_ one s k len at small = let v = me.0 in
      let part = has_part k.homes k.all s.views id v (k.fits id v at) live in
      recounts sends slots id 2 seen new v.rights (v.sends - 1) v.receives (nat_eq seen 1)
      (λ r. retires_sender (nat_eq r 1)) me senders_word live part refl
      (λ s k at is.
      let w = retires_sender (nat_eq seen 1) v in
      let a = total_set rights s.views id v w at in
      let b = total_set sends s.views id v w at in
      let c = total_set receives s.views id v w at in
      let y : total rights s.views ≡ total rights (slice_set s.views id w) = omega arith in
      let z : total receives s.views ≡ total receives (slice_set s.views id w) = omega arith in
      let word : slice_index s.words 2 ≡ total sends s.views = senders_word s k in (
        λ lock e. (
            let x : new ≡ total sends (slice_set s.views id w) = omega arith in
            ap (λ l. slice_set l 2 new) e ∙ (λ i. lock ∷ y i ∷ x i ∷ z i ∷ k.mark ∷ [])
            ),
        tell_on s k id v v.rights (v.sends - 1) v.receives (nat_eq seen 1) at (λ q. omega arith)
            (λ q. let e = eqb-true seen 1 q in omega arith)
            (λ q. some_here (λ u. u.alone ≡ true) s.views id v w at (eq-eqb seen 1 (omega arith))),
      )) s k len at small

  -- the same for receivers
  pub hires_other : (slots id seen new : ℕ) (me : Sat T) → me.0.live ≡ true → 0 < me.0.receives → new ≡ seen + 1
      → Allows Keeps slots id me 3 (λ n. either (n == seen) new n)
      (counting receives (λ _. hires_receiver) (step slots 3 seen new none) me)
  hires_other slots id seen new me live some_ one s k len at small = let v = me.0 in
      let part = has_part k.homes k.all s.views id v (k.fits id v at) live in
      recounts receives slots id 3 seen new v.rights v.sends (v.receives + 1) v.alone (λ _. hires_receiver) me
      receivers_word live part refl
      (receivers_owe seen new id v (v.receives + 1) (λ t u e n. omega arith)) s k len at small

  pub retires_other : (slots id seen new : ℕ) (me : Sat T) → me.0.live ≡ true → 0 < me.0.receives → seen ≡ new + 1
      → Allows Keeps slots id me 3 (λ n. either (n == seen) new n)
      (counting receives (λ _. retires_receiver) (step slots 3 seen new none) me)
  retires_other slots id seen new me live some_ one s k len at small = let v = me.0 in
      let part = has_part k.homes k.all s.views id v (k.fits id v at) live in
      recounts receives slots id 3 seen new v.rights v.sends (v.receives - 1) v.alone (λ _. retires_receiver) me
      receivers_word live part refl
      (receivers_owe seen new id v (v.receives - 1) (λ t u e n. omega arith)) s k len at small
