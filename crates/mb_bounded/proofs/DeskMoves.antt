-- Each step keeps the rule of the desk.
use Rattle.std.proofs.Common.{ℕ, zero, suc, Bool, true, false, true≢false, List, [], nat_eq, sym, refl, ap, subst, inl, inr, ⊎_elim, arith, eqb-true}
use Rattle.std.proofs.Common.{◌≡◌, ◌≢◌, ◌+◌, ◌-◌, ◌<◌, ◌≤◌, ◌⊎◌, ◌∷◌, ◌++◌, ◌∙◌}
use Rattle.std.specs.Prelude.{◌==◌, ◌||◌, Option, Some, slice_set, slice_index}
use mathlib.Core.Option.{some, none, some-injective, some-ne-none}
use lib.ListN.{get_elem?}
use prog.Atomic.{either}
use Rattle.atomic_table.specs.Table.{Act, Allows, Splits, Valid, keeps, takes, gives, step, stepped, carried_after, homes_after, opening, put_back, rest}
use Rattle.atomic_table.proofs.Lists.{at_longer, at_set, at_snoc, exchanged, set_again, set_else, set_here}
use native.Mathlib.Decide.{ℕ_discrete}
use Rattle.mb_segment.proofs.Spots.{below_length}
use Rattle.mb_bounded.specs.Types.{Desk, Global, Knows, Ring}
use Rattle.mb_bounded.specs.Desks.{AreCounted, Fits, Holds, IsDeskOf, IsFree, IsHeld, Keeps, MayGive, OfficeState, Sat, first_view, gives_lock, locked, newcomer}
use Rattle.mb_bounded.specs.Desks.{receives, sends, settled, splits_off, takes_lock, total}
use Rattle.mb_bounded.proofs.Views.{below_total, same_total, total_set, total_snoc}

not_true : (b : Bool) → (b ≡ true → ⊥) → b ≡ false
not_true true n = absurd (n refl)
not_true false n = refl

module _ {T : Type 0} where
  -- a view fits beside others, if no end came back where none was left
  fits_beside : (r : Ring T Global) (views ws : List (Knows T)) (v : Knows T)
      → (total sends views ≡ 0 → total sends ws ≡ 0)
      → (total receives views ≡ 0 → total receives ws ≡ 0) → Fits r views v → Fits r ws v
  fits_beside r views ws v a b f = record {
    ring = f.ring;
    no_sender = λ q. a (f.no_sender q);
    no_receiver = λ q. b (f.no_receiver q);
  }

  fits_set : (r : Ring T Global) (s : OfficeState T) (k : Keeps r s) (id : ℕ) (w : Knows T) (ws : List (Knows T))
      → (total sends s.views ≡ 0 → total sends ws ≡ 0) → (total receives s.views ≡ 0 → total receives ws ≡ 0)
      → Fits r ws w → (j : ℕ) (u : Knows T) → get_elem? (slice_set s.views id w) j ≡ some u → Fits r ws u
  fits_set r s k id w ws a b mine j u e = ⊎_elim
      (λ (t : (j ≡ id) × (w ≡ u)). subst (λ (z : Knows T). Fits r ws z) t.1 mine)
      (λ (t : (j ≢ id) × (get_elem? s.views j ≡ some u)). fits_beside r s.views ws u a b (k.fits j u t.1))
      (at_set s.views id j w u e)

  -- who has the lock knows the numbers, and where it is taken somebody has it
  pub numbers : (r : Ring T Global) (s : OfficeState T) → Keeps r s → (id : ℕ) (v : Knows T)
      → get_elem? s.views id ≡ some v → v.holds ≡ true → AreCounted s.views v.senders v.receivers
  numbers r s k id v at on = ⊎_elim
      (λ (free : IsFree r s). absurd (true≢false (sym on ∙ free.5 id v at)))
      (λ (held : IsHeld s). (held.3.1 id v at on).1)
      k.lock

  pub holder : (r : Ring T Global) (s : OfficeState T) → Keeps r s → slice_index s.words 0 ≡ 1
      → (id : ℕ) × Holds s.views id
  holder r s k one = ⊎_elim
      (λ (free : IsFree r s). let e : slice_index s.words 0 ≡ 0 = ap (λ x. slice_index x 0) free.1
      in absurd (omega arith))
      (λ (held : IsHeld s). (held.0, held.3.0))
      k.lock

  pub alone : (r : Ring T Global) (s : OfficeState T) → Keeps r s → (i j : ℕ) (v w : Knows T)
      → get_elem? s.views i ≡ some v → v.holds ≡ true → get_elem? s.views j ≡ some w → w.holds ≡ true → i ≡ j
  alone r s k i j v w at on at' on' = ⊎_elim
      (λ (free : IsFree r s). absurd (true≢false (sym on ∙ free.5 i v at)))
      (λ (held : IsHeld s). (held.3.1 i v at on).0 ∙ sym (held.3.1 j w at' on').0)
      k.lock

  -- ---- the beginning
  pub opens : (r : Ring T Global) (d : Desk T) → IsDeskOf r d → d.senders ≡ 1 → d.receivers ≡ 1
      → Keeps r (opening (0 ∷ []) (Some d ∷ []) (first_view r))
  opens r d of one one' = record {
    lock = inl (
      d,
      refl,
      refl,
      of,
      (omega arith, omega arith),
      λ j u at. ap (λ (z : Knows T). z.holds) (first_is j u at),
    );
    fits = λ j u at. subst (λ (z : Knows T). Fits r (first_view r ∷ []) z) (sym (first_is j u at)) record {
      ring = refl;
      no_sender = λ q. absurd (true≢false (sym q));
      no_receiver = λ q. absurd (true≢false (sym q));
    };
  }
    where
      first_is : (j : ℕ) (u : Knows T) → get_elem? {A = Knows T} (first_view r ∷ []) j ≡ some u → u ≡ first_view r
      first_is zero u at = sym (some-injective (first_view r) u at)
      first_is (suc j) u at = absurd (some-ne-none u (sym at))

  -- ---- the lock
  -- an access that changes neither the word nor its own view keeps the rule
  same_state : (r : Ring T Global) (s : OfficeState T) (k : Keeps r s) (id : ℕ) (v : Knows T)
      → get_elem? s.views id ≡ some v → (n : ℕ) → n ≡ slice_index s.words 0
      → Keeps r record { words = slice_set s.words 0 n; homes = s.homes; views = slice_set s.views id v }
  same_state r s k id v at n e =
      let vs : slice_set s.views id v ≡ s.views = set_again s.views id v at in
      let ws : slice_set s.words 0 n ≡ s.words = ap (λ m. slice_set s.words 0 m) e ∙ ⊎_elim
      (λ (x : IsFree r s). ap (λ l. slice_set l 0 (slice_index l 0)) x.1 ∙ sym x.1)
      (λ (x : IsHeld s). ap (λ l. slice_set l 0 (slice_index l 0)) x.1 ∙ sym x.1) k.lock in
      subst (λ (z : List ℕ × List (Knows T)). Keeps r record { words = z.0; homes = s.homes; views = z.1 })
      (λ i. (sym ws i, sym vs i)) k

  -- an end may try the lock: it gets the desk, or nothing changes
  pub locks : (r : Ring T Global) (slots id : ℕ) (me : Sat T)
      → Allows (Keeps r) slots id me 0 (λ n. either (n == 0) 1 n) (takes_lock (step slots 0 0 1 none) me)
  locks r slots id me s k len at small =
      let v = me.0 in
      let f = k.fits id v at in
      exchanged (slice_index s.words 0) 0 1
      (λ m. (w : Knows T) × (a : Act (Option (Desk T))) × Valid s.homes me.1 a × Keeps r (stepped s 0 m id me.1 w a)
      × takes_lock (step slots 0 0 1 none) me (slice_index s.words 0) (w, carried_after me.1 a))
      (λ e. ⊎_elim
      (λ (free : IsFree r s). let d = free.0 in let w = locked d v in
      let a = same_total sends s.views id v w at refl in
      let b = same_total receives s.views id v w at refl in
      let n = free.4 in
      let m = below_total sends s.views id v at in
      let o = below_total receives s.views id v at in (
        w,
        takes 0 (Some d),
        ap (λ x. get_elem? x 0) free.2,
        record {
          lock = inr (
            id,
            ap (λ x. slice_set x 0 1) free.1,
            ap (λ x. slice_set x 0 none) free.2,
            (
              (w, set_here s.views id w (below_length s.views id v at), refl),
              λ j u e. ⊎_elim (λ (t : (j ≡ id) × (w ≡ u)). λ held. (
                t.0,
                (
                  ap (λ (z : Knows T). z.senders) (sym t.1) ∙ (n.0 ∙ sym a),
                  ap (λ (z : Knows T). z.receivers) (sym t.1) ∙ (n.1 ∙ sym b),
                ),
              ))
                  (λ (t : (j ≢ id) × (get_elem? s.views j ≡ some u)). λ held. absurd (true≢false (sym held
                  ∙ free.5 j u t.1)))
                  (at_set s.views id j w u e),
            ),
          );
          fits = fits_set r s k id w (slice_set s.views id w) (λ q. a ∙ q) (λ q. b ∙ q) record {
            ring = f.ring;
            no_sender = λ q. a ∙ f.no_sender q;
            no_receiver = λ q. b ∙ f.no_receiver q;
          };
        },
        (
          (λ _. (d, refl, (subst (λ (z : Ring T Global). IsDeskOf z d) (sym f.ring) free.3, omega arith, omega arith))),
          λ ne. absurd (ne e),
        ),
      ))
      (λ (held : IsHeld s). let is : slice_index s.words 0 ≡ 1 = ap (λ x. slice_index x 0) held.1
      in absurd (omega arith))
      k.lock)
      (λ ne. (
        v,
        keeps,
        tt,
        same_state r s k id v at (slice_index s.words 0) refl,
        ((λ e. absurd (ne e)), λ _. refl),
      ))

  -- the end that has the lock may give the desk back. It is the holder, so the numbers that it knows are right
  pub lets_go : (r : Ring T Global) (slots id : ℕ) (me : Sat T) (d : Desk T) → me.1 ≡ (0, Some d) ∷ []
      → me.0.holds ≡ true → MayGive me.0 d
      → Allows (Keeps r) slots id me 0 (λ _. 0) (λ _. gives_lock (step slots 0 0 0 none) me 0)
  lets_go r slots id me d carried holds may s k len at small = ⊎_elim
      (λ (free : IsFree r s). absurd (true≢false (sym holds ∙ free.5 id v at)))
      (λ (held : IsHeld s).
      let mine = held.3.1 id v at holds in
      let n = mine.1.0 in let n' = mine.1.1 in
      let la = may.1 in let lb = may.2 in
      let a = total_set sends s.views id v w at in
      let b = total_set receives s.views id v w at in
      let x : d.senders ≡ total sends (slice_set s.views id w) = omega arith in
      let y : d.receivers ≡ total receives (slice_set s.views id w) = omega arith in
      let p : total sends s.views ≡ 0 → total sends (slice_set s.views id w) ≡ 0 = λ q. sym x ∙ may.3 (n ∙ q) in
      let p' : total receives s.views ≡ 0 → total receives (slice_set s.views id w) ≡ 0 =
      λ q. sym y ∙ may.4 (n' ∙ q) in (
        w,
        gives,
        tt,
        record {
          lock = inl (
            d,
            ap (λ l. slice_set l 0 0) held.1,
            ap (λ c. put_back s.homes c) carried ∙ ap (λ l. slice_set l 0 (some (Some d))) held.2,
            subst (λ (z : Ring T Global). IsDeskOf z d) f.ring may.0,
            (x, y),
            λ j u e. ⊎_elim (λ (t : (j ≡ id) × (w ≡ u)). ap (λ (z : Knows T). z.holds) (sym t.1))
                (λ (t : (j ≢ id) × (get_elem? s.views j ≡ some u)). not_true u.holds (λ on. t.0
                ((held.3.1 j u t.1 on).0 ∙ sym mine.0)))
                (at_set s.views id j w u e),
          );
          fits = fits_set r s k id w (slice_set s.views id w) p p' record {
            ring = f.ring;
            no_sender = λ q. none_is v.no_sender d.senders (λ z. p (f.no_sender z)) (λ z. sym x ∙ z) q;
            no_receiver = λ q. none_is v.no_receiver d.receivers (λ z. p' (f.no_receiver z)) (λ z. sym y ∙ z) q;
          };
        },
        (d, carried, ap (λ c. (w, rest c)) carried),
      ))
      k.lock
    where
      v : Knows T
      v = me.0

      w : Knows T
      w = settled d v

      f : Fits r s.views v
      f = k.fits id v at

      none_is : {P : Type 0} (b : Bool) (m : ℕ) → (b ≡ true → P) → (m ≡ 0 → P) → (b || nat_eq m 0) ≡ true → P
      none_is true m old new q = old refl
      none_is false m old new q = new (eqb-true m 0 q)

  -- ---- an end is split off
  pub parts : (r : Ring T Global) (id : ℕ) (v : Knows T) (a b : ℕ) → a ≤ v.sends → b ≤ v.receives
      → Splits (Keeps r) id v (splits_off a b v) (newcomer v.ring a b)
  parts r id v a b la lb s k at = record {
    lock = ⊎_elim
        (λ (free : IsFree r s). inl (
          free.0,
          free.1,
          free.2,
          free.3,
          (free.4.0 ∙ sym x, free.4.1 ∙ sym y),
          λ j u e. ⊎_elim
              (λ old. ⊎_elim (λ (t : (j ≡ id) × (w ≡ u)). ap (λ (z : Knows T). z.holds) (sym t.1) ∙ free.5 id v at)
              (λ (t : (j ≢ id) × (get_elem? s.views j ≡ some u)). free.5 j u t.1)
              (at_set s.views id j w u old))
              (λ new. ap (λ (z : Knows T). z.holds) (sym new))
              (at_snoc (slice_set s.views id w) n u j e),
        ))
        (λ (held : IsHeld s). inr (
          held.0,
          held.1,
          held.2,
          (
            there held.0 held.3.0,
            λ j u e on. ⊎_elim
                (λ old. ⊎_elim (λ (t : (j ≡ id) × (w ≡ u)).
                let h = held.3.1 id v at (ap (λ (z : Knows T). z.holds) t.1 ∙ on) in (
                  t.0 ∙ h.0,
                  (
                    ap (λ (z : Knows T). z.senders) (sym t.1) ∙ (h.1.0 ∙ sym x),
                    ap (λ (z : Knows T). z.receivers) (sym t.1) ∙ (h.1.1 ∙ sym y),
                  ),
                ))
                (λ (t : (j ≢ id) × (get_elem? s.views j ≡ some u)). let h = held.3.1 j u t.1 on in
                (h.0, (h.1.0 ∙ sym x, h.1.1 ∙ sym y)))
                (at_set s.views id j w u old))
                (λ new. absurd (true≢false (sym on ∙ ap (λ (z : Knows T). z.holds) (sym new))))
                (at_snoc (slice_set s.views id w) n u j e),
          ),
        ))
        k.lock;
    fits = λ j u e. ⊎_elim
        (λ old. fits_set r s k id w ws (λ q. x ∙ q) (λ q. y ∙ q) record {
          ring = f.ring;
          no_sender = λ q. x ∙ f.no_sender q;
          no_receiver = λ q. y ∙ f.no_receiver q;
        } j u old)
        (λ new. subst (λ (z : Knows T). Fits r ws z) new record {
          ring = f.ring;
          no_sender = λ q. absurd (true≢false (sym q));
          no_receiver = λ q. absurd (true≢false (sym q));
        })
        (at_snoc (slice_set s.views id w) n u j e);
  }
    where
      w : Knows T
      w = splits_off a b v

      n : Knows T
      n = newcomer v.ring a b

      ws : List (Knows T)
      ws = slice_set s.views id w ++ n ∷ []

      f : Fits r s.views v
      f = k.fits id v at

      there : (o : ℕ) → Holds s.views o → Holds ws o
      there o h = go (ℕ_discrete o id)
        where
          go : Dec (o ≡ id) → Holds ws o
          go (yes q) =
              let same : v ≡ h.0 = some-injective v h.0
              (sym at ∙ subst (λ (i : ℕ). get_elem? s.views i ≡ some h.0) q h.1) in (
                w,
                at_longer (slice_set s.views id w) (n ∷ []) o w (subst
                    (λ (i : ℕ). get_elem? (slice_set s.views id w) i ≡ some w) (sym q)
                    (set_here s.views id w (below_length s.views id v at))),
                ap (λ (z : Knows T). z.holds) same ∙ h.2,
              )
          go (no ne) = (
            h.0,
            at_longer (slice_set s.views id w) (n ∷ []) o h.0 (set_else s.views id o w ne ∙ h.1),
            h.2,
          )

      x : total sends ws ≡ total sends s.views
      x = let t = total_set sends s.views id v w at in
          let m = total_snoc sends (slice_set s.views id w) n in omega arith

      y : total receives ws ≡ total receives s.views
      y = let t = total_set receives s.views id v w at in
          let m = total_snoc receives (slice_set s.views id w) n in omega arith
