-- The store that marks a position keeps the rule.
use Rattle.mb_ring.proofs.Base.{Allows, List, None, Option, Some, ap, arith, get_elem?, gives, homes_after, inl, inr, none, refl, rest}
use Rattle.mb_ring.proofs.Base.{set_else, set_here, slice_set, some, some-injective, step, subst, suc, sym, ℕ, ℕ_discrete, ⊎_elim}
use Rattle.mb_ring.proofs.Base.{◌%◌, ◌*◌, ◌+◌, ◌<◌, ◌∙◌, ◌∷◌, ◌≡◌, ◌≢◌, ◌≤◌, ◌⊎◌}
use Rattle.std.proofs.lemmas.Nat.{mod_below}
use Rattle.mb_segment.proofs.Spots.{all_length, below_length, size_set}
use Rattle.mb_segment.proofs.Halves.{no_hub, no_spent, not_both, writes_one}
use Rattle.mb_ring.specs.Vocabulary.{Entry, Half, HalfFits, Homes, IsTaken, Keeps, Member, Nothing, Reads, Sat, Spot, Taken, Undrawn}
use Rattle.mb_ring.specs.Vocabulary.{View, Waiting, Waits, Writes, all_entries, drawn, ended, ending, spot, turn}
use Rattle.mb_ring.proofs.Turns.{next_lap, one_slot, turn_else, turn_here}
use Rattle.mb_ring.proofs.Halves.{half_else}
use Rattle.mb_ring.proofs.Kept.{Next, St, at_rest, moved, no_event}
use Rattle.mb_ring.proofs.Loads.{resized, steps}

-- pass i marks the position that it drew: the turn is then 2 p + 1
module _ {T : Type 0} (s : St T) (k : Keeps s) (i : ℕ) (v w : View T) (at : get_elem? s.views i ≡ some v)
    (p : Spot T) (half : v.half ≡ Writes p) (y : ℕ) (y_is : y + 2 * (p.at % k.size) ≡ 2 * p.at + 1) where
  abbrev mark_states : List ℕ
  mark_states = slice_set k.states (p.at % k.size) y

  abbrev mark_homes : Homes T
  mark_homes = slice_set s.homes (p.at % k.size) (some (Some p.value))

  writes : HalfFits k.history k.size k.states i (Writes p)
  writes = subst (λ (x : Half T). HalfFits k.history k.size k.states i x) half (k.fits i v at).half

  mark_drawn : p.at < drawn k.history
  mark_drawn =
      let b = below_length (all_entries k.history) p.at record { by = i; value = p.value } writes.1 in
      let l = all_length k.history in omega arith

  here : (j : ℕ) → j % k.size ≡ p.at % k.size
      → (turn k.size k.states j ≡ 2 * p.at) × (turn k.size mark_states j ≡ 2 * p.at + 1)
  here j q = (
    one_slot k.size k.states j p.at q ∙ writes.2,
    turn_here k.size k.states p.at j y (2 * p.at + 1) k.sized.2 k.sized.0 y_is q,
  )

  else_ : (j : ℕ) → j % k.size ≢ p.at % k.size → turn k.size mark_states j ≡ turn k.size k.states j
  else_ j ne = turn_else k.size k.states p.at j y ne

  mark_undrawn : Undrawn k.history k.size mark_states mark_homes
  mark_undrawn j le lt = go (ℕ_discrete (j % k.size) (p.at % k.size))
    where
      go : Dec (j % k.size ≡ p.at % k.size)
          → ((turn k.size mark_states j ≡ 2 * j) × (get_elem? mark_homes (j % k.size) ≡ some (some None)))
          ⊎ ((k.size ≤ j) × (turn k.size mark_states j < 2 * j))
      go (yes q) = let d = mark_drawn in let h = (here j q).1 in
          let far = next_lap k.size p.at j (sym q) (omega arith) in inr (omega arith, omega arith)
      go (no ne) = let e = else_ j ne in ⊎_elim
          (λ z. inl (e ∙ z.0, set_else s.homes (p.at % k.size) (j % k.size) (some (Some p.value)) ne ∙ z.1))
          (λ z. let l = z.1 in inr (z.0, omega arith))
          (k.undrawn j le lt)

  mark_waits : Waiting k.history (slice_set s.views i w) k.size mark_states mark_homes
  mark_waits j e le e_at = go (ℕ_discrete (j % k.size) (p.at % k.size))
    where
      go : Dec (j % k.size ≡ p.at % k.size) → Waits (slice_set s.views i w) k.size mark_states mark_homes j e
      go (yes q) =
          let h = (here j q).0 in
          let same_ : j ≡ p.at = ⊎_elim (λ z. let l = z.0 in omega arith) (λ z. let l = z.0 in absurd (omega arith))
          (k.waits j e le e_at) in
          let one : record { by = i; value = p.value } ≡ e = some-injective record { by = i; value = p.value } e
          (sym writes.1 ∙ subst (λ (m : ℕ). get_elem? (all_entries k.history) m ≡ some e) same_ e_at) in
          let many = k.sized.1 in
          let low = mod_below p.at k.size k.sized.2 in
          let h' = (here j q).1 in
          inr (
            omega arith,
            subst (λ (m : ℕ). get_elem? mark_homes m ≡ some (some (Some e.value))) (sym q)
                (set_here s.homes (p.at % k.size) (some (Some p.value)) (omega arith) ∙ ap
                (λ (z : Entry T). some (some (Some z.value))) one),
          )
      go (no ne) = let e_ = else_ j ne in ⊎_elim
          (λ z. inl (
            e_ ∙ z.0,
            half_else s.views i v w at e.by (Writes (spot j e.value))
                (λ same_. ne (ap (λ (m : ℕ). m % k.size)
                (sym (writes_one v.half p (spot j e.value) half same_)))) z.1,
          ))
          (λ z. inr (e_ ∙ z.0, set_else s.homes (p.at % k.size) (j % k.size) (some (Some p.value)) ne ∙ z.1))
          (k.waits j e le e_at)

  mark_taken : Taken k.history (slice_set s.views i w) k.size mark_states
  mark_taken j c c_at = go (ℕ_discrete (j % k.size) (p.at % k.size))
    where
      go : Dec (j % k.size ≡ p.at % k.size) → IsTaken (slice_set s.views i w) k.size mark_states j c
      go (yes q) = let h = (here j q).0 in let h' = (here j q).1 in
          ⊎_elim (λ z. let l = z.0 in absurd (omega arith)) (λ z. inr (omega arith)) (k.taken_ j c c_at)
      go (no ne) = let e_ = else_ j ne in ⊎_elim
          (λ z. inl (
            e_ ∙ z.0,
            half_else s.views i v w at c.to
                (Reads (spot j c.entry.value))
                (λ same_. not_both v.half p (spot j c.entry.value) half same_) z.1,
          ))
          (λ z. inr (omega arith)) (k.taken_ j c c_at)

  -- what another has begun is in another slot
  mark_halves : (j : ℕ) (x : Half T) → j ≢ i → HalfFits k.history k.size k.states j x
      → HalfFits k.history k.size mark_states j x
  mark_halves j Nothing apart f = tt
  mark_halves j (Writes r) apart f =
      let ne : r.at % k.size ≢ p.at % k.size = λ q. (
      let h = (here r.at q).0 in
      let l = f.2 in
      let same_ : r.at ≡ p.at = omega arith in
      apart (ap (λ (z : Entry T). z.by)
      (some-injective record { by = j; value = r.value }
      record { by = i; value = p.value }
      (sym f.1 ∙ (ap (λ (m : ℕ). get_elem? (all_entries k.history) m) same_ ∙ writes.1))))
      ) in
      (f.0, f.1, else_ r.at ne ∙ f.2)
  mark_halves j (Reads r) apart f =
      let ne : r.at % k.size ≢ p.at % k.size = λ q. (let h = (here r.at q).0 in let l = f.1 in omega arith) in
      (f.0, else_ r.at ne ∙ f.1)

  mark_turns : (j : ℕ) → turn k.size k.states j ≤ turn k.size mark_states j
  mark_turns j = go (ℕ_discrete (j % k.size) (p.at % k.size))
    where
      go : Dec (j % k.size ≡ p.at % k.size) → turn k.size k.states j ≤ turn k.size mark_states j
      go (yes q) = let h = (here j q).0 in let h' = (here j q).1 in omega arith
      go (no ne) = let e = else_ j ne in omega arith

module _ {T : Type 0} where
  pub marks : (slots i : ℕ) (me : Sat T) (j y : ℕ) (p : Spot T) → j ≡ p.at % slots + 4
      → y + 2 * (p.at % slots) ≡ 2 * p.at + 1 → me.0.role ≡ Member → me.0.half ≡ Writes p
      → me.1 ≡ (p.at % slots, Some p.value) ∷ rest me.1
      → Allows Keeps slots i me j (λ _. y) (λ _. ending (step slots j y 0 none) me y)
  marks slots i me j y p is y_is role half held = steps slots i me j (λ _. y) (λ _. ending (step slots j y 0 none) me y)
      (λ s k₀ many at.
      let k = resized s k₀ slots many in
      let v = me.0 in
      let w = ended v in
      let fit = k.fits i v at in
      let jj : j ≡ suc (suc (suc (suc (p.at % slots)))) = omega arith in
      let given : homes_after s.homes me.1 gives ≡ slice_set s.homes (p.at % slots) (some (Some p.value))
      = ap (λ (c : List (ℕ × Option T)). homes_after s.homes c gives) held in
      let m₀ = size_set k.states (p.at % slots) y in
      let m₁ = size_set s.homes (p.at % slots) (some (Some p.value)) in
      let x' : Next T = record {
        history = k.history;
        words = slice_set s.words j y;
        states = mark_states s k i v w at p half y y_is;
        homes = mark_homes s k i v w at p half y y_is;
        tokens = k.tokens;
        waiting = k.waiting;
        cut = k.cut;
        walk = k.walk;
      } in
      let t = mark_turns s k i v w at p half y y_is in (
        w,
        gives,
        tt,
        subst (λ (hs : Homes T). Keeps record {
          words = slice_set s.words j y;
          homes = hs;
          views = slice_set s.views i w;
        }) (sym given)
            (moved s k i v w x' at record {
              words = λ z. slice_set (k.words z) (jj z) y;
              narrow = λ q. (k.lists q).narrow;
              counted = λ q. refl;
              given = λ q. refl;
              laws = at_rest s k v w x' refl refl refl refl;
              sized = (m₀ ∙ k.sized.0, m₁ ∙ k.sized.1);
              small = k.small;
              within = k.within;
              drawn_ = omega arith;
              more = omega arith;
              cut_ = omega arith;
              cutter = k.cutter;
              turns = t;
              undrawn = mark_undrawn s k i v w at p half y y_is;
              waits = mark_waits s k i v w at p half y y_is;
              taken_ = mark_taken s k i v w at p half y y_is;
              frozen = λ _. omega arith;
              over = λ f e. e;
              role = refl;
              out_ = refl;
              same = λ j ne. (refl, refl, refl);
              idle = k.idle;
              roll = λ as_ m. m;
              halves = mark_halves s k i v w at p half y y_is;
              walk = no_event s k i v w at refl refl;
              own = record {
                member = λ r. let m = fit.member r in record
                    { sent = m.sent; got = m.got; cut = m.cut; no_hub = m.no_hub; not_back = m.not_back };
                hub_ = λ r. absurd (no_hub v.role role r);
                back = λ r. absurd (no_spent v.role role r);
                debt = λ no_. absurd (no_ role);
                half = tt;
                sight = let f = fit.sight in record {
                  low = f.low;
                  top = f.top;
                  room = λ j e. let r = f.room j e in let t' = t j in omega arith;
                  ripe = λ j e. let r = (f.ripe j e).1 in let t' = t j in ((f.ripe j e).0, omega arith);
                  cut_ = f.cut_;
                  empty = f.empty;
                  full = f.full;
                };
                heard = fit.heard;
                over = fit.over;
                last = fit.last;
              };
            }),
        (refl, refl),
      ))
