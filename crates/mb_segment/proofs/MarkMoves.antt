-- The store that marks a position, and the look at a mark, keep the rule.
use Rattle.mb_segment.proofs.Base.{Allows, List, Option, Some, ap, arith, get_elem?, gives, homes_after, inl}
use Rattle.mb_segment.proofs.Base.{inr, keeps, length, none, refl, rest, set_else, set_here, slice_index}
use Rattle.mb_segment.proofs.Base.{slice_set, some, some-injective, step, subst, sym, ℕ, ℕ_discrete}
use Rattle.mb_segment.proofs.Base.{⊎_elim, ◌+◌, ◌-◌, ◌<◌, ◌∙◌, ◌∷◌, ◌≡◌, ◌≢◌, ◌≤◌}
use Rattle.mb_segment.specs.Vocabulary.{AreTrue, Claim, Entry, Half, HalfFits, Homes, Keeps, Member, Nothing, Reads}
use Rattle.mb_segment.specs.Vocabulary.{Sat, Spot, Taken, Undrawn, View, Waiting, Waits, Writes, all_entries}
use Rattle.mb_segment.specs.Vocabulary.{drawn, ended, ending, free, seeing_mark, sees_mark}
use Rattle.mb_segment.specs.Vocabulary.{spot}
use Rattle.mb_segment.proofs.Spots.{all_length, below_length, index_at, not_zero, same_some, size_set, state_word}
use Rattle.mb_segment.proofs.Halves.{half_else, no_hub, no_spent, not_both, writes_one}
use Rattle.mb_segment.proofs.Walks.{looked_still, silent}
use Rattle.mb_segment.proofs.Kept.{Goes, Next, St, at_rest, loaded, moved, settled, stays}
use Rattle.mb_segment.proofs.Fitting.{sighted}

-- ---- a mark
module _ {T : Type 0} (s : St T) (k : Keeps s) (n : ℕ) (v w : View T) (at : get_elem? s.views n ≡ some v)
    (p : Spot T)
    (half : v.half ≡ Writes p) (m : ℕ) (is : m ≡ k.names n + 1) where
  abbrev mark_states : List ℕ
  mark_states = slice_set k.states p.at m

  abbrev mark_homes : Homes T
  mark_homes = slice_set s.homes p.at (some (Some p.value))

  writes : HalfFits k.history k.states n (Writes p)
  writes = subst (λ (x : Half T). HalfFits k.history k.states n x) half (k.fits n v at).half

  mark_low : p.at < length k.states
  mark_low = below_length k.states p.at 0 writes.2

  mark_drawn : p.at < drawn k.history
  mark_drawn =
      let b = below_length (all_entries k.history) p.at record { by = n; value = p.value } writes.1 in
      let l = all_length k.history in omega arith

  mark_undrawn : Undrawn k.history mark_states mark_homes
  mark_undrawn j le lt =
      let d = mark_drawn in
      let ne : j ≢ p.at = λ q. omega arith in
      let many = size_set k.states p.at m in
      let u = k.undrawn j le (omega arith) in
      (set_else k.states p.at j m ne ∙ u.0, set_else s.homes p.at j (some (Some p.value)) ne ∙ u.1)

  mark_waits : Waiting k.names k.history (slice_set s.views n w) mark_states mark_homes
  mark_waits j e le e_at = go (ℕ_discrete j p.at)
    where
      go : Dec (j ≡ p.at) → Waits k.names (slice_set s.views n w) mark_states mark_homes j e
      go (yes q) =
          let many = k.sized in let low = mark_low in
          let one : record { by = n; value = p.value } ≡ e = some-injective record { by = n; value = p.value } e
          (sym writes.1 ∙ subst (λ (i : ℕ). get_elem? (all_entries k.history) i ≡ some e) q e_at) in
          inr (
            subst (λ (i : ℕ). get_elem? mark_states i ≡ some (k.names e.by + 1)) (sym q)
                (set_here k.states p.at m low ∙ ap some is ∙ ap (λ (y : Entry T). some (k.names y.by + 1)) one),
            subst (λ (i : ℕ). get_elem? mark_homes i ≡ some (some (Some e.value))) (sym q)
                (set_here s.homes p.at (some (Some p.value)) (omega arith) ∙ ap
                (λ (y : Entry T). some (some (Some y.value))) one),
          )
      go (no ne) = ⊎_elim
          (λ z. inl (
            set_else k.states p.at j m ne ∙ z.0,
            half_else s.views n v w at e.by (Writes (spot j e.value))
                (λ same_. ne (sym (writes_one v.half p (spot j e.value) half same_))) z.1,
          ))
          (λ z. inr (set_else k.states p.at j m ne ∙ z.0, set_else s.homes p.at j (some (Some p.value)) ne ∙ z.1))
          (k.waits j e le e_at)

  mark_taken : Taken k.names k.history (slice_set s.views n w) mark_states mark_homes
  mark_taken j c c_at =
      let b = below_length k.history.claims j c c_at in
      let le = writes.0 in
      let ne : j ≢ p.at = λ q. omega arith in
      ⊎_elim
      (λ z. inl (
        set_else k.states p.at j m ne ∙ z.0,
        half_else s.views n v w at c.to (Reads (spot j c.entry.value))
            (λ same_. not_both v.half p (spot j c.entry.value) half same_) z.1,
      ))
      (λ z. inr (set_else k.states p.at j m ne ∙ z.0, set_else s.homes p.at j (some (Some p.value)) ne ∙ z.1))
      (k.taken_ j c c_at)

  -- what another has begun is at another position
  mark_halves : (j : ℕ) (x : Half T) → j ≢ n → HalfFits k.history k.states j x → HalfFits k.history mark_states j x
  mark_halves j Nothing apart f = tt
  mark_halves j (Writes r) apart f =
      let ne : r.at ≢ p.at = λ q. apart (ap (λ (y : Entry T). y.by)
      (some-injective record { by = j; value = r.value }
      record { by = n; value = p.value }
      (sym f.1 ∙ (ap (λ (i : ℕ). get_elem? (all_entries k.history) i) q ∙ writes.1)))) in
      (f.0, f.1, set_else k.states p.at r.at m ne ∙ f.2)
  mark_halves j (Reads r) apart f =
      let c : Claim T = record { entry = record { by = f.0.0; value = r.value }; to = j } in
      let b = below_length k.history.claims r.at c f.0.1 in
      let le = writes.0 in
      let ne : r.at ≢ p.at = λ q. omega arith in
      (f.0, (f.1.0, set_else k.states p.at r.at m ne ∙ f.1.1, f.1.2, f.1.3))

  mark_marks : (j : ℕ) → get_elem? k.states j ≢ some 0 → get_elem? mark_states j ≢ some 0
  mark_marks j ne = go (ℕ_discrete j p.at)
    where
      go : Dec (j ≡ p.at) → get_elem? mark_states j ≢ some 0
      go (yes q) = λ z. not_zero mark_states p.at m (omega arith) (set_here k.states p.at m mark_low)
          (subst (λ (i : ℕ). get_elem? mark_states i ≡ some 0) q z)
      go (no apart) = λ z. ne (sym (set_else k.states p.at j m apart) ∙ z)

module _ {T : Type 0} where
  pub marks : (slots n : ℕ) (me : Sat T) (i m : ℕ) (p : Spot T) → i ≡ p.at + 17 → m ≡ me.0.account.name + 1
      → me.0.role ≡ Member → me.0.half ≡ Writes p → me.1 ≡ (p.at, Some p.value) ∷ rest me.1
      → Allows Keeps slots n me i (λ _. m) (λ _. ending (step slots i m 0 none) me m)
  marks slots n me i m p is named role half held s k homes at small =
      let v = me.0 in
      let w = ended v in
      let fit = k.fits n v at in
      let ii : i ≡ state_word p.at = omega arith in
      let given : homes_after s.homes me.1 gives ≡ slice_set s.homes p.at (some (Some p.value))
      = ap (λ (c : List (ℕ × Option T)). homes_after s.homes c gives) held in
      let tells : m ≡ k.names n + 1 = named ∙ ap (λ (c : ℕ). c + 1) ((k.called n v at).0 role) in
      let many₀ = size_set k.states p.at m in
      let many₁ = size_set s.homes p.at (some (Some p.value)) in
      let many = k.sized in
      let in_ = k.within in
      let x' : Next T = record {
        history = k.history;
        words = slice_set s.words i m;
        states = mark_states s k n v w at p half m tells;
        homes = mark_homes s k n v w at p half m tells;
        tokens = k.tokens;
        waiting = k.waiting;
        cut = k.cut;
        walk = k.walk;
      } in (
        w,
        gives,
        tt,
        subst (λ (hs : Homes T). Keeps record {
          words = slice_set s.words i m;
          homes = hs;
          views = slice_set
              s.views n w;
        }) (sym given)
            (moved s k n v w x' at record {
              words = λ r. slice_set (k.words r) (ii r) m;
              narrow = k.narrow;
              sized = omega arith;
              as_many = omega arith;
              within = omega arith;
              drawn_ = omega arith;
              more = omega arith;
              cut_ = omega arith;
              cutter = k.cutter;
              marks = mark_marks s k n v w at p half m tells;
              undrawn = mark_undrawn s k n v w at p half m tells;
              waits = mark_waits s k n v w at p half m tells;
              taken_ = mark_taken s k n v w at p half m tells;
              counted = omega arith;
              given = refl;
              over = λ f e. (ap (λ (l : ℕ). free k.cut (l - drawn k.history)) many₀ ∙ f, e);
              card = refl;
              out_ = refl;
              same = λ j ne. (refl, refl, refl);
              idle = k.idle;
              roll = λ as_ c. c;
              halves = mark_halves s k n v w at p half m tells;
              own = record {
                member = λ r. let c = fit.member r in record
                    { sent = c.sent; got = c.got; cut = c.cut; no_hub = c.no_hub; not_back = c.not_back };
                hub_ = λ r. absurd (no_hub v.role role r);
                back = λ r. absurd (no_spent v.role role r);
                debt = λ no_. absurd (no_ role);
                half = tt;
                low = fit.low;
                ripe = λ j e. let r = fit.ripe j e in (omega arith, mark_marks s k n v w at p half m tells j r.1, r.2);
                full = λ e. let f = fit.full e in omega arith;
                cut_ = fit.cut_;
                empty = fit.empty;
                heard = fit.heard;
                over = λ e. let f = fit.over e in (
                  ap (λ (l : ℕ). free k.cut (l - drawn k.history)) many₀
                      ∙ f.0,
                  f.1,
                );
              };
              walk = silent k.walk k.history (length (slice_set k.states p.at m)) n w
                  (looked_still s k n v w at refl (refl, refl, refl)) k.walked
                  (subst (λ (l : ℕ). AreTrue l k.walk) (sym many₀) k.true_);
              laws = λ L O C L' O' C' l o c le q h. (
                ⊎_elim (λ y. inl (omega arith)) (λ y. inr (omega arith)) q,
                ⊎_elim (λ y. inl (omega arith)) (λ y. inr
                    (let e : free k.cut (length (slice_set k.states p.at m) - drawn k.history)
                    ≡ free k.cut (length k.states - drawn k.history) = ap
                    (λ (l : ℕ). free k.cut (l - drawn k.history)) many₀ in omega arith)) h,
              );
            }),
        (refl, refl),
      )

-- ---- a look at a mark
module _ {T : Type 0} where
  sees_at : (slots n : ℕ) (me : Sat T) (i p : ℕ) → i ≡ p + 17 → p < slots → p ≤ me.0.sight.low → (s : St T)
      (k : Keeps s)
      → length s.homes ≡ slots
      → get_elem? s.views n ≡ some me.0 → Dec (slice_index s.words i ≡ 0)
      → Goes s i n me (seeing_mark p (step slots i 0 0 none) me) (slice_index s.words i)
  sees_at slots n me i p is room low s k homes at (yes none_) =
      (me.0, keeps, tt, stays s k i n me.0 at me.1, ((λ ne. absurd (ne none_)), λ _. (refl, refl)))
  sees_at slots n me i p is room low s k homes at (no some_) =
      let many = k.sized in
      let fit = k.fits n me.0 at in
      let ii : i ≡ state_word p = omega arith in
      let same_ : slice_index s.words i ≡ slice_index k.states p = λ r. slice_index (k.words r) (ii r) in (
        sees_mark p me.0,
        keeps,
        tt,
        loaded s i n me.1 (sees_mark p me.0) (settled s k n me.0 (sees_mark p me.0) at refl refl refl refl refl
            (refl, refl, refl)
            (sighted k.history k.states k.cut k.hub k.roll n me.0 record me.0.sight { ripe = Some p } fit fit.low
            (λ j e. let q : p ≡ j = same_some p j e in (
              omega arith,
              (λ z. some_ (same_ ∙ (index_at k.states p 0
                  (subst (λ (y : ℕ). get_elem? k.states y ≡ some 0) (sym q) z)))),
              (let l = fit.low in omega arith),
            ))
            fit.full fit.cut_ fit.empty)
            (at_rest s k me.0 (sees_mark p me.0) refl)),
        ((λ _. (refl, refl)), λ e. absurd (some_ e)),
      )

  pub sees_marks : (slots n : ℕ) (me : Sat T) (i p : ℕ) → i ≡ p + 17 → p < slots → p ≤ me.0.sight.low
      → Allows Keeps slots n me i (λ r. r) (seeing_mark p (step slots i 0 0 none) me)
  sees_marks slots n me i p is room low s k homes at small =
      sees_at slots n me i p is room low s k homes at (ℕ_discrete (slice_index s.words i) 0)
