-- The step that says that a position is read keeps the rule.
use Rattle.mb_segment.proofs.Base.{Allows, List, None, Option, ap, arith, get_elem?, gives, homes_after, inl}
use Rattle.mb_segment.proofs.Base.{inr, length, none, refl, rest, set_again, set_else, set_here, slice_index, slice_set}
use Rattle.mb_segment.proofs.Base.{some, some-injective, step, subst, sym, ℕ, ℕ_discrete, ⊎_elim}
use Rattle.mb_segment.proofs.Base.{◌%◌, ◌*◌, ◌+◌, ◌-◌, ◌<◌, ◌∙◌, ◌∷◌, ◌≡◌, ◌≢◌}
use Rattle.mb_segment.specs.Vocabulary.{AreTrue, Claim, Half, HalfFits, Homes, IsTaken, Keeps, Member, Nothing, Reads, Sat}
use Rattle.mb_segment.specs.Vocabulary.{Spot, Taken, Undrawn, View, Waiting, Writes, drawn, ended, ending, free, row, spot, taken}
use Rattle.mb_segment.proofs.Spots.{below_length, index_at, not_zero, size_set, state_word}
use Rattle.mb_segment.proofs.Halves.{half_else, no_hub, no_spent, not_both, reads_one}
use Rattle.mb_segment.proofs.Walks.{looked_still, silent}
use Rattle.mb_segment.proofs.Kept.{Next, St, loaded, moved, now}

module _ {T : Type 0} (s : St T) (k : Keeps s) (n : ℕ) (v w : View T) (at : get_elem? s.views n ≡ some v)
    (p : Spot T)
    (half : v.half ≡ Reads p) where
  reads : HalfFits k.history k.states n (Reads p)
  reads = subst (λ (x : Half T). HalfFits k.history k.states n x) half (k.fits n v at).half

  abbrev by : ℕ
  by = reads.0.0

  abbrev claim : Claim T
  claim = record { entry = record { by = by; value = p.value }; to = n }

  -- the state names the sender alone, and then the reader too
  was : get_elem? k.states p.at ≡ some (k.names by + 1)
  was = ⊎_elim (λ z. z.0)
      (λ z. let e : reads.1.0 ≡ k.names by + 1 + 4294967296 * k.names n
      = some-injective reads.1.0 (k.names by + 1 + 4294967296 * k.names n) (sym reads.1.1 ∙ z.0) in
      let narrow = reads.1.3 in
      let same_ : reads.1.0 ≡ k.names by + 1 = omega arith in
      reads.1.1 ∙ ap some same_)
      (k.taken_ p.at claim reads.0.1)

  abbrev said : ℕ
  said = k.names by + 1 + 4294967296 * k.names n

  abbrev read_states : List ℕ
  read_states = slice_set k.states p.at said

  abbrev read_homes : Homes T
  read_homes = slice_set s.homes p.at (some None)

  read_low : p.at < length k.states
  read_low = below_length k.states p.at (k.names by + 1) was

  read_taken_ : p.at < taken k.history
  read_taken_ = below_length k.history.claims p.at claim reads.0.1

  read_undrawn : Undrawn k.history read_states read_homes
  read_undrawn j le lt =
      let d = read_taken_ in
      let ne : j ≢ p.at = λ q. omega arith in
      let many = size_set k.states p.at said in
      let u = k.undrawn j le (omega arith) in
      (set_else k.states p.at j said ne ∙ u.0, set_else s.homes p.at j (some None) ne ∙ u.1)

  read_waits : Waiting k.names k.history (slice_set s.views n w) read_states read_homes
  read_waits j e le e_at =
      let d = read_taken_ in
      let ne : j ≢ p.at = λ q. omega arith in
      ⊎_elim
      (λ z. inl (
        set_else k.states p.at j said ne ∙ z.0,
        half_else s.views n v w at e.by (Writes (spot j e.value))
            (λ same_. not_both v.half (spot j e.value) p same_ half) z.1,
      ))
      (λ z. inr (set_else k.states p.at j said ne ∙ z.0, set_else s.homes p.at j (some None) ne ∙ z.1))
      (k.waits j e le e_at)

  read_taken : Taken k.names k.history (slice_set s.views n w) read_states read_homes
  read_taken j c c_at = go (ℕ_discrete j p.at)
    where
      go : Dec (j ≡ p.at) → IsTaken k.names (slice_set s.views n w) read_states read_homes j c
      go (yes q) =
          let low = read_low in let many = k.sized in
          let one : claim ≡ c = some-injective claim c
          (sym reads.0.1 ∙ subst (λ (i : ℕ). get_elem? k.history.claims i ≡ some c) q c_at) in
          inr (subst
          (λ (y : ℕ × Claim T).
          (get_elem? read_states y.0 ≡ some (k.names y.1.entry.by + 1 + 4294967296 * k.names y.1.to))
          × (get_elem? read_homes y.0 ≡ some (some None)))
          (λ i. (sym q i, one i))
          (set_here k.states p.at said low, set_here s.homes p.at (some None) (omega arith)))
      go (no ne) = ⊎_elim
          (λ z. inl (
            set_else k.states p.at j said ne ∙ z.0,
            half_else s.views n v w at c.to (Reads (spot j c.entry.value))
                (λ same_. ne (sym (reads_one v.half p (spot j c.entry.value) half same_))) z.1,
          ))
          (λ z. inr (set_else k.states p.at j said ne ∙ z.0, set_else s.homes p.at j (some None) ne ∙ z.1))
          (k.taken_ j c c_at)

  -- what another has begun is at another position
  read_halves : (j : ℕ) (x : Half T) → j ≢ n → HalfFits k.history k.states j x → HalfFits k.history read_states j x
  read_halves j Nothing apart f = tt
  read_halves j (Writes r) apart f =
      let ne : r.at ≢ p.at = λ q. not_zero k.states p.at (k.names by + 1) (omega arith) was
      (subst (λ (i : ℕ). get_elem? k.states i ≡ some 0) q f.2) in
      (f.0, f.1, set_else k.states p.at r.at said ne ∙ f.2)
  read_halves j (Reads r) apart f =
      let ne : r.at ≢ p.at = λ q. apart (ap (λ (c : Claim T). c.to)
      (some-injective record { entry = record { by = f.0.0; value = r.value }; to = j } claim
      (sym f.0.1 ∙ (ap (λ (i : ℕ). get_elem? k.history.claims i) q ∙ reads.0.1)))) in
      (f.0, (f.1.0, set_else k.states p.at r.at said ne ∙ f.1.1, f.1.2, f.1.3))

  read_marks : (j : ℕ) → get_elem? k.states j ≢ some 0 → get_elem? read_states j ≢ some 0
  read_marks j ne = go (ℕ_discrete j p.at)
    where
      go : Dec (j ≡ p.at) → get_elem? read_states j ≢ some 0
      go (yes q) = λ z. not_zero read_states p.at said (omega arith) (set_here k.states p.at said read_low)
          (subst (λ (i : ℕ). get_elem? read_states i ≡ some 0) q z)
      go (no apart) = λ z. ne (sym (set_else k.states p.at j said apart) ∙ z)

-- the state of a position that is read now
module _ {T : Type 0} (s : St T) (k : Keeps s) (n : ℕ) (v : View T) (at : get_elem? s.views n ≡ some v)
    (role : v.role ≡ Member) (p : Spot T) (half : v.half ≡ Reads p) where
  abbrev then : List ℕ
  then = slice_set s.words (state_word p.at) (said s k n v (ended v) at p half)

  read : Keeps record {
    words = then;
    homes = read_homes s k n v (ended v) at p half;
    views = slice_set s.views n (ended v);
  }
  read =
      let w = ended v in
      let fit = k.fits n v at in
      let x = said s k n v w at p half in
      let many₀ = size_set k.states p.at x in
      let many₁ = size_set s.homes p.at (some None) in
      let many = k.sized in
      let in_ = k.within in
      let x' : Next T = record (now s k) {
        words = then;
        states = read_states s k n v w at p half;
        homes = read_homes s k n v w at p half;
      } in
      moved s k n v w x' at record {
        words = λ r. slice_set (k.words r) (state_word p.at) x;
        narrow = k.narrow;
        sized = omega arith;
        as_many = omega arith;
        within = omega arith;
        drawn_ = omega arith;
        more = omega arith;
        cut_ = omega arith;
        cutter = k.cutter;
        marks = read_marks s k n v w at p half;
        undrawn = read_undrawn s k n v w at p half;
        waits = read_waits s k n v w at p half;
        taken_ = read_taken s k n v w at p half;
        counted = omega arith;
        given = refl;
        over = λ f e. (ap (λ (l : ℕ). free k.cut (l - drawn k.history)) many₀ ∙ f, e);
        card = refl;
        out_ = refl;
        same = λ j ne. (refl, refl, refl);
        idle = k.idle;
        roll = λ as_ m. m;
        halves = read_halves s k n v w at p half;
        own = record {
          member = λ r. let m = fit.member r in record
              { sent = m.sent; got = m.got; cut = m.cut; no_hub = m.no_hub; not_back = m.not_back };
          hub_ = λ r. absurd (no_hub v.role role r);
          back = λ r. absurd (no_spent v.role role r);
          debt = λ no_. absurd (no_ role);
          half = tt;
          low = fit.low;
          ripe = λ j e. let r = fit.ripe j e in (omega arith, read_marks s k n v w at p half j r.1, r.2);
          full = λ e. let f = fit.full e in omega arith;
          cut_ = fit.cut_;
          empty = fit.empty;
          heard = fit.heard;
          over = λ e. let f = fit.over e in
              (ap (λ (l : ℕ). free k.cut (l - drawn k.history)) many₀ ∙ f.0, f.1);
        };
        walk = silent k.walk k.history (length (slice_set k.states p.at x)) n w
            (looked_still s k n v w at refl (refl, refl, refl)) k.walked
            (subst (λ (l : ℕ). AreTrue l k.walk) (sym many₀) k.true_);
        laws = λ L O C L' O' C' l o c le q h. (
          ⊎_elim (λ y. inl (omega arith)) (λ y. inr (omega arith)) q,
          ⊎_elim (λ y. inl (omega arith)) (λ y. inr
              (let e : free k.cut (length (slice_set k.states p.at x) - drawn k.history)
              ≡ free k.cut (length k.states - drawn k.history) = ap
              (λ (l : ℕ). free k.cut (l - drawn k.history)) many₀ in omega arith)) h,
        );
      }

  -- without a name the state stays as it was
  unsaid : v.account.name ≡ 0 → then ≡ s.words
  unsaid nameless =
      let x = said s k n v (ended v) at p half in
      let b = k.names (by s k n v (ended v) at p half) + 1 in
      let none_ : k.names n ≡ 0 = sym ((k.called n v at).0 role) ∙ nameless in
      let same_ : x ≡ b = omega arith in
      (λ r. slice_set (k.words r) (state_word p.at) x)
      ∙ (ap (λ (ss : List ℕ). row (drawn k.history + 9223372036854775808 * k.cut) (taken k.history)
      (k.tokens + 4294967296 * k.waiting) ss)
      (ap (λ (y : ℕ). slice_set k.states p.at y) same_ ∙ set_again k.states p.at b (was s k n v (ended v) at p half))
      ∙ sym k.words)

  -- with one, the sum is that of the sender's name and the reader's
  sums : (i r : ℕ) → i ≡ p.at + 17 → r ≡ slice_index s.words i
      → (r + 4294967296 * v.account.name) % 18446744073709551616 ≡ said s k n v (ended v) at p half
  sums i r is found =
      let b = k.names (by s k n v (ended v) at p half) in
      let now_ : slice_index s.words (state_word p.at) ≡ b + 1 = (λ j. slice_index (k.words j) (state_word p.at))
      ∙ index_at k.states p.at (b + 1) (was s k n v (ended v) at p half) in
      let ii : i ≡ state_word p.at = omega arith in
      let here : r ≡ b + 1 = found ∙ (ap (λ (j : ℕ). slice_index s.words j) ii ∙ now_) in
      let mine = (k.called n v at).0 role in
      let f = k.short (by s k n v (ended v) at p half) in let g = k.short n in omega arith

module _ {T : Type 0} where
  -- the words and slots after the step
  abbrev ends_with : St T → ℕ → View T → List ℕ → Homes T → St T
  ends_with s n w ws hs = record { words = ws; homes = hs; views = slice_set s.views n w }

  after_read : (s : St T) (n : ℕ) (me : Sat T) (p : Spot T) (ws : List ℕ) → me.1 ≡ (p.at, None) ∷ rest me.1
      → Keeps (ends_with s n (ended me.0) ws (slice_set s.homes p.at (some None)))
      → Keeps (ends_with s n (ended me.0) ws (homes_after s.homes me.1 gives))
  after_read s n me p ws held = subst (λ (hs : Homes T). Keeps (ends_with s n (ended me.0) ws hs))
      (sym (ap (λ (c : List (ℕ × Option T)). homes_after s.homes c gives) held))

  pub reads_end : (slots n : ℕ) (me : Sat T) (i : ℕ) (p : Spot T) → me.0.role ≡ Member → me.0.half ≡ Reads p
      → me.1 ≡ (p.at, None) ∷ rest me.1 → me.0.account.name ≡ 0
      → Allows Keeps slots n me i (λ r. r) (ending (step slots i 0 0 none) me)
  reads_end slots n me i p role half held nameless s k homes at small =
      let same_ = unsaid s k n me.0 at role p half nameless in (
        ended me.0,
        gives,
        tt,
        after_read s n me p (slice_set s.words i (slice_index s.words i)) held
            (loaded record s { homes = slice_set s.homes p.at (some None) } i n me.1 (ended me.0)
            (subst (λ (ws : List ℕ). Keeps (ends_with s n (ended me.0) ws (slice_set s.homes p.at (some None))))
            same_ (read s k n me.0 at role p half))),
        (refl, refl),
      )

  pub reads_say : (slots n : ℕ) (me : Sat T) (i m : ℕ) (p : Spot T) → i ≡ p.at + 17
      → m ≡ 4294967296 * me.0.account.name → me.0.role ≡ Member → me.0.half ≡ Reads p
      → me.1 ≡ (p.at, None) ∷ rest me.1
      → Allows Keeps slots n me i (λ r. (r + m) % 18446744073709551616) (ending (step slots i m 0 none) me)
  reads_say slots n me i m p is named role half held s k homes at small =
      let r = slice_index s.words i in
      let ii : state_word p.at ≡ i = omega arith in
      let sum_ : said s k n me.0 (ended me.0) at p half ≡ (r + m) % 18446744073709551616
      = sym (sums s k n me.0 at role p half i r is refl)
      ∙ ap (λ (y : ℕ). (r + y) % 18446744073709551616) (sym named) in (
        ended me.0,
        gives,
        tt,
        after_read s n me p (slice_set s.words i ((r + m) % 18446744073709551616)) held
            (subst (λ (ws : List ℕ). Keeps (ends_with s n (ended me.0) ws (slice_set s.homes p.at (some None))))
            (λ j. slice_set s.words (ii j) (sum_ j)) (read s k n me.0 at role p half)),
        (refl, refl),
      )
