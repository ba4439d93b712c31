-- A new segment meets the rule. The hub issues passes, and the rule holds.
use Rattle.mb_segment.proofs.Base.{List, None, Splits, [], ap, arith, at_longer, at_set, eq-eqb, false, get_elem?}
use Rattle.mb_segment.proofs.Base.{Bool, if◌then◌else◌, inl, inr, length, nat_eq, ne_eqb, opening, refl, replicate, slice_set, some}
use Rattle.mb_segment.proofs.Base.{some-ne-none, subst, sym, true, true≢false, ℕ, ⊎_elim}
use Rattle.mb_segment.proofs.Base.{◌*◌, ◌++◌, ◌+◌, ◌<◌, ◌∙◌, ◌∷◌, ◌≡◌, ◌≢◌, ◌≤◌}
use Rattle.mb_segment.specs.Vocabulary.{Fits, Half, HasHalf, HasLooked, History, In, IsCalled, IsMember, Issuer, Keeps}
use Rattle.mb_segment.specs.Vocabulary.{Match, Member, Reads, Role, Spent, Taken, View, Waiting, Writes, blank, closing, if_hub}
use Rattle.mb_segment.specs.Vocabulary.{issued, listed, member, named, new_hub, out, owed, row, sleeping, spot, tokens_given, tokens_taken}
use Rattle.mb_segment.proofs.Totals.{first_is, length_set, length_snoc, snoc_cases, there, total_set, total_snoc}
use Rattle.mb_segment.proofs.Spots.{entry_of, map_length, no_some, replicate_at, replicate_length}
use Rattle.mb_segment.proofs.Halves.{called_kept, empty_slots, half_stays, hub_is_no_member, hub_is_not_spent, no_hub}
use Rattle.mb_segment.proofs.Halves.{spent_is_no_member}
use Rattle.mb_segment.proofs.Fitting.{refit}
use Rattle.mb_segment.proofs.Kept.{St}
use Rattle.mb_segment.proofs.Places.{drawer, taker}
use Rattle.atomic_table.proofs.Lists.{at_map}

-- the names of the passes, where the next one has a name too
abbrev and_next : (ℕ → ℕ) → ℕ → ℕ → ℕ → ℕ
and_next names n name j = if nat_eq j n then name else names j

old_name : (names : ℕ → ℕ) (n name j : ℕ) → (n ≤ j → ⊥) → and_next names n name j ≡ names j
old_name names n name j under =
    ap (λ b. if b then name else names j) (ne_eqb j n (λ q. under (omega arith)))

new_name : (names : ℕ → ℕ) (n name j : ℕ) → j ≡ n → and_next names n name j ≡ name
new_name names n name j q = ap (λ b. if b then name else names j) (eq-eqb j n q)

all_short : (names : ℕ → ℕ) (n name : ℕ) → name < 4294967295 → ((j : ℕ) → names j < 4294967295) → (j : ℕ)
    → and_next names n name j < 4294967295
all_short names n name lt all j = go (all j) (nat_eq j n)
  where
    go : names j < 4294967295 → (b : Bool) → (if b then name else names j) < 4294967295
    go f true = lt
    go f false = f

module _ {T : Type 0} where
  -- a view of a pass that did nothing, or of one that came back, saw nothing
  pub unseen : (h : History T) (states : List ℕ) (cut hub : ℕ) (roll : List ℕ) (n name : ℕ) (r : Role)
      → (r ≡ Member → IsMember h hub roll n blank) → (r ≡ Issuer → (n ≡ hub) × Match h roll [])
      → (r ≡ Spent → In n roll) → Fits h states cut hub roll n record (named name) { role = r }
  unseen h states cut hub roll n name r is_member hub_ back = record {
    member = λ e. let m = is_member e in record {
      sent = m.sent;
      got = m.got;
      cut = m.cut;
      no_hub = m.no_hub;
      not_back
          = m.not_back;
    };
    hub_ = λ e. let m = hub_ e in record { here = m.0; ends = m.1; nothing = refl; idle = refl };
    back = λ e. (back e, refl, refl);
    debt = λ _. refl;
    half = tt;
    low = omega arith;
    ripe = λ k e. absurd (no_some k e);
    full = λ e. absurd (true≢false (sym e));
    cut_ = λ e. absurd (true≢false (sym e));
    empty = omega arith;
    heard = (omega arith, omega arith, (tt, tt, tt), (tt, tt, tt));
    over = λ e. absurd (true≢false (sym e));
  }

  -- ---- a new segment
  abbrev unused : History T
  unused = record { claims = []; rest = []; cutter = None }

  pub opens : (count : ℕ) → count < 4294967296
      → Keeps (opening (row 0 0 0 (replicate count 0)) (empty_slots T count) new_hub)
  opens count small =
      let m₀ : length {A = ℕ} (replicate count 0) ≡ count = replicate_length count 0 in
      let m₁ : length (empty_slots T count) ≡ count = replicate_length count None in
      let m₂ = map_length some (empty_slots T count) in
      record {
        history = unused;
        states = replicate count 0;
        tokens = 0;
        waiting = 0;
        cut = 0;
        words = refl;
        narrow = omega arith;
        sized = omega arith;
        small = omega arith;
        within = omega arith;
        cutter = refl;
        walk = [];
        walked = (refl, refl);
        true_ = tt;
        looked = λ n v at r. absurd (hub_is_no_member (ap (λ (y : View T). y.role) (first_is n v at).1 ∙ r));
        names = λ j. 0;
        short = λ j. omega arith;
        called = λ n v at. let f = first_is n v at in
            subst (λ (y : ℕ × View T). IsCalled (λ j. 0) [] y.0 y.1) (λ i. (f.0 i, f.1 i)) (λ _. refl, λ _. tt);
        undrawn = λ k le lt. (
          replicate_at count 0 k (omega arith),
          at_map some (empty_slots T count) k None (replicate_at count None k (omega arith)),
        );
        waits = λ k e le at. absurd (some-ne-none e (sym at));
        taken_ = λ k c at. absurd (some-ne-none c (sym at));
        counted = refl;
        given = refl;
        quiet = inl (omega arith);
        shut = inl (omega arith);
        hub = 0;
        roll = [];
        idle = (refl, refl, refl);
        apart = tt;
        rolled = λ n in_. absurd in_;
        known = omega arith;
        out_ = refl;
        newborn = λ n l. (refl, refl, refl, refl);
        fits = λ n v at. let f = first_is n v at in
            subst (λ (y : ℕ × View T). Fits unused (replicate count 0) 0 0 [] y.0 y.1)
            (λ i. (f.0 i, f.1 i))
            (unseen unused (replicate count 0) 0 0 [] 0 0 Issuer
            (λ e. absurd (hub_is_no_member e)) (λ _. (refl, tt)) (λ e. absurd (hub_is_not_spent Issuer refl e)));
      }

  -- ---- a pass is issued
  then_longer : (views : List (View T)) (w : View T) (j : ℕ) (half : Half T) → HasHalf views j half → HasHalf
      (views ++ w ∷ []) j half
  then_longer views w j half h = (h.0, at_longer views (w ∷ []) j h.0 h.1, h.2)

  module _ (s : St T) (k : Keeps s) (name : ℕ) where
    abbrev names : ℕ → ℕ
    names = and_next k.names (length s.views) name

    as_before : (j : ℕ) → (length s.views ≤ j → ⊥) → names j ≡ k.names j
    as_before j under = old_name k.names (length s.views) name j under

    still_called : (j : ℕ) (u : View T) → get_elem? s.views j ≡ some u → IsCalled names k.roll j u
    still_called j u at = let under = there s.views j u at in let c = k.called j u at in (
      λ r. c.0 r ∙ sym (as_before j (λ le. omega arith)),
      λ r. called_kept k.names names k.roll u.ends
          (λ i in_. let b = k.rolled i in_ in as_before i (λ le. omega arith)) (c.1 r),
    )

    still_waits : (one : List (View T)) → ((j : ℕ) (half : Half T) → HasHalf s.views j half → HasHalf one j half)
        → Waiting names k.history one k.states s.homes
    still_waits one has i e le e_at =
        let q : k.names e.by ≡ names e.by = sym (as_before e.by (drawer s k i e e_at).0) in
        ⊎_elim (λ z. inl (z.0, has e.by (Writes (spot i e.value)) z.1))
        (λ z. inr (z.0 ∙ ap (λ (m : ℕ). some (m + 1)) q, z.1)) (k.waits i e le e_at)

    still_taken : (one : List (View T)) → ((j : ℕ) (half : Half T) → HasHalf s.views j half → HasHalf one j half)
        → Taken names k.history one k.states s.homes
    still_taken one has i c c_at =
        let e_at = entry_of k.history.claims k.history.rest i c c_at in
        let q : k.names c.entry.by ≡ names c.entry.by = sym (as_before c.entry.by (drawer s k i c.entry e_at).0) in
        let r : k.names c.to ≡ names c.to = sym (as_before c.to (taker s k i c c_at).0) in
        ⊎_elim
        (λ z. inl (z.0 ∙ ap (λ (m : ℕ). some (m + 1)) q, has c.to (Reads (spot i c.entry.value)) z.1))
        (λ z. inr (z.0 ∙ (λ j. some (q j + 1 + 4294967296 * r j)), z.1)) (k.taken_ i c c_at)

  pub splits : (name : ℕ) → name < 4294967295 → (n : ℕ) (v : View T) → v.role ≡ Issuer
      → Splits Keeps n v (issued v) (named name)
  splits name bound n v role s k at =
      let w : View T = issued v in
      let new : View T = named name in
      let one : List (View T) = slice_set s.views n w in
      let many = length_set s.views n w in
      let more = length_snoc one new in
      let a₀ = total_set listed s.views n v w at in let b₀ = total_snoc listed one new in
      let a₁ = total_set sleeping s.views n v w at in let b₁ = total_snoc sleeping one new in
      let a₂ = total_set owed s.views n v w at in let b₂ = total_snoc owed one new in
      let a₃ = total_set closing s.views n v w at in let b₃ = total_snoc closing one new in
      let a₄ = total_set member s.views n v w at in let b₄ = total_snoc member one new in
      let a₅ = total_set out s.views n v w at in let b₅ = total_snoc out one new in
      let o₀ : if_hub v.role (v.out + 1) ≡ v.out + 1 = ap (λ (r : Role). if_hub r (v.out + 1)) role in
      let o₁ : if_hub v.role v.out ≡ v.out = ap (λ (r : Role). if_hub r v.out) role in
      let a₆ = total_set tokens_given s.views n v w at in let b₆ = total_snoc tokens_given one new in
      let a₇ = total_set tokens_taken s.views n v w at in let b₇ = total_snoc tokens_taken one new in
      let c = k.counted in
      let g = k.given in
      let o = k.out_ in
      record {
        history = k.history;
        states = k.states;
        tokens = k.tokens;
        waiting = k.waiting;
        cut = k.cut;
        words = k.words;
        narrow = k.narrow;
        sized = k.sized;
        small = k.small;
        within = k.within;
        cutter = k.cutter;
        walk = k.walk;
        walked = k.walked;
        true_ = k.true_;
        looked = λ j u e r. ⊎_elim
            (λ there_. ⊎_elim
            (λ (t : (j ≡ n) × (w ≡ u)). absurd (no_hub u.role r (ap (λ (y : View T). y.role) (sym t.1) ∙ role)))
            (λ (t : (j ≢ n) × (get_elem? s.views j ≡ some u)). k.looked j u t.1 r)
            (at_set s.views n j w u there_))
            (λ (t : (j ≡ length one) × (new ≡ u)).
            let l = t.0 in
            subst (λ (y : View T). HasLooked k.walk j y.sight) t.1
            (sym (k.newborn j (omega arith)).3, λ some_. absurd (omega arith)))
            (snoc_cases one new u j e);
        names = names s k name;
        short = all_short k.names (length s.views) name bound k.short;
        undrawn = k.undrawn;
        waits = still_waits s k name (one ++ new ∷ [])
            (λ j half h. then_longer one new j half (half_stays s.views n v w at refl j half h));
        taken_ = still_taken s k name (one ++ new ∷ [])
            (λ j half h. then_longer one new j half (half_stays s.views n v w at refl j half h));
        counted = omega arith;
        given = omega arith;
        quiet = ⊎_elim (λ x. inl (omega arith)) (λ x. inr (omega arith)) k.quiet;
        shut = ⊎_elim (λ x. inl (omega arith)) (λ x. inr (omega arith)) k.shut;
        hub = k.hub;
        roll = k.roll;
        idle = k.idle;
        apart = k.apart;
        rolled = λ j in_. let b = k.rolled j in_ in omega arith;
        known = let b = k.known in omega arith;
        out_ = omega arith;
        newborn = λ j long. k.newborn j (omega arith);
        called = λ j u e. ⊎_elim
            (λ there_. ⊎_elim
            (λ (t : (j ≡ n) × (w ≡ u)). subst (λ (y : ℕ × View T). IsCalled (names s k name) k.roll y.0 y.1)
            (λ i. (sym t.0 i, t.1 i)) (still_called s k name n v at))
            (λ (t : (j ≢ n) × (get_elem? s.views j ≡ some u)). still_called s k name j u t.1)
            (at_set s.views n j w u there_))
            (λ (t : (j ≡ length one) × (new ≡ u)). subst (λ (y : View T). IsCalled (names s k name) k.roll j y) t.1
            (λ _. sym (new_name k.names (length s.views) name j (t.0 ∙ many)), λ r. absurd (hub_is_no_member (sym r))))
            (snoc_cases one new u j e);
        fits = λ j u e. ⊎_elim
            (λ there_. ⊎_elim
            (λ (t : (j ≡ n) × (w ≡ u)). subst (λ (y : ℕ × View T). Fits k.history k.states k.cut k.hub k.roll y.0
            y.1) (λ i. (sym t.0 i, t.1 i))
            (refit k.history k.states k.cut k.hub k.roll n v w (refl, refl, refl, refl, refl, refl, refl, λ _ e. e)
            (k.fits n v at)))
            (λ (t : (j ≢ n) × (get_elem? s.views j ≡ some u)). k.fits j u t.1)
            (at_set s.views n j w u there_))
            (λ (t : (j ≡ length one) × (new ≡ u)).
            let l = t.0 in
            let nb = k.newborn j (omega arith) in
            subst (λ (y : View T). Fits k.history k.states k.cut k.hub k.roll j y) t.1
            (unseen k.history k.states k.cut k.hub k.roll j name Member
            (λ _. record {
              sent = sym nb.0;
              got = sym nb.1;
              cut = sym nb.2;
              no_hub = λ q. let b = k.known in omega arith;
              not_back
                  = λ in_. let b = k.rolled j in_ in omega arith;
            })
            (λ e. absurd (hub_is_no_member (sym e))) (λ e. absurd (spent_is_no_member (sym e)))))
            (snoc_cases one new u j e);
      }
