-- A new ring meets the rule. The hub issues passes, and the rule holds.
use Rattle.mb_ring.proofs.Base.{List, None, Splits, [], ap, arith, at_longer, at_set, get_elem?, inl, inr, length, length-append, opening}
use Rattle.mb_ring.proofs.Base.{refl, replicate, slice_index, slice_set, some, some-injective, some-ne-none, subst, suc, sym, true≢false}
use Rattle.mb_ring.proofs.Base.{zero, ℕ, ⊎_elim, ◌%◌, ◌*◌, ◌++◌, ◌+◌, ◌<◌, ◌∙◌, ◌∷◌, ◌≡◌, ◌≢◌}
use Rattle.std.proofs.lemmas.Nat.{mod_below}
use Rattle.std.proofs.Math.Nat.{mod-eq_of_lt}
use Rattle.mb_segment.proofs.Spots.{index_at, map_length, no_some, replicate_at, replicate_length, size_set, snoc_at}
use Rattle.mb_segment.proofs.Halves.{empty_slots, hub_is_no_member, hub_is_not_spent, no_hub, spent_is_no_member}
use Rattle.mb_ring.specs.Vocabulary.{Fits, Half, HasHalf, History, In, IsMember, Issuer, Keeps, Match, Member, Reads, Role, Spent, View}
use Rattle.mb_ring.specs.Vocabulary.{Writes, blank, if_hub, issued, member, new_hub, out, spot, total, turn, Duty, IsAwaited, Room, Values}
use Rattle.mb_ring.specs.Vocabulary.{Want, closing, debts, free, in_list, listed, owed, ready, sleeping, Tokens, no_tallies, tally}
use Rattle.mb_ring.specs.Vocabulary.{tokens_given, tokens_taken}
use Rattle.mb_segment.specs.Passes.{no_tokens}
use Rattle.mb_ring.proofs.Totals.{total_set, total_snoc}
use Rattle.mb_ring.proofs.Halves.{half_stays, no_part}
use Rattle.mb_ring.proofs.Walks.{Looks}
use Rattle.atomic_table.proofs.Lists.{at_map}

-- the turn of a slot in the first lap, before anything is drawn
first_turn : (n k : ℕ) → 0 < n → k < n → turn n (replicate n 0) k ≡ 2 * k
first_turn n k some_ lt =
    let m : k % n ≡ k = mod-eq_of_lt lt in
    let z : slice_index (replicate n 0) (k % n) ≡ 0
    = index_at (replicate n 0) (k % n) 0 (replicate_at n 0 (k % n) (mod_below k n some_)) in omega arith

pub no_tally : (q : Want) → tally q no_tallies ≡ no_tokens
no_tally Values = refl
no_tally Room = refl

module _ {T : Type 0} where
  -- the laws of a list hold for other views with the same sums
  pub same_sums : (q : Want) (vs ws : List (View T)) (goods open_ tokens waiting : ℕ)
      → IsAwaited vs q goods open_ tokens waiting → total (listed q) ws ≡ total (listed q) vs
      → total (sleeping q) ws ≡ total (sleeping q) vs → total (owed q) ws ≡ total (owed q) vs
      → total (closing q) ws ≡ total (closing q) vs → total (tokens_given q) ws ≡ total (tokens_given q) vs
      → total (tokens_taken q) ws ≡ total (tokens_taken q) vs → IsAwaited ws q goods open_ tokens waiting
  same_sums q vs ws goods open_ tokens waiting k e₀ e₁ e₂ e₃ e₄ e₅ = let c = k.counted in let g = k.given in record {
    narrow = k.narrow;
    counted = omega arith;
    given = omega arith;
    quiet = ⊎_elim (λ x. inl (omega arith)) (λ x. inr (omega arith)) k.quiet;
    shut = ⊎_elim (λ x. inl (omega arith)) (λ x. inr (omega arith)) k.shut;
  }

  -- a view of a pass that did nothing, or of one that came back, saw nothing
  pub unseen : (h : History T) (n : ℕ) (states : List ℕ) (cut hub : ℕ) (roll : List ℕ) (i : ℕ) (r : Role)
      → (r ≡ Member → IsMember h hub roll i blank) → (r ≡ Issuer → (i ≡ hub) × Match h roll [])
      → (r ≡ Spent → In i roll) → Fits h n states cut hub roll i record blank { role = r }
  unseen h n states cut hub roll i r is_member hub_ back = record {
    member = λ e. let m = is_member e in
        record { sent = m.sent; got = m.got; cut = m.cut; no_hub = m.no_hub; not_back = m.not_back };
    hub_ = λ e. let m = hub_ e in record { here = m.0; ends = m.1; nothing = refl; idle = (refl, refl) };
    back = λ e. (back e, refl, refl, refl);
    debt = λ _. refl;
    half = tt;
    sight = record {
      low = omega arith;
      top = omega arith;
      room = λ k e. absurd (no_some k e);
      ripe = λ k e. absurd (no_some k e);
      cut_ = λ e. absurd (true≢false (sym e));
      empty = omega arith;
      full = λ t e. absurd (no_some t e);
    };
    heard = (omega arith, omega arith, (tt, tt, tt));
    over = λ e. absurd (true≢false (sym e));
    last = λ _ e. absurd (true≢false (sym e));
  }

  -- ---- a new ring
  pub first_is : (n : ℕ) (v : View T) → get_elem? (new_hub ∷ []) n ≡ some v → (0 ≡ n) × (new_hub ≡ v)
  first_is zero v at = (refl, some-injective new_hub v at)
  first_is (suc n) v at = absurd (some-ne-none v (sym at))

  abbrev unused : History T
  unused = record { claims = []; rest = []; cutter = None }

  pub opens : (count : ℕ) → 0 < count
      → Keeps (opening (0 ∷ 0 ∷ 0 ∷ 0 ∷ replicate count 0) (empty_slots T count) new_hub)
  opens count some_ =
      let m₀ : length {A = ℕ} (replicate count 0) ≡ count = replicate_length count 0 in
      let m₁ : length (empty_slots T count) ≡ count = replicate_length count None in
      let m₂ = map_length some (empty_slots T count) in
      record {
        history = unused;
        states = replicate count 0;
        size = count;
        tokens = λ q. 0;
        waiting = λ q. 0;
        cut = 0;
        words = refl;
        lists = elim [
          | Values ↦ record {
            narrow = omega arith;
            counted = refl;
            given = refl;
            quiet = inl (omega arith);
            shut = inl (omega arith);
          }
          | Room ↦ record {
            narrow = omega arith;
            counted = refl;
            given = refl;
            quiet = inl (omega arith);
            shut = inl (omega arith);
          }
        ];
        sized = (m₀, omega arith, some_);
        small = omega arith;
        cutter = refl;
        within = omega arith;
        walk = [];
        walked = (refl, refl);
        true_ = tt;
        looks = λ n v at r. absurd (hub_is_no_member (ap (λ (y : View T). y.role) (first_is n v at).1 ∙ r));
        undrawn = λ k le lt. inl (
          first_turn count k some_ (omega arith),
          at_map some (empty_slots T count) (k % count) None
              (replicate_at count None (k % count) (mod_below k count some_)),
        );
        waits = λ k e le at. absurd (some-ne-none e (sym at));
        taken_ = λ k c at. absurd (some-ne-none c (sym at));
        hub = 0;
        roll = [];
        idle = (refl, refl, refl);
        apart = tt;
        rolled = λ n in_. absurd in_;
        known = omega arith;
        out_ = refl;
        newborn = λ n l. (refl, refl, refl, refl, refl);
        fits = λ n v at. let f = first_is n v at in
            subst (λ (y : ℕ × View T). Fits unused count (replicate count 0) 0 0 [] y.0 y.1)
            (λ z. (f.0 z, f.1 z))
            (unseen unused count (replicate count 0) 0 0 [] 0 Issuer
            (λ e. absurd (hub_is_no_member e)) (λ _. (refl, tt)) (λ e. absurd (hub_is_not_spent Issuer refl e)));
      }

  -- ---- a pass is issued
  then_longer : (views : List (View T)) (w : View T) (j : ℕ) (half : Half T) → HasHalf views j half → HasHalf
      (views ++ w ∷ []) j half
  then_longer views w j half h = (h.0, at_longer views (w ∷ []) j h.0 h.1, h.2)

  -- the hub's view differs in the number of passes alone
  recount : (h : History T) (n : ℕ) (states : List ℕ) (cut hub : ℕ) (roll : List ℕ) (i : ℕ) (v : View T) (o : ℕ)
      → Fits h n states cut hub roll i v → Fits h n states cut hub roll i record v { out = o }
  recount h n states cut hub roll i v o f = record {
    member = λ r. let m = f.member r in
        record { sent = m.sent; got = m.got; cut = m.cut; no_hub = m.no_hub; not_back = m.not_back };
    hub_ = λ r. let m = f.hub_ r in record { here = m.here; ends = m.ends; nothing = m.nothing; idle = m.idle };
    back = f.back;
    debt = f.debt;
    half = f.half;
    sight = f.sight;
    heard = f.heard;
    over = f.over;
    last = f.last;
  }

  pub splits : (n : ℕ) (v : View T) → v.role ≡ Issuer → Splits Keeps n v (issued v) blank
  splits n v role s k at =
      let w : View T = issued v in
      let one : List (View T) = slice_set s.views n w in
      let many = size_set s.views n w in
      let more : length (one ++ blank ∷ []) ≡ length one + 1 = length-append one (blank ∷ []) in
      let a₄ = total_set member s.views n v w at in let b₄ = total_snoc member one blank in
      let a₅ = total_set out s.views n v w at in let b₅ = total_snoc out one blank in
      let o₀ : if_hub v.role (v.out + 1) ≡ v.out + 1 = ap (λ (r : Role). if_hub r (v.out + 1)) role in
      let o₁ : if_hub v.role v.out ≡ v.out = ap (λ (r : Role). if_hub r v.out) role in
      let o = k.out_ in
      record {
        history = k.history;
        states = k.states;
        size = k.size;
        tokens = k.tokens;
        waiting = k.waiting;
        cut = k.cut;
        words = k.words;
        lists = λ q.
            let a₀ = total_set (listed q) s.views n v w at in let b₀ = total_snoc (listed q) one blank in
            let a₁ = total_set (sleeping q) s.views n v w at in let b₁ = total_snoc (sleeping q) one blank in
            let a₂ = total_set (owed q) s.views n v w at in let b₂ = total_snoc (owed q) one blank in
            let a₃ = total_set (closing q) s.views n v w at in let b₃ = total_snoc (closing q) one blank in
            let z₀ : listed {T = T} q blank ≡ 0 = ap in_list (no_part q) in
            let z₁ : sleeping {T = T} q blank ≡ 0 = ap (λ (d : Duty). d.asleep) (no_part q) in
            let z₂ : owed {T = T} q blank ≡ 0 = ap debts (no_part q) in
            let z₃ : closing {T = T} q blank ≡ 0 = ap (λ (d : Duty). d.closing) (no_part q) in
            let a₆ = total_set (tokens_given q) s.views n v w at in let b₆ = total_snoc (tokens_given q) one blank in
            let a₇ = total_set (tokens_taken q) s.views n v w at in let b₇ = total_snoc (tokens_taken q) one blank in
            let z₆ : tokens_given {T = T} q blank ≡ 0 = ap (λ (t : Tokens). t.gave) (no_tally q) in
            let z₇ : tokens_taken {T = T} q blank ≡ 0 = ap (λ (t : Tokens). t.took) (no_tally q) in
            same_sums q s.views (one ++ blank ∷ []) (ready q k.history k.size k.cut) (free k.cut 1) (k.tokens q)
            (k.waiting q) (k.lists q) (omega arith) (omega arith) (omega arith) (omega arith) (omega arith)
            (omega arith);
        sized = k.sized;
        small = k.small;
        cutter = k.cutter;
        within = k.within;
        walk = k.walk;
        walked = k.walked;
        true_ = k.true_;
        looks = λ j u e r. ⊎_elim
            (λ there_. ⊎_elim
            (λ (t : (j ≡ n) × (w ≡ u)). absurd (no_hub u.role r (ap (λ (y : View T). y.role) (sym t.1) ∙ role)))
            (λ (t : (j ≢ n) × (get_elem? s.views j ≡ some u)). k.looks j u t.1 r)
            (at_set s.views n j w u there_))
            (λ (t : (j ≡ length one) × (blank ≡ u)).
            let l = t.0 in
            let nb = k.newborn j (omega arith) in
            subst (λ (y : View T). Looks k.size k.walk j y.sight) t.1
            ((sym nb.3, λ some_. absurd (omega arith)), (sym nb.4, λ some_. absurd (omega arith))))
            (snoc_at one blank u j e);
        undrawn = k.undrawn;
        waits = λ i e le e_at. ⊎_elim
            (λ z. inl (
              z.0,
              then_longer one blank e.by (Writes (spot i e.value))
                  (half_stays s.views n v w at refl e.by (Writes (spot i e.value)) z.1),
            ))
            (λ z. inr z) (k.waits i e le e_at);
        taken_ = λ i c c_at. ⊎_elim
            (λ z. inl (
              z.0,
              then_longer one blank c.to (Reads (spot i c.entry.value))
                  (half_stays s.views n v w at refl c.to (Reads (spot i c.entry.value)) z.1),
            ))
            (λ z. inr z) (k.taken_ i c c_at);
        hub = k.hub;
        roll = k.roll;
        idle = k.idle;
        apart = k.apart;
        rolled = λ j in_. let b = k.rolled j in_ in omega arith;
        known = let b = k.known in omega arith;
        out_ = omega arith;
        newborn = λ j long. k.newborn j (omega arith);
        fits = λ j u e. ⊎_elim
            (λ there_. ⊎_elim
            (λ (t : (j ≡ n) × (w ≡ u)). subst
            (λ (y : ℕ × View T). Fits k.history k.size k.states k.cut k.hub k.roll y.0 y.1)
            (λ z. (sym t.0 z, t.1 z))
            (recount k.history k.size k.states k.cut k.hub k.roll n v (v.out + 1) (k.fits n v at)))
            (λ (t : (j ≢ n) × (get_elem? s.views j ≡ some u)). k.fits j u t.1)
            (at_set s.views n j w u there_))
            (λ (t : (j ≡ length one) × (blank ≡ u)).
            let l = t.0 in
            let nb = k.newborn j (omega arith) in
            subst (λ (y : View T). Fits k.history k.size k.states k.cut k.hub k.roll j y) t.1
            (unseen k.history k.size k.states k.cut k.hub k.roll j Member
            (λ _. record {
              sent = sym nb.0;
              got = sym nb.1;
              cut = sym nb.2;
              no_hub = λ q. let b = k.known in omega arith;
              not_back = λ in_. let b = k.rolled j in_ in omega arith;
            })
            (λ e. absurd (hub_is_no_member (sym e))) (λ e. absurd (spent_is_no_member (sym e)))))
            (snoc_at one blank u j e);
      }
