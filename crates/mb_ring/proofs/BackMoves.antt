-- The hub takes passes back, and the rule holds.
use Rattle.mb_ring.proofs.Base.{Joins, List, ap, arith, at_set, get_elem?, inl, inr, refl, slice_set, some, subst, sym, ℕ, ⊎_elim, ◌+◌}
use Rattle.mb_ring.proofs.Base.{◌-◌, ◌∙◌, ◌∷◌, ◌≡◌, ◌≢◌}
use Rattle.mb_segment.proofs.Spots.{below_length, size_set}
use Rattle.mb_segment.proofs.Halves.{either_over, hub_is_not_spent, no_hub, spent_is_no_member}
use Rattle.mb_ring.specs.Vocabulary.{Fits, Half, HasHalf, IsMember, Issuer, Keeps, Member, Nothing, Reads, Role, Spent, View, Writes}
use Rattle.mb_ring.specs.Vocabulary.{if_hub, member, one_if_member, out, spent, spot, took_back, total, Duty, Room, Values, Want, closing}
use Rattle.mb_ring.specs.Vocabulary.{debts, free, in_list, listed, no_duties, owed, part, ready, sleeping, Tokens, tokens_given}
use Rattle.mb_ring.specs.Vocabulary.{tokens_taken}
use Rattle.mb_ring.proofs.Totals.{below_total, one_in_total, total_set}
use Rattle.mb_ring.proofs.Halves.{half_stays}
use Rattle.mb_ring.proofs.Kept.{St}
use Rattle.mb_ring.proofs.PassMoves.{no_tally, same_sums, unseen}

module _ {T : Type 0} where
  -- the hub counts the tokens of a pass that comes back
  back_counts : (q : Want) (v w : View T) → (tokens_given q (took_back v w) ≡ tokens_given q v + tokens_given q w)
      × (tokens_taken q (took_back v w) ≡ tokens_taken q v + tokens_taken q w)
  back_counts Values v w = (refl, refl)
  back_counts Room v w = (refl, refl)

  -- only the hub has passes out
  pub out_of_hub : (s : St T) (k : Keeps s) (n : ℕ) (v : View T) → get_elem? s.views n ≡ some v → v.role ≡ Issuer
      → total out s.views ≡ v.out
  out_of_hub s k n v at role =
      one_in_total out s.views n v at (λ j u e ne. others u
      (λ r. ne (((k.fits j u e).hub_ r).here ∙ sym ((k.fits n v at).hub_ role).here)))
      ∙ ap (λ (r : Role). if_hub r v.out) role
    where
      others : (u : View T) → (u.role ≡ Issuer → ⊥) → out u ≡ 0
      others u no_ = go u.role refl
        where
          go : (r : Role) → u.role ≡ r → if_hub u.role u.out ≡ 0
          go Issuer e = absurd (no_ e)
          go Member e = ap (λ (x : Role). if_hub x u.out) e
          go Spent e = ap (λ (x : Role). if_hub x u.out) e

  module _ (n : ℕ) (v : View T) (other : ℕ) (w : View T) (v_role : v.role ≡ Issuer) (w_role : w.role ≡ Member)
      (w_half : w.half ≡ Nothing) (w_duty : w.duty ≡ no_duties) (s : St T) (k : Keeps s)
      (at : get_elem? s.views n ≡ some v) (apart : ¬ (other ≡ n))
      (at_other : get_elem? (slice_set s.views n (took_back v w)) other ≡ some w) where
    abbrev one : List (View T)
    one = slice_set s.views n (took_back v w)

    abbrev two : List (View T)
    two = slice_set one other spent

    was_other : get_elem? s.views other ≡ some w
    was_other = ⊎_elim (λ (t : (other ≡ n) × (took_back v w ≡ w)). absurd (apart t.0))
        (λ (t : (other ≢ n) × (get_elem? s.views other ≡ some w)). t.1)
        (at_set s.views n other (took_back v w) w at_other)

    was_member : IsMember k.history k.hub k.roll other w
    was_member = (k.fits other w was_other).member w_role

    half_joins : (j : ℕ) (half : Half T) → HasHalf s.views j half → HasHalf two j half
    half_joins j half h = half_stays one other w spent at_other (sym w_half) j half
        (half_stays s.views n v (took_back v w) at refl j half h)

    fits_joined : (j : ℕ) (u : View T) → get_elem? two j ≡ some u → Fits k.history k.size k.states k.cut k.hub
        (other ∷ k.roll) j u
    fits_joined j u e = ⊎_elim
        (λ (t : (j ≡ other) × (spent ≡ u)).
        subst (λ (y : ℕ × View T). Fits k.history k.size k.states k.cut k.hub (other ∷ k.roll) y.0 y.1)
        (λ z. (sym t.0 z, t.1 z))
        (unseen k.history k.size k.states k.cut k.hub (other ∷ k.roll) other Spent
        (λ r. absurd (spent_is_no_member r))
        (λ r. absurd (hub_is_not_spent Spent r refl)) (λ _. inl refl)))
        (λ (t : (j ≢ other) × (get_elem? one j ≡ some u)). ⊎_elim
        (λ (z : (j ≡ n) × (took_back v w ≡ u)).
        subst (λ (y : ℕ × View T). Fits k.history k.size k.states k.cut k.hub (other ∷ k.roll) y.0 y.1)
        (λ y. (sym z.0 y, z.1 y)) hub_fits)
        (λ (z : (j ≢ n) × (get_elem? s.views j ≡ some u)). other_fits t.0 z.0 (k.fits j u z.1))
        (at_set s.views n j (took_back v w) u t.1))
        (at_set one other j spent u e)
      where
        hub_fits : Fits k.history k.size k.states k.cut k.hub (other ∷ k.roll) n (took_back v w)
        hub_fits = let f = k.fits n v at in let h = f.hub_ v_role in record {
          member = λ r. absurd (no_hub v.role r v_role);
          hub_ = λ _. record {
            here = h.here;
            ends = (was_member.sent, was_member.got, was_member.cut, h.ends);
            nothing = h.nothing;
            idle = h.idle;
          };
          back = λ r. absurd (hub_is_not_spent v.role v_role r);
          debt = f.debt;
          half = f.half;
          sight = f.sight;
          heard = let g = (k.fits other w was_other).heard in
              (f.heard.0, f.heard.1, (f.heard.2.0, f.heard.2.1, (g.2.0, g.2.1, f.heard.2.2)));
          over = λ on. ⊎_elim f.over (k.fits other w was_other).over (either_over v.over w.over on);
          last = λ r. absurd (no_hub v.role r v_role);
        }

        other_fits : j ≢ other → j ≢ n → Fits k.history k.size k.states k.cut k.hub k.roll j u
            → Fits k.history k.size k.states k.cut k.hub (other ∷ k.roll) j u
        other_fits ne_other ne_hub f = record {
          member = λ r. let m = f.member r in record {
            sent = m.sent;
            got = m.got;
            cut = m.cut;
            no_hub = m.no_hub;
            not_back = λ in_. ⊎_elim (λ q. ne_other q) m.not_back in_;
          };
          hub_ = λ r. absurd (ne_hub ((f.hub_ r).here ∙ sym ((k.fits n v at).hub_ v_role).here));
          back = λ r. let b = f.back r in (inr b.0, b.1, b.2, b.3);
          debt = f.debt;
          half = f.half;
          sight = f.sight;
          heard = f.heard;
          over = f.over;
          last = f.last;
        }

    joined : Keeps record { words = s.words; homes = s.homes; views = two }
    joined =
        let many = size_set s.views n (took_back v w) in
        let many₁ = size_set one other spent in
        let below = below_length s.views other w was_other in
        let a₄ = total_set member s.views n v (took_back v w) at in
        let b₄ = total_set member one other w spent at_other in
        let a₅ = total_set out s.views n v (took_back v w) at in
        let b₅ = total_set out one other w spent at_other in
        let w₄ : member w ≡ 1 = ap one_if_member w_role in
        let w₅ : out w ≡ 0 = ap (λ (r : Role). if_hub r w.out) w_role in
        let o₀ : out (took_back v w) ≡ v.out - 1 = ap (λ (r : Role). if_hub r (v.out - 1)) v_role in
        let o₁ : out v ≡ v.out = ap (λ (r : Role). if_hub r v.out) v_role in
        let mine = below_total member s.views other w was_other in
        let all = out_of_hub s k n v at v_role in
        let o = k.out_ in
        record {
          history = k.history;
          states = k.states;
          size = k.size;
          tokens = k.tokens;
          waiting = k.waiting;
          cut = k.cut;
          words = k.words;
          lists = λ q.
              let a₀ = total_set (listed q) s.views n v (took_back v w) at in
              let b₀ = total_set (listed q) one other w spent at_other in
              let a₁ = total_set (sleeping q) s.views n v (took_back v w) at in
              let b₁ = total_set (sleeping q) one other w spent at_other in
              let a₂ = total_set (owed q) s.views n v (took_back v w) at in
              let b₂ = total_set (owed q) one other w spent at_other in
              let a₃ = total_set (closing q) s.views n v (took_back v w) at in
              let b₃ = total_set (closing q) one other w spent at_other in
              let e₀ : part q w.duty ≡ part q no_duties = ap (part q) w_duty in
              let w₀ : listed q w ≡ listed {T = T} q spent = ap in_list e₀ in
              let w₁ : sleeping q w ≡ sleeping {T = T} q spent = ap (λ (d : Duty). d.asleep) e₀ in
              let w₂ : owed q w ≡ owed {T = T} q spent = ap debts e₀ in
              let w₃ : closing q w ≡ closing {T = T} q spent = ap (λ (d : Duty). d.closing) e₀ in
              let a₆ = total_set (tokens_given q) s.views n v (took_back v w) at in
              let b₆ = total_set (tokens_given q) one other w spent at_other in
              let a₇ = total_set (tokens_taken q) s.views n v (took_back v w) at in
              let b₇ = total_set (tokens_taken q) one other w spent at_other in
              let z₆ : tokens_given {T = T} q spent ≡ 0 = ap (λ (t : Tokens). t.gave) (no_tally q) in
              let z₇ : tokens_taken {T = T} q spent ≡ 0 = ap (λ (t : Tokens). t.took) (no_tally q) in
              let both = back_counts q v w in
              let both₀ = both.0 in
              let both₁ = both.1 in
              same_sums q s.views two (ready q k.history k.size k.cut) (free k.cut 1) (k.tokens q) (k.waiting q)
              (k.lists q) (omega arith) (omega arith) (omega arith) (omega arith) (omega arith) (omega arith);
          sized = k.sized;
          small = k.small;
          cutter = k.cutter;
          within = k.within;
          walk = k.walk;
          walked = k.walked;
          true_ = k.true_;
          looks = λ j u e r. ⊎_elim
              (λ (t : (j ≡ other) × (spent ≡ u)).
              absurd (spent_is_no_member (ap (λ (y : View T). y.role) t.1 ∙ r)))
              (λ (t : (j ≢ other) × (get_elem? one j ≡ some u)). ⊎_elim
              (λ (z : (j ≡ n) × (took_back v w ≡ u)).
              absurd (no_hub u.role r (ap (λ (y : View T). y.role) (sym z.1) ∙ v_role)))
              (λ (z : (j ≢ n) × (get_elem? s.views j ≡ some u)). k.looks j u z.1 r)
              (at_set s.views n j (took_back v w) u t.1))
              (at_set one other j spent u e);
          undrawn = k.undrawn;
          waits = λ i e le e_at. ⊎_elim (λ z. inl (z.0, half_joins e.by (Writes (spot i e.value)) z.1))
              (λ z. inr z) (k.waits i e le e_at);
          taken_ = λ i c c_at. ⊎_elim (λ z. inl (z.0, half_joins c.to (Reads (spot i c.entry.value)) z.1))
              (λ z. inr z) (k.taken_ i c c_at);
          hub = k.hub;
          roll = other ∷ k.roll;
          idle = k.idle;
          apart = (was_member.not_back, k.apart);
          rolled = λ j in_. ⊎_elim (λ q. omega arith) (λ i. let b = k.rolled j i in omega arith) in_;
          known = let b = k.known in omega arith;
          out_ = omega arith;
          newborn = λ j long. k.newborn j (omega arith);
          fits = fits_joined;
        }

  pub joins : (n : ℕ) (v : View T) (other : ℕ) (w : View T) → v.role ≡ Issuer → w.role ≡ Member → w.half ≡ Nothing
      → w.duty ≡ no_duties → Joins Keeps n v other w (took_back v w) spent
  joins n v other w v_role w_role w_half w_duty s k at apart at_other =
      joined n v other w v_role w_role w_half w_duty s k at apart at_other
