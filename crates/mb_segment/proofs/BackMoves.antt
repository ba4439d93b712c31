-- The hub takes a pass back, and the rule holds.
use Rattle.mb_segment.proofs.Base.{Joins, List, ap, arith, at_set, get_elem?, inl, inr, refl, slice_set, some, subst, sym, ℕ, ⊎_elim}
use Rattle.mb_segment.proofs.Base.{◌+◌, ◌-◌, ◌∙◌, ◌∷◌, ◌≡◌, ◌≢◌}
use Rattle.mb_segment.specs.Vocabulary.{Duty, Fits, Half, HasHalf, IsCalled, IsMember, Issuer, Keeps, Member, Nothing}
use Rattle.mb_segment.specs.Vocabulary.{Reads, Role, Spent, View, Writes, closing, if_hub, listed, member, no_duty, one_if_member}
use Rattle.mb_segment.specs.Vocabulary.{out, owed, sleeping, spent, spot, tokens_given, tokens_taken, took_back, total}
use Rattle.mb_segment.proofs.Totals.{below_total, length_set, one_in_total, there, total_set}
use Rattle.mb_segment.proofs.Halves.{either_over, half_stays, hub_is_not_spent, no_hub, spent_is_no_member}
use Rattle.mb_segment.proofs.Kept.{St}
use Rattle.mb_segment.proofs.PassMoves.{unseen}

module _ {T : Type 0} where
  -- only the hub has passes out
  pub out_of_hub : (s : St T) (k : Keeps s) (n : ℕ) (v : View T) → get_elem? s.views n ≡ some v → v.role ≡ Issuer
      → total out s.views ≡ v.out
  out_of_hub s k n v at role =
      one_in_total out s.views n v at (λ j u e ne. others u
      (λ r. ne (((k.fits j u e).hub_ r).here ∙ sym ((k.fits n v at).hub_ role).here)))
      ∙ ap (λ (r : Role). if_hub r v.out) role
    where
      others : (u : View T) → (u.role ≡ Issuer → ⊥) → out u ≡ 0
      others u no_ = go u.role refl
        where
          go : (r : Role) → u.role ≡ r → if_hub u.role u.out ≡ 0
          go Issuer e = absurd (no_ e)
          go Member e = ap (λ (x : Role). if_hub x u.out) e
          go Spent e = ap (λ (x : Role). if_hub x u.out) e

  module _ (n : ℕ) (v : View T) (other : ℕ) (w : View T) (v_role : v.role ≡ Issuer) (w_role : w.role ≡ Member)
      (w_half : w.half ≡ Nothing)
      (w_duty : w.duty ≡ no_duty) (s : St T) (k : Keeps s) (at : get_elem? s.views n ≡ some v)
      (apart : ¬ (other ≡ n))
      (at_other : get_elem? (slice_set s.views n (took_back v w)) other ≡ some w) where
    abbrev one : List (View T)
    one = slice_set s.views n (took_back v w)

    abbrev two : List (View T)
    two = slice_set one other spent

    was_other : get_elem? s.views other ≡ some w
    was_other = ⊎_elim (λ (t : (other ≡ n) × (took_back v w ≡ w)). absurd (apart t.0))
        (λ (t : (other ≢ n) × (get_elem? s.views other ≡ some w)). t.1)
        (at_set s.views n other (took_back v w) w at_other)

    was_member : IsMember k.history k.hub k.roll other w
    was_member = (k.fits other w was_other).member w_role

    half_joins : (j : ℕ) (half : Half T) → HasHalf s.views j half → HasHalf two j half
    half_joins j half h = half_stays one other w spent at_other (sym w_half) j half
        (half_stays s.views n v (took_back v w) at refl j half h)

    fits_joined : (j : ℕ) (u : View T) → get_elem? two j ≡ some u → Fits k.history k.states k.cut k.hub
        (other ∷ k.roll) j u
    fits_joined j u e = ⊎_elim
        (λ (t : (j ≡ other) × (spent ≡ u)).
        subst (λ (y : ℕ × View T). Fits k.history k.states k.cut k.hub (other ∷ k.roll) y.0 y.1)
        (λ i. (sym t.0 i, t.1 i))
        (unseen k.history k.states k.cut k.hub (other ∷ k.roll) other 0 Spent (λ r. absurd (spent_is_no_member r))
        (λ r. absurd (hub_is_not_spent Spent r refl)) (λ _. inl refl)))
        (λ (t : (j ≢ other) × (get_elem? one j ≡ some u)). ⊎_elim
        (λ (z : (j ≡ n) × (took_back v w ≡ u)).
        subst (λ (y : ℕ × View T). Fits k.history k.states k.cut k.hub (other ∷ k.roll) y.0 y.1)
        (λ i. (sym z.0 i, z.1 i)) hub_fits)
        (λ (z : (j ≢ n) × (get_elem? s.views j ≡ some u)). other_fits t.0 z.0 (k.fits j u z.1))
        (at_set s.views n j (took_back v w) u t.1))
        (at_set one other j spent u e)
      where
        hub_fits : Fits k.history k.states k.cut k.hub (other ∷ k.roll) n (took_back v w)
        hub_fits = let f = k.fits n v at in let h = f.hub_ v_role in record {
          member = λ r. absurd (no_hub v.role r v_role);
          hub_ = λ _. record {
            here = h.here;
            ends = (was_member.sent, was_member.got, was_member.cut, h.ends);
            nothing = h.nothing;
            idle = h.idle;
          };
          back = λ r. absurd (hub_is_not_spent v.role v_role r);
          debt = f.debt;
          half = f.half;
          low = f.low;
          ripe = f.ripe;
          full = λ on. ⊎_elim f.full (k.fits other w was_other).full (either_over v.sight.full w.sight.full on);
          cut_ = λ on. ⊎_elim f.cut_ (k.fits other w was_other).cut_ (either_over v.sight.cut w.sight.cut on);
          empty = f.empty;
          heard = let g = (k.fits other w was_other).heard in
              (f.heard.0, f.heard.1, f.heard.2, (f.heard.3.0, f.heard.3.1, (g.3.0, g.3.1, f.heard.3.2)));
          over = λ on. ⊎_elim f.over (k.fits other w was_other).over (either_over v.over w.over on);
        }

        other_fits : j ≢ other → j ≢ n → Fits k.history k.states k.cut k.hub k.roll j u
            → Fits k.history k.states k.cut k.hub (other ∷ k.roll) j u
        other_fits ne_other ne_hub f = record {
          member = λ r. let m = f.member r in record {
            sent = m.sent;
            got = m.got;
            cut = m.cut;
            no_hub = m.no_hub;
            not_back = λ in_. ⊎_elim (λ q. ne_other q) m.not_back in_;
          };
          hub_ = λ r. absurd (ne_hub ((f.hub_ r).here ∙ sym ((k.fits n v at).hub_ v_role).here));
          back = λ r. let b = f.back r in (inr b.0, b.1, b.2);
          debt = f.debt;
          half = f.half;
          low = f.low;
          ripe = f.ripe;
          full = f.full;
          cut_ = f.cut_;
          empty = f.empty;
          heard = f.heard;
          over = f.over;
        }

    called_joined : (j : ℕ) (u : View T) → get_elem? two j ≡ some u → IsCalled k.names (other ∷ k.roll) j u
    called_joined j u e = ⊎_elim
        (λ (t : (j ≡ other) × (spent ≡ u)). subst (λ (y : View T). IsCalled k.names (other ∷ k.roll) j y) t.1
        (λ r. absurd (spent_is_no_member r), λ r. absurd (hub_is_not_spent Spent r refl)))
        (λ (t : (j ≢ other) × (get_elem? one j ≡ some u)). ⊎_elim
        (λ (z : (j ≡ n) × (took_back v w ≡ u)). subst (λ (y : View T). IsCalled k.names (other ∷ k.roll) j y) z.1 (
          λ r. absurd (no_hub v.role r v_role),
          λ _. ((k.called other w was_other).0 w_role, (k.called n v at).1 v_role),
        ))
        (λ (z : (j ≢ n) × (get_elem? s.views j ≡ some u)). (
          (k.called j u z.1).0,
          λ r. absurd (z.0 (((k.fits j u z.1).hub_ r).here ∙ sym ((k.fits n v at).hub_ v_role).here)),
        ))
        (at_set s.views n j (took_back v w) u t.1))
        (at_set one other j spent u e)

    joined : Keeps record { words = s.words; homes = s.homes; views = two }
    joined =
        let many₀ = length_set s.views n (took_back v w) in let many₁ = length_set one other spent in
        let below = there s.views other w was_other in
        let a₀ = total_set listed s.views n v (took_back v w) at in let b₀ = total_set listed one other w spent
        at_other in
        let a₁ = total_set sleeping s.views n v (took_back v w) at in let b₁ = total_set sleeping one other w
        spent at_other in
        let a₂ = total_set owed s.views n v (took_back v w) at in let b₂ = total_set owed one other w spent
        at_other in
        let a₃ = total_set closing s.views n v (took_back v w) at in let b₃ = total_set closing one other w spent
        at_other in
        let a₄ = total_set member s.views n v (took_back v w) at in let b₄ = total_set member one other w spent
        at_other in
        let a₅ = total_set out s.views n v (took_back v w) at in let b₅ = total_set out one other w spent at_other
        in
        let w₀ : listed w ≡ 0 = ap (λ (d : Duty). d.fresh + d.asleep + d.leaving) w_duty in
        let w₁ : sleeping w ≡ 0 = ap (λ (d : Duty). d.asleep) w_duty in
        let w₂ : owed w ≡ 0 = ap (λ (d : Duty). d.wakes + d.looks + d.fresh + d.closing) w_duty in
        let w₃ : closing w ≡ 0 = ap (λ (d : Duty). d.closing) w_duty in
        let w₄ : member w ≡ 1 = ap one_if_member w_role in
        let w₅ : out w ≡ 0 = ap (λ (r : Role). if_hub r w.out) w_role in
        let o₀ : out (took_back v w) ≡ v.out - 1 = ap (λ (r : Role). if_hub r (v.out - 1)) v_role in
        let o₁ : out v ≡ v.out = ap (λ (r : Role). if_hub r v.out) v_role in
        let mine = below_total member s.views other w was_other in
        let all = out_of_hub s k n v at v_role in
        let a₆ = total_set tokens_given s.views n v (took_back v w) at in
        let b₆ = total_set tokens_given one other w spent at_other in
        let a₇ = total_set tokens_taken s.views n v (took_back v w) at in
        let b₇ = total_set tokens_taken one other w spent at_other in
        let c = k.counted in let o = k.out_ in let g = k.given in
        record {
          history = k.history;
          states = k.states;
          tokens = k.tokens;
          waiting = k.waiting;
          cut = k.cut;
          words = k.words;
          narrow = k.narrow;
          sized = k.sized;
          small = k.small;
          within = k.within;
          cutter = k.cutter;
          walk = k.walk;
          walked = k.walked;
          true_ = k.true_;
          looked = λ j u e r. ⊎_elim
              (λ (t : (j ≡ other) × (spent ≡ u)).
              absurd (spent_is_no_member (ap (λ (y : View T). y.role) t.1 ∙ r)))
              (λ (t : (j ≢ other) × (get_elem? one j ≡ some u)). ⊎_elim
              (λ (z : (j ≡ n) × (took_back v w ≡ u)).
              absurd (no_hub u.role r (ap (λ (y : View T). y.role) (sym z.1) ∙ v_role)))
              (λ (z : (j ≢ n) × (get_elem? s.views j ≡ some u)). k.looked j u z.1 r)
              (at_set s.views n j (took_back v w) u t.1))
              (at_set one other j spent u e);
          names = k.names;
          short = k.short;
          undrawn = k.undrawn;
          waits = λ i e le e_at. ⊎_elim (λ z. inl (z.0, half_joins e.by (Writes (spot i e.value)) z.1))
              (λ z. inr z) (k.waits i e le e_at);
          taken_ = λ i c c_at. ⊎_elim (λ z. inl (z.0, half_joins c.to (Reads (spot i c.entry.value)) z.1))
              (λ z. inr z) (k.taken_ i c c_at);
          counted = omega arith;
          given = omega arith;
          quiet = ⊎_elim (λ x. inl (omega arith)) (λ x. inr (omega arith)) k.quiet;
          shut = ⊎_elim (λ x. inl (omega arith)) (λ x. inr (omega arith)) k.shut;
          hub = k.hub;
          roll = other ∷ k.roll;
          idle = k.idle;
          apart = (was_member.not_back, k.apart);
          rolled = λ j in_. ⊎_elim (λ q. omega arith) (λ i. let b = k.rolled j i in omega arith) in_;
          known = let b = k.known in omega arith;
          out_ = omega arith;
          newborn = λ j long. k.newborn j (omega arith);
          called = called_joined;
          fits = fits_joined;
        }

  pub joins : (n : ℕ) (v : View T) (other : ℕ) (w : View T) → v.role ≡ Issuer → w.role ≡ Member → w.half ≡ Nothing
      → w.duty ≡ no_duty
      → Joins Keeps n v other w (took_back v w) spent
  joins n v other w v_role w_role w_half w_duty s k at apart at_other = joined n v other w v_role w_role w_half
      w_duty s k at apart at_other
