-- The exchange that cuts the ring keeps the rule.
use Rattle.mb_ring.proofs.Base.{Allows, List, Option, Some, ap, arith, eq-eqb, either, inl, inr, keeps, ne_eqb, none, refl}
use Rattle.mb_ring.proofs.Base.{length, slice_set, step, subst, sym, ℕ, ⊎_elim, ◌*◌, ◌+◌, ◌-◌, ◌<◌, ◌==◌, ◌∙◌, ◌∷◌, ◌≡◌}
use Rattle.mb_segment.proofs.Halves.{free_shut, match_kept, no_hub, no_spent, uncut}
use Rattle.mb_ring.specs.Vocabulary.{Half, HalfFits, History, In, Keeps, Member, Nothing, Reads, Sat, Writes, did_cut}
use Rattle.mb_ring.specs.Vocabulary.{Room, Values, exchanging, owes_both, spot, taken}
use Rattle.mb_ring.proofs.Halves.{half_stays}
use Rattle.mb_ring.proofs.Kept.{Next, Same, looked_still, moved, now}
use Rattle.mb_ring.proofs.Walks.{silent}
use Rattle.mb_ring.proofs.Loads.{at0, exchanges}

module _ {T : Type 0} where
  half_cut : (h : History T) (c : Option ℕ) (n : ℕ) (states : List ℕ) (j : ℕ) (half : Half T)
      → HalfFits h n states j half
      → HalfFits record h { cutter = c } n states j half
  half_cut h c n states j Nothing f = tt
  half_cut h c n states j (Writes p) f = f
  half_cut h c n states j (Reads p) f = f

  pub cuts : (slots i : ℕ) (me : Sat T) (old new : ℕ) → old < 9223372036854775808 → me.0.role ≡ Member
      → new ≡ old + 9223372036854775808
      → Allows Keeps slots i me 0 (λ r. either (r == old) new r)
      (exchanging (λ v. owes_both (did_cut v)) (step slots 0 old new none) me)
  cuts slots i me old new open_ role is =
      exchanges 0 (exchanging (λ v. owes_both (did_cut v)) (step slots 0 old new none) me) slots i me old new
      (λ s k many at e.
      let v = me.0 in
      let w = owes_both (did_cut v) in
      let h = k.history in
      let fit = k.fits i v at in
      let mem = fit.member role in
      let now_ = at0 s k in
      let not_cut : k.cut ≡ 0 = omega arith in
      let g : History T = record h { cutter = Some i } in
      let same_ : Same h g i = λ j ne.
      (refl, refl, ne_eqb i j (λ q. ne (sym q)) ∙ sym (uncut h.cutter j (sym k.cutter ∙ not_cut))) in
      let x' : Next T = record (now s k) { history = g; words = slice_set s.words 0 new; cut = k.cut + 1 } in (
        w,
        keeps,
        tt,
        moved s k i v w x' at record {
          words = ap (λ l. slice_set l 0 new) k.words ∙ ap
              (λ r. r ∷ taken h ∷ (k.tokens Values + 4294967296 * k.waiting Values)
              ∷ (k.tokens Room + 4294967296 * k.waiting Room) ∷ k.states) (omega arith);
          narrow = λ q. (k.lists q).narrow;
          counted = elim [ Values ↦ refl | Room ↦ refl ];
          given = λ q. refl;
          laws = elim [
            | Values ↦ λ L O C L' O' C' l o c le q h'.
                (⊎_elim (λ y. inl (omega arith)) (λ y. inr (omega arith)) q, inr (omega arith))
            | Room ↦ λ L O C L' O' C' l o c le q h'.
                let none_ = free_shut (k.cut + 1) (k.size - length h.rest) (omega arith) in
                (inr (omega arith), inr (omega arith))
          ];
          sized = (k.sized.0, k.sized.1);
          small = k.small;
          within = k.within;
          drawn_ = omega arith;
          more = omega arith;
          cut_ = omega arith;
          cutter = omega arith;
          turns = λ j. omega arith;
          undrawn = k.undrawn;
          waits = λ j e le e_at. ⊎_elim
              (λ z. inl (z.0, half_stays s.views i v w at refl e.by (Writes (spot j e.value)) z.1)) (λ z. inr z)
              (k.waits j e le e_at);
          taken_ = λ j c c_at. ⊎_elim
              (λ z. inl (z.0, half_stays s.views i v w at refl c.to (Reads (spot j c.entry.value)) z.1)) (λ z. inr z)
              (k.taken_ j c c_at);
          frozen = λ _. omega arith;
          over = λ _ none_there. none_there;
          role = refl;
          out_ = refl;
          same = same_;
          idle = (k.idle.0, k.idle.1, (same_ k.hub (λ q. mem.no_hub (sym q))).2 ∙ k.idle.2);
          roll = λ as_ m. match_kept h g k.roll as_ (λ j in_. same_ j
              (λ q. mem.not_back (subst (λ (z : ℕ). In z k.roll) q in_))) m;
          halves = λ j half ne f. half_cut h (Some i) k.size k.states j half f;
          walk = silent k.walk g k.size i w (looked_still s k i v w at refl refl) k.walked k.true_;
          own = record {
            member = λ _. record {
              sent = mem.sent;
              got = mem.got;
              cut = sym (eq-eqb i i refl);
              no_hub = mem.no_hub;
              not_back = mem.not_back;
            };
            hub_ = λ r. absurd (no_hub v.role role r);
            back = λ r. absurd (no_spent v.role role r);
            debt = λ no_. absurd (no_ role);
            half = half_cut h (Some i) k.size k.states i v.half fit.half;
            sight = let f = fit.sight in record {
              low = f.low;
              top = f.top;
              room = f.room;
              ripe = f.ripe;
              cut_ = λ _. omega arith;
              empty = f.empty;
              full = f.full;
            };
            heard = fit.heard;
            over = λ on. (omega arith, (fit.over on).1);
            last = fit.last;
          };
        },
        ((λ _. (refl, refl)), λ ne. absurd (ne e)),
      ))
      (λ r ne. ((λ e. absurd (ne e)), λ _. (refl, refl)))
