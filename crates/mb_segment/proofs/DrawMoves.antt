-- The exchanges on the number drawn keep the rule: a draw and a cut.
use Rattle.mb_segment.proofs.Base.{Allows, List, None, Option, Some, [], ap, append_assoc, arith, at_last}
use Rattle.mb_segment.proofs.Base.{at_longer, carried_after, either, eq-eqb, get_elem?, inl}
use Rattle.mb_segment.proofs.Base.{inr, keeps, ne_eqb}
use Rattle.mb_segment.proofs.Base.{length, length-append, none, refl, set_else, slice_index, slice_set}
use Rattle.mb_segment.proofs.Base.{some, step, subst, sym, takes, ℕ, ⊎_elim, ◌*◌, ◌++◌, ◌+◌, ◌-◌, ◌<◌}
use Rattle.mb_segment.proofs.Base.{◌==◌, ◌∙◌, ◌∷◌, ◌≡◌, ◌≢◌, ◌≤◌, ◌⊎◌}
use Rattle.mb_segment.specs.Vocabulary.{Drew, Duty, Entry, Half, HalfFits, HasHalf, History, Homes, In, Keeps}
use Rattle.mb_segment.specs.Vocabulary.{Member, Nothing, Reads, Sat, Taken, Undrawn, View, Waiting, Writes}
use Rattle.mb_segment.specs.Vocabulary.{all_entries, did_cut, drawing, drawing_picked, drawn, drew}
use Rattle.mb_segment.specs.Vocabulary.{entries, exchanging, owes_all, owes_wake}
use Rattle.mb_segment.specs.Vocabulary.{row, sent_by, spot, spots_by, taken, with_duty}
use Rattle.mb_segment.proofs.Spots.{all_length, below_length, by_other, by_own, heard_draw, same_some, size_set, snoc_at}
use Rattle.mb_segment.proofs.Halves.{free_open, free_shut, half_else, half_here, match_kept, may_send, no_hub, no_reads}
use Rattle.mb_segment.proofs.Halves.{no_spent, no_writes, uncut}
use Rattle.mb_segment.proofs.Kept.{Next, Same, St, at0, exchanges, moved, now}
use Rattle.mb_segment.proofs.Kept.{taken_stay, waits_stay}
use Rattle.mb_segment.proofs.Walks.{a_draw, looked_still, silent}

module _ {T : Type 0} (s : St T) (k : Keeps s) (n : ℕ) (v : View T) (at : get_elem? s.views n ≡ some v) (x : T)
    (old : ℕ)
    (is : old ≡ drawn k.history) (room : old < length k.states) (idle : v.half ≡ Nothing) (w : View T)
    (w_half : w.half ≡ Writes (spot old x)) where
  abbrev entry : Entry T
  entry = record { by = n; value = x }

  abbrev longer : History T
  longer = record k.history { rest = k.history.rest ++ entry ∷ [] }

  abbrev lent : Homes T
  lent = slice_set s.homes old none

  long : all_entries longer ≡ all_entries k.history ++ entry ∷ []
  long = sym (append_assoc (entries k.history.claims) k.history.rest (entry ∷ []))

  size : length (all_entries k.history) ≡ old
  size = let l = all_length k.history in omega arith

  more : drawn longer ≡ old + 1
  more = let m : length (k.history.rest ++ entry ∷ []) ≡ length k.history.rest + 1
      = length-append k.history.rest (entry ∷ []) in omega arith

  open_ : (get_elem? k.states old ≡ some 0) × (get_elem? s.homes old ≡ some (some None))
  open_ = k.undrawn old (omega arith) room

  draw_undrawn : Undrawn longer k.states lent
  draw_undrawn j le lt =
      let m = more in
      let ne : j ≢ old = λ q. omega arith in
      let u = k.undrawn j (omega arith) lt in
      (u.0, set_else s.homes old j none ne ∙ u.1)

  draw_waits : Waiting k.names longer (slice_set s.views n w) k.states lent
  draw_waits j e le e_at = ⊎_elim
      (λ (t : get_elem? (all_entries k.history) j ≡ some e).
      let b = below_length (all_entries k.history) j e t in
      let sz = size in
      let ne : j ≢ old = λ q. omega arith in
      ⊎_elim
      (λ z. inl (
        z.0,
        half_else s.views n v w at e.by (Writes (spot j e.value))
            (no_writes v.half (spot j e.value) idle) z.1,
      ))
      (λ z. inr (z.0, set_else s.homes old j none ne ∙ z.1))
      (k.waits j e le t))
      (λ (t : (j ≡ length (all_entries k.history)) × (entry ≡ e)).
      let q : j ≡ old = t.0 ∙ size in
      inl (
        subst (λ (i : ℕ). get_elem? k.states i ≡ some 0) (sym q) open_.0,
        subst (λ (y : ℕ × Entry T). HasHalf (slice_set s.views n w) y.1.by (Writes (spot y.0 y.1.value)))
            (λ i. (sym q i, t.1 i))
            (half_here s.views n v w at (Writes (spot old x)) w_half),
      ))
      (snoc_at (all_entries k.history) entry e j (subst (λ (l : List (Entry T)). get_elem? l j ≡ some e) long e_at))

  draw_taken : Taken k.names longer (slice_set s.views n w) k.states lent
  draw_taken j c c_at =
      let b = below_length k.history.claims j c c_at in
      let ne : j ≢ old = λ q. omega arith in
      ⊎_elim
      (λ z. inl (
        z.0,
        half_else s.views n v w at c.to (Reads (spot j c.entry.value))
            (no_reads v.half (spot j c.entry.value) idle) z.1,
      ))
      (λ z. inr (z.0, set_else s.homes old j none ne ∙ z.1))
      (k.taken_ j c c_at)

  draw_halves : (j : ℕ) (half : Half T) → HalfFits k.history k.states j half → HalfFits longer k.states j half
  draw_halves j Nothing f = tt
  draw_halves j (Writes p) f = (
    f.0,
    subst (λ (l : List (Entry T)). get_elem? l p.at ≡ some record { by = j; value = p.value }) (sym long)
        (at_longer (all_entries k.history) (entry ∷ []) p.at record { by = j; value = p.value } f.1),
    f.2,
  )
  draw_halves j (Reads p) f = f

  draw_own : HalfFits longer k.states n (Writes (spot old x))
  draw_own = (
    omega arith,
    subst (λ (l : List (Entry T)). get_elem? l old ≡ some entry) (sym long)
        (at_last (all_entries k.history) entry old size),
    open_.0,
  )

  draw_same : Same k.history longer n
  draw_same j ne =
      (ap (spots_by j 0) long ∙ by_other j 0 (all_entries k.history) entry (λ q. ne (sym q)), refl, refl)

  draw_sent : sent_by n longer ≡ sent_by n k.history ++ spot old x ∷ []
  draw_sent = ap (spots_by n 0) long ∙ by_own n 0 x (all_entries k.history) entry old
      (let sz = size in omega arith) refl refl

-- what a draw does to what its pass owes: a wake; or, for the last position, tokens for all
abbrev IsDebt : (Duty → Duty) → Duty → ℕ → ℕ → Type 0
IsDebt f d new slots = ((f d).fresh ≡ d.fresh) × ((f d).asleep ≡ d.asleep) × ((f d).leaving ≡ d.leaving)
    × ((f d).wakes + (f d).looks + (f d).closing ≡ d.wakes + d.looks + d.closing + 1) × (d.closing ≤ (f d).closing)
    × ((new < slots) ⊎ (d.closing < (f d).closing))

module _ {T : Type 0} where
  draws_as : (f : Duty → Duty) (x : T) (slots n : ℕ) (me : Sat T) (old new : ℕ) → IsDebt f me.0.duty new slots
      → me.0.role ≡ Member
      → me.0.half ≡ Nothing → old < slots → new ≡ old + 1
      → Allows Keeps slots n me 0 (λ r. either (r == old) new r) (drawing f x (step slots 0 old new none) me)
  draws_as f x slots n me old new debt role idle room is =
      exchanges 0 (drawing f x (step slots 0 old new none) me) slots n me old new
      (λ s k homes at e.
      let v = me.0 in
      let w = with_duty f (drew old x v) in
      let h = k.history in
      let fit = k.fits n v at in
      let mem = fit.member role in
      let many = k.sized in
      let small = k.small in
      let whole : old ≡ drawn h + 9223372036854775808 * k.cut = sym e ∙ at0 s k in
      let open_ : k.cut ≡ 0 = omega arith in
      let now_ : old ≡ drawn h = omega arith in
      let fits_ : old < length k.states = omega arith in
      let may = may_send h k.states k.cut k.hub k.roll n v fit role k.cutter open_ (omega arith) old now_ in
      let g = longer s k n v at x old now_ fits_ idle w refl in
      let mo = more s k n v at x old now_ fits_ idle w refl in
      let lent_ = size_set s.homes old none in
      let next : new ≡ drawn g + 9223372036854775808 * k.cut = omega arith in
      let free_is = free_open k.cut (length k.states - drawn h) open_ in
      let free_then = free_open k.cut (length k.states - drawn g) open_ in
      let same_ = draw_same s k n v at x old now_ fits_ idle w refl in
      let x' : Next T = record {
        history = g;
        words = slice_set s.words 0 new;
        states = k.states;
        homes = slice_set s.homes old none;
        tokens = k.tokens;
        waiting = k.waiting;
        cut = k.cut;
        walk = Drew ∷ k.walk;
      } in (
        w,
        takes old None,
        (k.undrawn old (omega arith) fits_).1,
        moved s k n v w x' at record {
          words = ap (λ l. slice_set l 0 new) k.words ∙ ap
              (λ r. row r (taken h) (k.tokens + 4294967296 * k.waiting) k.states) next;
          narrow = k.narrow;
          sized = omega arith;
          as_many = refl;
          within = omega arith;
          drawn_ = omega arith;
          more = omega arith;
          cut_ = omega arith;
          cutter = k.cutter;
          marks = λ j ne. ne;
          undrawn = draw_undrawn s k n v at x old now_ fits_ idle w refl;
          waits = draw_waits s k n v at x old now_ fits_ idle w refl;
          taken_ = draw_taken s k n v at x old now_ fits_ idle w refl;
          counted = omega arith;
          given = refl;
          over = λ none_free none_there. absurd (omega arith);
          card = refl;
          out_ = refl;
          same = same_;
          idle = let o = same_ k.hub (λ q. mem.no_hub (sym q)) in (o.0 ∙ k.idle.0, o.1 ∙ k.idle.1, k.idle.2);
          roll = λ as_ m. match_kept h g k.roll as_ (λ j in_. same_ j
              (λ q. mem.not_back (subst (λ (i : ℕ). In i k.roll) q in_))) m;
          halves = λ j half ne hf. draw_halves s k n v at x old now_ fits_ idle w refl j half hf;
          own = record {
            member = λ _. record {
              sent = ap (λ l. l ++ spot old x ∷ []) mem.sent ∙ sym
                  (draw_sent s k n v at x old now_ fits_ idle w refl);
              got = mem.got;
              cut = mem.cut;
              no_hub = mem.no_hub;
              not_back = mem.not_back;
            };
            hub_ = λ r. absurd (no_hub v.role role r);
            back = λ r. absurd (no_spent v.role role r);
            debt = λ no_. absurd (no_ role);
            half = draw_own s k n v at x old now_ fits_ idle w refl;
            low = fit.low;
            ripe = fit.ripe;
            full = λ on. absurd (let y = fit.full on in omega arith);
            cut_ = fit.cut_;
            empty = fit.empty;
            heard = heard_draw h g old x v (omega arith) (omega arith) (omega arith) fit.heard;
            over = λ on. absurd (let y = (fit.over on).0 in omega arith);
          };
          walk = a_draw k.walk h (length k.states) n w (looked_still s k n v w at refl (refl, refl, refl))
              (entry s k n v at x old now_ fits_ idle w refl) k.walked k.true_;
          laws = λ L O C L' O' C' l o c le q h'. (
            ⊎_elim (λ y. inl (omega arith)) (λ y. inr (omega arith)) q,
            ⊎_elim (λ y. inl (omega arith)) (λ y. inr (⊎_elim (λ z. omega arith) (λ z. omega arith) debt.5)) h',
          );
        },
        ((λ _. (refl, refl, may)), λ ne. absurd (ne e)),
      ))
      (λ r ne. ((λ e. absurd (ne e)), λ _. (refl, refl)))

  -- the same, told of the value that the proof picked
  draws_picked : (f : Duty → Duty) (x : T) (picked : Option T) → picked ≡ Some x → (slots n : ℕ) (me : Sat T)
      (old new : ℕ)
      → Allows Keeps slots n me 0 (λ r. either (r == old) new r) (drawing f x (step slots 0 old new none) me)
      → Allows Keeps slots n me 0 (λ r. either (r == old) new r)
      (drawing_picked f picked (step slots 0 old new none) me)
  draws_picked f x picked is slots n me old new allowed s k homes at small =
      let a = allowed s k homes at small in (
        a.0,
        a.1,
        a.2,
        a.3,
        λ y q. subst (λ (z : T). drawing f z (step slots 0 old new none) me (slice_index s.words 0)
            (a.0, carried_after me.1 a.1))
            (same_some x y (sym is ∙ q)) a.4,
      )

  pub draws : (x : T) (picked : Option T) → picked ≡ Some x → (slots n : ℕ) (me : Sat T) (old new : ℕ) → me.0.role
      ≡ Member
      → me.0.half ≡ Nothing → new < slots → new ≡ old + 1
      → Allows Keeps slots n me 0 (λ r. either (r == old) new r)
      (drawing_picked owes_wake picked (step slots 0 old new none) me)
  draws x picked pick slots n me old new role idle room is = draws_picked owes_wake x picked pick slots n me old new
      (draws_as owes_wake x slots n me old new (refl, refl, refl, omega arith, omega arith, inl room) role idle
      (omega arith) is)

  pub draws_last : (x : T) (picked : Option T) → picked ≡ Some x → (slots n : ℕ) (me : Sat T) (old new : ℕ)
      → me.0.role ≡ Member
      → me.0.half ≡ Nothing → new ≡ slots → new ≡ old + 1
      → Allows Keeps slots n me 0 (λ r. either (r == old) new r)
      (drawing_picked owes_all picked (step slots 0 old new none) me)
  draws_last x picked pick slots n me old new role idle last is = draws_picked owes_all x picked pick slots n me
      old new
      (draws_as owes_all x slots n me old new (refl, refl, refl, omega arith, omega arith, inr (omega arith)) role
      idle (omega arith) is)

  -- ---- a cut
  half_cut : (h : History T) (c : Option ℕ) (states : List ℕ) (j : ℕ) (half : Half T) → HalfFits h states j half
      → HalfFits record h { cutter = c } states j half
  half_cut h c states j Nothing f = tt
  half_cut h c states j (Writes p) f = f
  half_cut h c states j (Reads p) f = f

  pub cuts : (slots n : ℕ) (me : Sat T) (old new : ℕ) → old < 9223372036854775808 → me.0.role ≡ Member
      → new ≡ old + 9223372036854775808
      → Allows Keeps slots n me 0 (λ r. either (r == old) new r)
      (exchanging (λ v. with_duty owes_all (did_cut v)) (step slots 0 old new none) me)
  cuts slots n me old new open_ role is =
      exchanges 0 (exchanging (λ v. with_duty owes_all (did_cut v)) (step slots 0 old new none) me) slots n me old new
      (λ s k homes at e.
      let v = me.0 in
      let w = with_duty owes_all (did_cut v) in
      let h = k.history in
      let fit = k.fits n v at in
      let mem = fit.member role in
      let now_ = at0 s k in
      let not_cut : k.cut ≡ 0 = omega arith in
      let shut_ = free_shut (k.cut + 1) (length k.states - drawn h) (omega arith) in
      let g : History T = record h { cutter = Some n } in
      let same_ : Same h g n = λ j ne.
      (refl, refl, ne_eqb n j (λ q. ne (sym q)) ∙ sym (uncut h.cutter j (sym k.cutter ∙ not_cut))) in
      let x' : Next T = record (now s k) { history = g; words = slice_set s.words 0 new; cut = k.cut + 1 } in (
        w,
        keeps,
        tt,
        moved s k n v w x' at record {
          words = ap (λ l. slice_set l 0 new) k.words
              ∙ ap (λ r. row r (taken h) (k.tokens + 4294967296 * k.waiting) k.states) (omega arith);
          narrow = k.narrow;
          sized = k.sized;
          as_many = refl;
          within = k.within;
          drawn_ = omega arith;
          more = omega arith;
          cut_ = omega arith;
          cutter = omega arith;
          marks = λ j ne. ne;
          undrawn = k.undrawn;
          waits = waits_stay s k n v w at refl;
          taken_ = taken_stay s k n v w at refl;
          counted = omega arith;
          given = refl;
          over = λ _ none_there. (shut_, none_there);
          card = refl;
          out_ = refl;
          same = same_;
          idle = (k.idle.0, k.idle.1, (same_ k.hub (λ q. mem.no_hub (sym q))).2 ∙ k.idle.2);
          roll = λ as_ m. match_kept h g k.roll as_ (λ j in_. same_ j
              (λ q. mem.not_back (subst (λ (i : ℕ). In i k.roll) q in_))) m;
          halves = λ j half ne f. half_cut h (Some n) k.states j half f;
          own = record {
            member = λ _. record {
              sent = mem.sent;
              got = mem.got;
              cut = sym (eq-eqb n n refl);
              no_hub = mem.no_hub;
              not_back = mem.not_back;
            };
            hub_ = λ r. absurd (no_hub v.role role r);
            back = λ r. absurd (no_spent v.role role r);
            debt = λ no_. absurd (no_ role);
            half = half_cut h (Some n) k.states n v.half fit.half;
            low = fit.low;
            ripe = fit.ripe;
            full = fit.full;
            cut_ = λ _. omega arith;
            empty = fit.empty;
            heard = fit.heard;
            over = λ on. (shut_, (fit.over on).1);
          };
          walk = silent k.walk g (length k.states) n w (looked_still s k n v w at refl (refl, refl, refl)) k.walked
              k.true_;
          laws = λ L O C L' O' C' l o c le q h'. (
            ⊎_elim (λ y. inl (omega arith)) (λ y. inr (omega arith)) q,
            inr (omega arith),
          );
        },
        ((λ _. (refl, refl)), λ ne. absurd (ne e)),
      ))
      (λ r ne. ((λ e. absurd (ne e)), λ _. (refl, refl)))
