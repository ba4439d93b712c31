-- The exchange that draws a position keeps the rule.
use Rattle.mb_ring.proofs.Base.{Allows, List, None, Option, Some, [], ap, append_assoc, arith, at_last, at_longer, carried_after, dec_lt, dite}
use Rattle.mb_ring.proofs.Base.{either, get_elem?, inl, inr, length, length-append, none, refl, set_else, slice_index, slice_set, some}
use Rattle.mb_ring.proofs.Base.{step, suc, zero, subst, sym, takes, ℕ, ⊎_elim, ◌%◌, ◌*◌, ◌++◌, ◌+◌, ◌-◌, ◌<◌, ◌==◌, ◌∙◌, ◌∷◌, ◌≡◌, ◌≢◌, ◌≤◌, ◌⊎◌}
use Rattle.mb_segment.proofs.Spots.{all_length, at_below, below_length, by_other, by_own, same_some, size_set, snoc_at}
use Rattle.mb_segment.proofs.Halves.{match_kept, no_hub, no_reads, no_spent, no_writes}
use Rattle.mb_ring.specs.Vocabulary.{Drew, Entry, Half, HalfFits, HasHalf, History, Homes, In, Keeps, Member, Nothing, Reads, Sat, Taken}
use Rattle.mb_ring.specs.Vocabulary.{Undrawn, View, Waiting, Writes, all_entries, done, drawing, drawing_picked, drawn, drew}
use Rattle.mb_ring.specs.Vocabulary.{Duty, Room, Values, free, looked}
use Rattle.mb_ring.specs.Vocabulary.{entries, owes_wake, sent_by, spot, spots_by, taken, turn, with_duty}
use Rattle.mb_ring.proofs.Turns.{lap_on, one_slot, other_slot}
use Rattle.mb_ring.proofs.Halves.{half_else, half_here, heard_draw, may_send}
use Rattle.mb_ring.proofs.Sleep.{IsLook, Law}
use Rattle.mb_ring.proofs.Kept.{Next, Same, St, looked_still, moved}
use Rattle.mb_ring.proofs.Walks.{a_draw}
use Rattle.mb_ring.proofs.Loads.{at0, exchanges, resized}

-- pass i draws position `old` for the value x. It saw that its slot was free
module _ {T : Type 0} (s : St T) (k : Keeps s) (i : ℕ) (v : View T) (at : get_elem? s.views i ≡ some v) (x : T)
    (old : ℕ) (is : old ≡ drawn k.history) (room : 2 * old ≤ turn k.size k.states old) (idle : v.half ≡ Nothing)
    (w : View T) (w_half : w.half ≡ Writes (spot old x)) where
  abbrev entry : Entry T
  entry = record { by = i; value = x }

  abbrev longer : History T
  longer = record k.history { rest = k.history.rest ++ entry ∷ [] }

  abbrev lent : Homes T
  lent = slice_set s.homes (old % k.size) none

  long : all_entries longer ≡ all_entries k.history ++ entry ∷ []
  long = sym (append_assoc (entries k.history.claims) k.history.rest (entry ∷ []))

  size : length (all_entries k.history) ≡ old
  size = let l = all_length k.history in omega arith

  more : drawn longer ≡ old + 1
  more = let m : length (k.history.rest ++ entry ∷ []) ≡ length k.history.rest + 1
      = length-append k.history.rest (entry ∷ []) in omega arith

  vacant : (turn k.size k.states old ≡ 2 * old) × (get_elem? s.homes (old % k.size) ≡ some (some None))
  vacant = let some_ = k.sized.2 in
      ⊎_elim (λ z. z) (λ z. let l = z.1 in absurd (omega arith)) (k.undrawn old (omega arith) (omega arith))

  -- fewer values wait than there are slots, since else the first of them has the slot
  below : old < taken k.history + k.size
  below = dite (dec_lt old (taken k.history + k.size)) (λ lt. lt) (λ no_.
      let some_ = k.sized.2 in
      let in_ = k.within in
      let t = taken k.history in
      let all = all_length k.history in
      let far : old ≡ t + k.size = omega arith in
      let e = at_below (all_entries k.history) t (omega arith) in
      let one : turn k.size k.states old ≡ turn k.size k.states t
      = ap (turn k.size k.states) far ∙ one_slot k.size k.states (t + k.size) t (lap_on k.size t) in
      ⊎_elim (λ z. let l = z.0 in absurd (omega arith)) (λ z. let l = z.0 in absurd (omega arith))
      (k.waits t e.0 (omega arith) e.1))

  -- the slot of a position with another turn
  other : (j : ℕ) → turn k.size k.states j ≢ 2 * old → j % k.size ≢ old % k.size
  other j ne = let f = vacant.0 in other_slot k.size k.states j old (λ q. ne (q ∙ f))

  draw_undrawn : Undrawn longer k.size k.states lent
  draw_undrawn j le lt = go (dec_lt j (drawn k.history + k.size))
    where
      go : Dec (j < drawn k.history + k.size)
          → ((turn k.size k.states j ≡ 2 * j) × (get_elem? lent (j % k.size) ≡ some (some None)))
          ⊎ ((k.size ≤ j) × (turn k.size k.states j < 2 * j))
      go (yes in_) = let m = more in ⊎_elim
          (λ z. let l = z.0 in
          inl (z.0, set_else s.homes (old % k.size) (j % k.size) none (other j (λ q. omega arith)) ∙ z.1))
          (λ z. inr z) (k.undrawn j (omega arith) in_)
      go (no out_) = let m = more in
          let far : j ≡ old + k.size = omega arith in
          let some_ = k.sized.2 in
          let f = vacant.0 in
          let one : turn k.size k.states j ≡ turn k.size k.states old
          = ap (turn k.size k.states) far ∙ one_slot k.size k.states (old + k.size) old (lap_on k.size old) in
          inr (omega arith, omega arith)

  draw_waits : Waiting longer (slice_set s.views i w) k.size k.states lent
  draw_waits j e le e_at = ⊎_elim
      (λ (t : get_elem? (all_entries k.history) j ≡ some e).
      let b = below_length (all_entries k.history) j e t in
      let sz = size in
      ⊎_elim
      (λ z. inl (
        z.0,
        half_else s.views i v w at e.by (Writes (spot j e.value))
            (no_writes v.half (spot j e.value) idle) z.1,
      ))
      (λ z. let l = z.0 in
      inr (z.0, set_else s.homes (old % k.size) (j % k.size) none (other j (λ q. omega arith)) ∙ z.1))
      (k.waits j e le t))
      (λ (t : (j ≡ length (all_entries k.history)) × (entry ≡ e)).
      let q : j ≡ old = t.0 ∙ size in
      inl (
        subst (λ (m : ℕ). turn k.size k.states m ≡ 2 * m) (sym q) vacant.0,
        subst (λ (y : ℕ × Entry T). HasHalf (slice_set s.views i w) y.1.by (Writes (spot y.0 y.1.value)))
            (λ z. (sym q z, t.1 z))
            (half_here s.views i v w at (Writes (spot old x)) w_half),
      ))
      (snoc_at (all_entries k.history) entry e j (subst (λ (l : List (Entry T)). get_elem? l j ≡ some e) long e_at))

  draw_taken : Taken longer (slice_set s.views i w) k.size k.states
  draw_taken j c c_at = ⊎_elim
      (λ z. inl (
        z.0,
        half_else s.views i v w at c.to (Reads (spot j c.entry.value))
            (no_reads v.half (spot j c.entry.value) idle) z.1,
      ))
      (λ z. inr z) (k.taken_ j c c_at)

  draw_halves : (j : ℕ) (half : Half T) → HalfFits k.history k.size k.states j half
      → HalfFits longer k.size k.states j half
  draw_halves j Nothing f = tt
  draw_halves j (Writes p) f = (
    f.0,
    subst (λ (l : List (Entry T)). get_elem? l p.at ≡ some record { by = j; value = p.value }) (sym long)
        (at_longer (all_entries k.history) (entry ∷ []) p.at record { by = j; value = p.value } f.1),
    f.2,
  )
  draw_halves j (Reads p) f = f

  draw_own : HalfFits longer k.size k.states i (Writes (spot old x))
  draw_own = (
    omega arith,
    subst (λ (l : List (Entry T)). get_elem? l old ≡ some entry) (sym long)
        (at_last (all_entries k.history) entry old size),
    vacant.0,
  )

  draw_same : Same k.history longer i
  draw_same j ne =
      (ap (spots_by j 0) long ∙ by_other j 0 (all_entries k.history) entry (λ q. ne (sym q)), refl, refl)

  draw_sent : sent_by i longer ≡ sent_by i k.history ++ spot old x ∷ []
  draw_sent = ap (spots_by i 0) long ∙ by_own i 0 x (all_entries k.history) entry old
      (let sz = size in omega arith) refl refl

-- one value more waits, and a wake is owed for it
draw_values : (d : Duty) (r r' z t a : ℕ) → r' ≡ r + 1 → Law d (owes_wake d) r r' z z t t a
draw_values d r r' z t a more L O C L' O' C' l o c le q h = (
  ⊎_elim (λ y. inl (omega arith)) (λ y. inr (omega arith)) q,
  ⊎_elim (λ y. inl (omega arith)) (λ y. inr (omega arith)) h,
)

-- one place less is free, and at most one look less is owed
draw_room : (f : Duty → Duty) (d : Duty) (cut n r r' t a : ℕ) → IsLook f d → cut ≡ 0 → r' ≡ r + 1
    → Law d (f d) (free cut (n - r)) (free cut (n - r')) (free cut 1) (free cut 1) t t a
draw_room f d zero n r r' t a look open_ more L O C L' O' C' l o c le q h =
    let e₁ = look.1 in let e₂ = look.2 in let e₃ = look.3 in (
      ⊎_elim (λ y. inl (omega arith)) (λ y. inr (omega arith)) q,
      ⊎_elim (λ y. inl (omega arith)) (λ y. inr (omega arith)) h,
    )
draw_room f d (suc m) n r r' t a look open_ more L O C L' O' C' l o c le q h = absurd (omega arith)

module _ {T : Type 0} where
  draws_one : (f : Duty → Duty) (x : T) (slots i : ℕ) (me : Sat T) (old new : ℕ) → IsLook f me.0.duty.room
      → me.0.role ≡ Member
      → me.0.half ≡ Nothing → me.0.sight.room ≡ Some old → old < 4611686018427387904 → new ≡ old + 1
      → Allows Keeps slots i me 0 (λ r. either (r == old) new r) (drawing f x (step slots 0 old new none) me)
  draws_one f x slots i me old new look role idle seen room is =
      exchanges 0 (drawing f x (step slots 0 old new none) me) slots i me old new
      (λ s k₀ many at e.
      let k = resized s k₀ slots many in
      let v = me.0 in
      let w = with_duty Room f (with_duty Values owes_wake (drew old x v)) in
      let h = k.history in
      let fit = k.fits i v at in
      let mem = fit.member role in
      let whole : old ≡ drawn h + 9223372036854775808 * k.cut = sym e ∙ at0 s k in
      let open_ : k.cut ≡ 0 = omega arith in
      let now_ : old ≡ drawn h = omega arith in
      let free_ = fit.sight.room old seen in
      let may = may_send h slots k.states k.cut k.hub k.roll i v fit role k.cutter open_ in
      let g = longer s k i v at x old now_ free_ idle w refl in
      let mo = more s k i v at x old now_ free_ idle w refl in
      let be = below s k i v at x old now_ free_ idle w refl in
      let lent_ = size_set s.homes (old % slots) none in
      let same_ = draw_same s k i v at x old now_ free_ idle w refl in
      let next : new ≡ drawn g + 9223372036854775808 * k.cut = omega arith in
      let x' : Next T = record {
        history = g;
        words = slice_set s.words 0 new;
        states = k.states;
        homes = slice_set s.homes (old % slots) none;
        tokens = k.tokens;
        waiting = k.waiting;
        cut = k.cut;
        walk = Drew ∷ k.walk;
      } in (
        w,
        takes (old % slots) None,
        (vacant s k i v at x old now_ free_ idle w refl).1,
        moved s k i v w x' at record {
          words = ap (λ l. slice_set l 0 new) k.words ∙ ap
              (λ r. r ∷ taken h ∷ (k.tokens Values + 4294967296 * k.waiting Values)
              ∷ (k.tokens Room + 4294967296 * k.waiting Room) ∷ k.states) next;
          narrow = λ q. (k.lists q).narrow;
          counted = elim [ Values ↦ omega arith | Room ↦ let e = look.0 in omega arith ];
          given = λ q. refl;
          laws = elim [
            | Values ↦ draw_values v.duty.values (length h.rest) (length g.rest) (free k.cut 1) (k.tokens Values)
                (k.waiting Values) (omega arith)
            | Room ↦ draw_room f v.duty.room k.cut slots (length h.rest) (length g.rest) (k.tokens Room)
                (k.waiting Room) look open_ (omega arith)
          ];
          sized = (k.sized.0, lent_ ∙ k.sized.1);
          small = omega arith;
          within = omega arith;
          drawn_ = omega arith;
          more = omega arith;
          cut_ = omega arith;
          cutter = k.cutter;
          turns = λ j. omega arith;
          undrawn = draw_undrawn s k i v at x old now_ free_ idle w refl;
          waits = draw_waits s k i v at x old now_ free_ idle w refl;
          taken_ = draw_taken s k i v at x old now_ free_ idle w refl;
          frozen = λ cut. absurd (omega arith);
          over = λ cut none_there. absurd (omega arith);
          role = refl;
          out_ = refl;
          same = same_;
          idle = let o = same_ k.hub (λ q. mem.no_hub (sym q)) in (o.0 ∙ k.idle.0, o.1 ∙ k.idle.1, k.idle.2);
          roll = λ as_ m. match_kept h g k.roll as_ (λ j in_. same_ j
              (λ q. mem.not_back (subst (λ (z : ℕ). In z k.roll) q in_))) m;
          halves = λ j half ne hf. draw_halves s k i v at x old now_ free_ idle w refl j half hf;
          walk = a_draw k.walk g slots i w (looked_still s k i v w at refl refl)
              (let d = k.walked.0 in let l = k.walked.1 in (omega arith, omega arith)) k.true_;
          own = record {
            member = λ _. record {
              sent = ap (λ l. l ++ spot old x ∷ []) mem.sent ∙ sym
                  (draw_sent s k i v at x old now_ free_ idle w refl);
              got = mem.got;
              cut = mem.cut;
              no_hub = mem.no_hub;
              not_back = mem.not_back;
            };
            hub_ = λ r. absurd (no_hub v.role role r);
            back = λ r. absurd (no_spent v.role role r);
            debt = λ no_. absurd (no_ role);
            half = draw_own s k i v at x old now_ free_ idle w refl;
            sight = let f = fit.sight in record {
              low = f.low;
              top = let t = f.top in omega arith;
              room = f.room;
              ripe = f.ripe;
              cut_ = f.cut_;
              empty = f.empty;
              full = λ t on. let a = (f.full t on).0 in let b = (f.full t on).1 in (omega arith, omega arith);
            };
            heard = heard_draw h g old x v (omega arith) (omega arith) (omega arith) fit.heard;
            over = λ on. absurd (let y = (fit.over on).0 in omega arith);
            last = λ _ on. absurd (let y = (fit.over on).0 in omega arith);
          };
        },
        ((λ _. (refl, refl, may)), λ ne. absurd (ne e)),
      ))
      (λ r ne. ((λ e. absurd (ne e)), λ _. (refl, refl)))

  -- the same, told of the value that the proof picked
  draws_as : (f : Duty → Duty) (x : T) (picked : Option T) → picked ≡ Some x → (slots i : ℕ) (me : Sat T)
      (old new : ℕ) → IsLook f me.0.duty.room
      → me.0.role ≡ Member → me.0.half ≡ Nothing → me.0.sight.room ≡ Some old → old < 4611686018427387904
      → new ≡ old + 1 → Allows Keeps slots i me 0 (λ r. either (r == old) new r)
      (drawing_picked f picked (step slots 0 old new none) me)
  draws_as f x picked pick slots i me old new look role idle seen room is s k homes at small =
      let a = draws_one f x slots i me old new look role idle seen room is s k homes at small in (
        a.0,
        a.1,
        a.2,
        a.3,
        λ y q. subst (λ (z : T). drawing f z (step slots 0 old new none) me (slice_index s.words 0)
            (a.0, carried_after me.1 a.1))
            (same_some x y (sym pick ∙ q)) a.4,
      )

  pub draws : (x : T) (picked : Option T) → picked ≡ Some x → (slots i : ℕ) (me : Sat T) (old new : ℕ)
      → me.0.role ≡ Member → me.0.half ≡ Nothing → me.0.sight.room ≡ Some old → old < 4611686018427387904
      → new ≡ old + 1 → Allows Keeps slots i me 0 (λ r. either (r == old) new r)
      (drawing_picked looked picked (step slots 0 old new none) me)
  draws x picked pick slots i me old new role idle seen room is =
      draws_as looked x picked pick slots i me old new (refl, refl, omega arith, refl) role idle seen room is

  pub draws_listed : (x : T) (picked : Option T) → picked ≡ Some x → (slots i : ℕ) (me : Sat T) (old new : ℕ)
      → 0 < me.0.duty.room.fresh → me.0.role ≡ Member → me.0.half ≡ Nothing → me.0.sight.room ≡ Some old
      → old < 4611686018427387904 → new ≡ old + 1 → Allows Keeps slots i me 0 (λ r. either (r == old) new r)
      (drawing_picked done picked (step slots 0 old new none) me)
  draws_listed x picked pick slots i me old new fresh role idle seen room is =
      draws_as done x picked pick slots i me old new (omega arith, refl, omega arith, refl) role idle seen room is
