-- The exchange that claims a position keeps the rule.
use Rattle.mb_ring.proofs.Base.{Allows, List, Some, [], ap, append_assoc, arith, at_last, at_longer, either, exchanged, get_elem?, inl, inr}
use Rattle.mb_ring.proofs.Base.{keeps, length, length-append, none, refl, set_else, slice_index, slice_set, some, step, subst, suc, sym, takes, ℕ, ⊎_elim}
use Rattle.mb_ring.proofs.Base.{◌%◌, ◌*◌, ◌++◌, ◌+◌, ◌-◌, ◌<◌, ◌==◌, ◌∙◌, ◌∷◌, ◌≡◌, ◌≢◌}
use Rattle.mb_segment.proofs.Spots.{entries_append, entry_of, size_set, snoc_at, to_other, to_own}
use Rattle.mb_segment.proofs.Halves.{match_kept, no_hub, no_reads, no_spent, no_writes}
use Rattle.mb_ring.specs.Vocabulary.{Claim, Claimed, Duty, Entry, Half, HalfFits, HasHalf, History, Homes, In, Keeps, Member, Nothing, Reads, Sat, Taken}
use Rattle.mb_ring.specs.Vocabulary.{Undrawn, View, Waiting, Writes, all_entries, claiming, done, drawn, looked, with_duty, entries, got_by}
use Rattle.mb_ring.specs.Vocabulary.{Room, Values, free, owes_wake}
use Rattle.mb_ring.specs.Vocabulary.{sees_taken, spot, spots_by, taken, took, turn}
use Rattle.mb_ring.proofs.Turns.{other_slot}
use Rattle.mb_ring.proofs.Halves.{half_else, half_here, heard_claim, may_take}
use Rattle.mb_ring.proofs.Sleep.{IsLook, Law, free_more}
use Rattle.mb_ring.proofs.Kept.{Next, Same, St, looked_still, moved}
use Rattle.mb_ring.proofs.Walks.{a_claim}
use Rattle.mb_ring.proofs.Loads.{Goes, at1, resized, sees, steps}

-- pass i claims position `old`, the first that waits. It saw that it was marked
module _ {T : Type 0} (s : St T) (k : Keeps s) (i : ℕ) (v w : View T) (at : get_elem? s.views i ≡ some v) (old : ℕ)
    (is : old ≡ taken k.history) (ripe : 2 * old < turn k.size k.states old) (idle : v.half ≡ Nothing)
    (b : Entry T) (bs : List (Entry T)) (first : k.history.rest ≡ b ∷ bs)
    (w_half : w.half ≡ Reads (spot old b.value)) where
  abbrev claim : Claim T
  claim = record { entry = b; to = i }

  abbrev claimed : History T
  claimed = record k.history { claims = k.history.claims ++ claim ∷ []; rest = bs }

  abbrev lent : Homes T
  lent = slice_set s.homes (old % k.size) none

  all : all_entries claimed ≡ all_entries k.history
  all = ap (λ l. l ++ bs) (entries_append k.history.claims (claim ∷ []))
      ∙ (append_assoc (entries k.history.claims) (b ∷ []) bs ∙ ap (λ l. entries k.history.claims ++ l) (sym first))

  more : taken claimed ≡ old + 1
  more = let m : length (k.history.claims ++ claim ∷ []) ≡ length k.history.claims + 1
      = length-append k.history.claims (claim ∷ []) in omega arith

  less : length k.history.rest ≡ suc (length bs)
  less = ap length first

  same_drawn : drawn claimed ≡ drawn k.history
  same_drawn = let m = more in let l = less in omega arith

  here : get_elem? (k.history.claims ++ claim ∷ []) old ≡ some claim
  here = at_last k.history.claims claim old (sym is)

  there_ : get_elem? (all_entries k.history) old ≡ some b
  there_ = subst (λ (l : List (Entry T)). get_elem? l old ≡ some b) all
      (entry_of (k.history.claims ++ claim ∷ []) bs old claim here)

  marked : (turn k.size k.states old ≡ 2 * old + 1) × (get_elem? s.homes (old % k.size) ≡ some (some (Some b.value)))
  marked = ⊎_elim (λ z. let l = z.0 in absurd (omega arith)) (λ z. z) (k.waits old b (omega arith) there_)

  -- the slot of a position with another turn
  other : (j : ℕ) → turn k.size k.states j ≢ 2 * old + 1 → j % k.size ≢ old % k.size
  other j ne = let f = marked.0 in other_slot k.size k.states j old (λ q. ne (q ∙ f))

  claim_undrawn : Undrawn claimed k.size k.states lent
  claim_undrawn j le lt = let d = same_drawn in ⊎_elim
      (λ z. let l = z.0 in
      inl (z.0, set_else s.homes (old % k.size) (j % k.size) none (other j (λ q. omega arith)) ∙ z.1))
      (λ z. inr z) (k.undrawn j (omega arith) (omega arith))

  claim_waits : Waiting claimed (slice_set s.views i w) k.size k.states lent
  claim_waits j e le e_at =
      let m = more in
      ⊎_elim
      (λ z. inl (
        z.0,
        half_else s.views i v w at e.by (Writes (spot j e.value))
            (no_writes v.half (spot j e.value) idle) z.1,
      ))
      (λ z. let l = z.0 in
      inr (z.0, set_else s.homes (old % k.size) (j % k.size) none (other j (λ q. omega arith)) ∙ z.1))
      (k.waits j e (omega arith) (subst (λ (l : List (Entry T)). get_elem? l j ≡ some e) all e_at))

  claim_taken : Taken claimed (slice_set s.views i w) k.size k.states
  claim_taken j c c_at = ⊎_elim
      (λ (t : get_elem? k.history.claims j ≡ some c). ⊎_elim
      (λ z. inl (
        z.0,
        half_else s.views i v w at c.to (Reads (spot j c.entry.value))
            (no_reads v.half (spot j c.entry.value) idle) z.1,
      ))
      (λ z. inr z)
      (k.taken_ j c t))
      (λ (t : (j ≡ length k.history.claims) × (claim ≡ c)).
      let q : j ≡ old = t.0 ∙ sym is in
      inl (
        subst (λ (m : ℕ). turn k.size k.states m ≡ 2 * m + 1) (sym q) marked.0,
        subst (λ (y : ℕ × Claim T). HasHalf (slice_set s.views i w) y.1.to (Reads (spot y.0 y.1.entry.value)))
            (λ z. (sym q z, t.1 z))
            (half_here s.views i v w at (Reads (spot old b.value)) w_half),
      ))
      (snoc_at k.history.claims claim c j c_at)

  claim_halves : (j : ℕ) (half : Half T) → HalfFits k.history k.size k.states j half
      → HalfFits claimed k.size k.states j half
  claim_halves j Nothing f = tt
  claim_halves j (Writes p) f =
      let m = more in
      let le = f.0 in
      let l = f.2 in
      let ne : p.at ≢ old = λ q. (
      let r : turn k.size k.states old ≡ 2 * old = subst (λ (m : ℕ). turn k.size k.states m ≡ 2 * m) q f.2 in
      omega arith
      ) in (
        omega arith,
        subst (λ (l : List (Entry T)). get_elem? l p.at ≡ some record { by = j; value = p.value }) (sym all) f.1,
        f.2,
      )
  claim_halves j (Reads p) f = (
    (
      f.0.0,
      at_longer k.history.claims (claim ∷ []) p.at record
          { entry = record { by = f.0.0; value = p.value }; to = j } f.0.1,
    ),
    f.1,
  )

  claim_same : Same k.history claimed i
  claim_same j ne = (ap (spots_by j 0) all, to_other j 0 k.history.claims claim (λ q. ne (sym q)), refl)

  claim_got : got_by i claimed ≡ got_by i k.history ++ spot old b.value ∷ []
  claim_got = to_own i 0 b.value k.history.claims claim old (omega arith) refl refl

-- one value less waits, and at most one look less is owed
claim_values : (f : Duty → Duty) (d : Duty) (r r' z t a : ℕ) → IsLook f d → r ≡ r' + 1
    → Law d (f d) r r' z z t t a
claim_values f d r r' z t a look less_ L O C L' O' C' l o c le q h =
    let e₁ = look.1 in let e₂ = look.2 in let e₃ = look.3 in (
      ⊎_elim (λ y. inl (omega arith)) (λ y. inr (omega arith)) q,
      ⊎_elim (λ y. inl (omega arith)) (λ y. inr (omega arith)) h,
    )

-- one place more is free at most, and a wake is owed for it
claim_room : (d : Duty) (cut n r r' t a : ℕ) → r ≡ r' + 1
    → Law d (owes_wake d) (free cut (n - r)) (free cut (n - r')) (free cut 1) (free cut 1) t t a
claim_room d cut n r r' t a less_ L O C L' O' C' l o c le q h =
    let more_ = free_more cut (n - r) (n - r') (omega arith) in (
      ⊎_elim (λ y. inl (omega arith)) (λ y. inr (omega arith)) q,
      ⊎_elim (λ y. inl (omega arith)) (λ y. inr (omega arith)) h,
    )

module _ {T : Type 0} where
  first_of : (f : Duty → Duty) (slots i : ℕ) (me : Sat T) (old new : ℕ) → IsLook f me.0.duty.values → me.0.role ≡ Member
      → me.0.half ≡ Nothing → me.0.sight.ripe ≡ Some old → new ≡ old + 1
      → (s : St T) (k₀ : Keeps s) → k₀.size ≡ slots → get_elem? s.views i ≡ some me.0
      → slice_index s.words 1 ≡ old
      → (rest' : List (Entry T)) → k₀.history.rest ≡ rest'
      → Goes s 1 i me (claiming f (step slots 1 old new none) me) new
  first_of f slots i me old new look role idle ripe is s k₀ many at e [] none_there =
      let k = resized s k₀ slots many in
      let r = ((k.fits i me.0 at).sight.ripe old ripe).1 in
      let some_ = k.sized.2 in
      let now_ : slice_index s.words 1 ≡ taken k.history = at1 s k in
      let z : length k.history.rest ≡ 0 = ap length none_there in
      ⊎_elim (λ z. let l = z.0 in absurd (omega arith)) (λ z. let l = z.1 in absurd (omega arith))
      (k.undrawn old (omega arith) (omega arith))
  first_of f slots i me old new look role idle ripe is s k₀ many at e (b ∷ bs) first =
      let k = resized s k₀ slots many in
      let v = me.0 in
      let w = with_duty Room owes_wake (with_duty Values f (took old b.value v)) in
      let fit = k.fits i v at in
      let mem = fit.member role in
      let r = (fit.sight.ripe old ripe).1 in
      let now_ : old ≡ taken k.history = sym e ∙ at1 s k in
      let g = claimed s k i v w at old now_ r idle b bs first refl in
      let mo = more s k i v w at old now_ r idle b bs first refl in
      let le = less s k i v w at old now_ r idle b bs first refl in
      let al = all s k i v w at old now_ r idle b bs first refl in
      let sd = same_drawn s k i v w at old now_ r idle b bs first refl in
      let home = marked s k i v w at old now_ r idle b bs first refl in
      let same_ = claim_same s k i v w at old now_ r idle b bs first refl in
      let lent_ = size_set s.homes (old % slots) none in
      let in_ = k.within in
      -- (`omega` uses sd and sm below)
      let sm = k.small in
      let low_ = fit.sight.low in
      let may = may_take k.history slots k.states k.cut k.hub k.roll i v fit (omega arith) in
      let next : new ≡ taken g = omega arith in
      let x' : Next T = record {
        history = g;
        words = slice_set s.words 1 new;
        states = k.states;
        homes = slice_set s.homes (old % slots) none;
        tokens = k.tokens;
        waiting = k.waiting;
        cut = k.cut;
        walk = Claimed ∷ k.walk;
      } in (
        w,
        takes (old % slots) (Some b.value),
        home.1,
        moved s k i v w x' at record {
          words = ap (λ l. slice_set l 1 new) k.words
              ∙ (λ z. (sym sd z + 9223372036854775808 * k.cut) ∷ next z
              ∷ (k.tokens Values + 4294967296 * k.waiting Values)
              ∷ (k.tokens Room + 4294967296 * k.waiting Room) ∷ k.states);
          narrow = λ q. (k.lists q).narrow;
          counted = elim [ Values ↦ let l = look.0 in omega arith | Room ↦ refl ];
          given = λ q. refl;
          laws = elim [
            | Values ↦ claim_values f v.duty.values (length k.history.rest) (length bs) (free k.cut 1)
                (k.tokens Values) (k.waiting Values) look (omega arith)
            | Room ↦ claim_room v.duty.room k.cut slots (length k.history.rest) (length bs) (k.tokens Room)
                (k.waiting Room) (omega arith)
          ];
          sized = (k.sized.0, lent_ ∙ k.sized.1);
          small = omega arith;
          within = omega arith;
          drawn_ = omega arith;
          more = omega arith;
          cut_ = omega arith;
          cutter = k.cutter;
          turns = λ j. omega arith;
          undrawn = claim_undrawn s k i v w at old now_ r idle b bs first refl;
          waits = claim_waits s k i v w at old now_ r idle b bs first refl;
          taken_ = claim_taken s k i v w at old now_ r idle b bs first refl;
          frozen = λ _. omega arith;
          over = λ _ none_there. absurd (let z : length k.history.rest ≡ 0 = ap length none_there in omega arith);
          role = refl;
          out_ = refl;
          same = same_;
          idle = let o = same_ k.hub (λ q. mem.no_hub (sym q)) in (o.0 ∙ k.idle.0, o.1 ∙ k.idle.1, k.idle.2);
          roll = λ as_ m. match_kept k.history g k.roll as_
              (λ j in_. same_ j (λ q. mem.not_back (subst (λ (z : ℕ). In z k.roll) q in_))) m;
          halves = λ j half ne hf. claim_halves s k i v w at old now_ r idle b bs first refl j half hf;
          walk = a_claim k.walk g slots i w (looked_still s k i v w at refl refl)
              (let d = k.walked.0 in let l = k.walked.1 in (omega arith, omega arith)) k.true_;
          own = record {
            member = λ _. record {
              sent = mem.sent ∙ sym (ap (spots_by i 0) al);
              got = ap (λ l. l ++ spot old b.value ∷ []) mem.got ∙ sym
                  (claim_got s k i v w at old now_ r idle b bs first refl);
              cut = mem.cut;
              no_hub = mem.no_hub;
              not_back = mem.not_back;
            };
            hub_ = λ q. absurd (no_hub v.role role q);
            back = λ q. absurd (no_spent v.role role q);
            debt = λ no_. absurd (no_ role);
            half = ((b.by, here s k i v w at old now_ r idle b bs first refl), home.0);
            sight = let f = fit.sight in record {
              low = let l = f.low in omega arith;
              top = let l = f.top in omega arith;
              room = f.room;
              ripe = λ j e. let l = (f.ripe j e).0 in (omega arith, (f.ripe j e).1);
              cut_ = f.cut_;
              empty = let l = f.empty in omega arith;
              full = λ t on. let a = (f.full t on).0 in let b = (f.full t on).1 in (omega arith, omega arith);
            };
            heard = heard_claim k.history g old b.value v (omega arith) (omega arith) (omega arith) (omega arith)
                fit.heard;
            over = λ on. absurd (let y : length k.history.rest ≡ 0 = ap length (fit.over on).1 in omega arith);
            last = λ _ on. absurd (let y : length k.history.rest ≡ 0 = ap length (fit.over on).1 in omega arith);
          };
        },
        ((λ _. (b.value, refl, refl, may)), λ ne. absurd (ne e)),
      )

  claims_as : (f : Duty → Duty) (slots i : ℕ) (me : Sat T) (old new : ℕ) → IsLook f me.0.duty.values
      → me.0.role ≡ Member → me.0.half ≡ Nothing → me.0.sight.ripe ≡ Some old → new ≡ old + 1
      → Allows Keeps slots i me 1 (λ r. either (r == old) new r) (claiming f (step slots 1 old new none) me)
  claims_as f slots i me old new look role idle ripe is =
      steps slots i me 1 (λ r. either (r == old) new r) (claiming f (step slots 1 old new none) me)
      (λ s k many at. exchanged (slice_index s.words 1) old new
      (Goes s 1 i me (claiming f (step slots 1 old new none) me))
      (λ e. first_of f slots i me old new look role idle ripe is s k many at e k.history.rest refl)
      (λ ne. let now_ = at1 s k in let r = slice_index s.words 1 in let f' = (k.fits i me.0 at).sight in
      let past = (f'.ripe old ripe).0 in let low_ = f'.low in (
        sees_taken r me.0,
        keeps,
        tt,
        sees s k 1 i me.0 at me.1 record me.0.sight { low = r } refl record {
          low = omega arith;
          top = f'.top;
          room = f'.room;
          ripe = f'.ripe;
          cut_ = f'.cut_;
          empty = f'.empty;
          full = f'.full;
        } (omega arith),
        ((λ e. absurd (ne e)), λ _. ((refl, refl), omega arith)),
      )))

  pub claims : (slots i : ℕ) (me : Sat T) (old new : ℕ) → me.0.role ≡ Member → me.0.half ≡ Nothing
      → me.0.sight.ripe ≡ Some old → new ≡ old + 1
      → Allows Keeps slots i me 1 (λ r. either (r == old) new r) (claiming looked (step slots 1 old new none) me)
  claims slots i me old new role idle ripe is =
      claims_as looked slots i me old new (refl, refl, omega arith, refl) role idle ripe is

  pub claims_listed : (slots i : ℕ) (me : Sat T) (old new : ℕ) → 0 < me.0.duty.values.fresh → me.0.role ≡ Member
      → me.0.half ≡ Nothing → me.0.sight.ripe ≡ Some old → new ≡ old + 1
      → Allows Keeps slots i me 1 (λ r. either (r == old) new r) (claiming done (step slots 1 old new none) me)
  claims_listed slots i me old new fresh role idle ripe is =
      claims_as done slots i me old new (omega arith, refl, omega arith, refl) role idle ripe is
