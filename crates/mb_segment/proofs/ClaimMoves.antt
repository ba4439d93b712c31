-- The exchange that claims a position keeps the rule.
use Rattle.mb_segment.proofs.Base.{Allows, List, Some, [], ap, append_assoc, arith, at_last, at_longer}
use Rattle.mb_segment.proofs.Base.{either, get_elem?, inl, inr, length, length-append, none, refl}
use Rattle.mb_segment.proofs.Base.{set_else, slice_index, slice_set, some, step, subst, suc, sym, takes, ℕ}
use Rattle.mb_segment.proofs.Base.{⊎_elim, ◌*◌, ◌++◌, ◌+◌, ◌-◌, ◌<◌, ◌==◌, ◌∙◌, ◌∷◌, ◌≡◌, ◌≢◌, ◌≤◌}
use Rattle.mb_segment.specs.Vocabulary.{Claim, Claimed, Duty, Entry, Half, HalfFits, HasHalf, History, Homes, In}
use Rattle.mb_segment.specs.Vocabulary.{Keeps, Member, Nothing, Reads, Sat, Taken, Undrawn, View, Waiting}
use Rattle.mb_segment.specs.Vocabulary.{Writes, all_entries, claiming, done, drawn, entries, free}
use Rattle.mb_segment.specs.Vocabulary.{got_by, looked, row, spot, spots_by, taken, took, with_duty}
use Rattle.mb_segment.proofs.Spots.{below_length, entries_append, entry_of, heard_claim, size_set, snoc_at, to_other}
use Rattle.mb_segment.proofs.Spots.{to_own}
use Rattle.mb_segment.proofs.Halves.{half_else, half_here, match_kept, may_take, no_hub, no_reads, no_spent, no_writes}
use Rattle.mb_segment.proofs.Kept.{Goes, Next, Same, St, at1, exchanges, moved}
use Rattle.mb_segment.proofs.Walks.{a_claim, looked_still}

-- pass n claims position `old`, the first that waits. It saw that it was marked
module _ {T : Type 0} (s : St T) (k : Keeps s) (n : ℕ) (v w : View T) (at : get_elem? s.views n ≡ some v) (old : ℕ)
    (is : old ≡ taken k.history) (ripe : get_elem? k.states old ≢ some 0) (idle : v.half ≡ Nothing)
    (b : Entry T) (bs : List (Entry T)) (first : k.history.rest ≡ b ∷ bs)
    (w_half : w.half ≡ Reads (spot old b.value)) where
  abbrev claim : Claim T
  claim = record { entry = b; to = n }

  abbrev claimed : History T
  claimed = record k.history { claims = k.history.claims ++ claim ∷ []; rest = bs }

  abbrev lent : Homes T
  lent = slice_set s.homes old none

  all : all_entries claimed ≡ all_entries k.history
  all = ap (λ l. l ++ bs) (entries_append k.history.claims (claim ∷ []))
      ∙ (append_assoc (entries k.history.claims) (b ∷ []) bs ∙ ap (λ l. entries k.history.claims ++ l) (sym first))

  more : taken claimed ≡ old + 1
  more = let m : length (k.history.claims ++ claim ∷ []) ≡ length k.history.claims + 1
      = length-append k.history.claims (claim ∷ []) in omega arith

  less : length k.history.rest ≡ suc (length bs)
  less = ap length first

  same_drawn : drawn claimed ≡ drawn k.history
  same_drawn = let m = more in let l = less in omega arith

  here : get_elem? (k.history.claims ++ claim ∷ []) old ≡ some claim
  here = at_last k.history.claims claim old (sym is)

  there_ : get_elem? (all_entries k.history) old ≡ some b
  there_ = subst (λ (l : List (Entry T)). get_elem? l old ≡ some b) all
      (entry_of (k.history.claims ++ claim ∷ []) bs old claim here)

  marked : (get_elem? k.states old ≡ some (k.names b.by + 1)) × (get_elem? s.homes old ≡ some (some (Some b.value)))
  marked = ⊎_elim (λ z. absurd (ripe z.0)) (λ z. z) (k.waits old b (omega arith) there_)

  claim_undrawn : Undrawn claimed k.states lent
  claim_undrawn j le lt =
      let d = same_drawn in
      let l = less in
      let ne : j ≢ old = λ q. omega arith in
      let u = k.undrawn j (omega arith) lt in
      (u.0, set_else s.homes old j none ne ∙ u.1)

  claim_waits : Waiting k.names claimed (slice_set s.views n w) k.states lent
  claim_waits j e le e_at =
      let m = more in
      let ne : j ≢ old = λ q. omega arith in
      ⊎_elim
      (λ z. inl (
        z.0,
        half_else s.views n v w at e.by (Writes (spot j e.value))
            (no_writes v.half (spot j e.value) idle) z.1,
      ))
      (λ z. inr (z.0, set_else s.homes old j none ne ∙ z.1))
      (k.waits j e (omega arith) (subst (λ (l : List (Entry T)). get_elem? l j ≡ some e) all e_at))

  claim_taken : Taken k.names claimed (slice_set s.views n w) k.states lent
  claim_taken j c c_at = ⊎_elim
      (λ (t : get_elem? k.history.claims j ≡ some c).
      let under = below_length k.history.claims j c t in
      let ne : j ≢ old = λ q. omega arith in
      ⊎_elim
      (λ z. inl (
        z.0,
        half_else s.views n v w at c.to (Reads (spot j c.entry.value))
            (no_reads v.half (spot j c.entry.value) idle) z.1,
      ))
      (λ z. inr (z.0, set_else s.homes old j none ne ∙ z.1))
      (k.taken_ j c t))
      (λ (t : (j ≡ length k.history.claims) × (claim ≡ c)).
      let q : j ≡ old = t.0 ∙ sym is in
      inl (subst (λ (y : ℕ × Claim T). (get_elem? k.states y.0 ≡ some (k.names y.1.entry.by + 1))
      × HasHalf (slice_set s.views n w) y.1.to (Reads (spot y.0 y.1.entry.value)))
      (λ i. (sym q i, t.1 i))
      (marked.0, half_here s.views n v w at (Reads (spot old b.value)) w_half)))
      (snoc_at k.history.claims claim c j c_at)

  claim_halves : (j : ℕ) (half : Half T) → HalfFits k.history k.states j half → HalfFits claimed k.states j half
  claim_halves j Nothing f = tt
  claim_halves j (Writes p) f =
      let m = more in
      let ne : p.at ≢ old = λ q. ripe (subst (λ (i : ℕ). get_elem? k.states i ≡ some 0) q f.2) in
      let le = f.0 in (
        omega arith,
        subst (λ (l : List (Entry T)). get_elem? l p.at ≡ some record { by = j; value = p.value }) (sym all) f.1,
        f.2,
      )
  claim_halves j (Reads p) f = (
    (
      f.0.0,
      at_longer k.history.claims (claim ∷ []) p.at record
          { entry = record { by = f.0.0; value = p.value }; to = j } f.0.1,
    ),
    f.1,
  )

  claim_same : Same k.history claimed n
  claim_same j ne = (ap (spots_by j 0) all, to_other j 0 k.history.claims claim (λ q. ne (sym q)), refl)

  claim_got : got_by n claimed ≡ got_by n k.history ++ spot old b.value ∷ []
  claim_got = to_own n 0 b.value k.history.claims claim old (omega arith) refl refl

-- what a claim does to what its pass owes: at most one look less
abbrev IsLook : (Duty → Duty) → Duty → Type 0
IsLook f d = ((f d).fresh + (f d).asleep + (f d).leaving ≡ d.fresh + d.asleep + d.leaving)
    × ((f d).asleep ≡ d.asleep)
    × (d.wakes + d.looks + d.fresh + d.closing ≤ (f d).wakes + (f d).looks + (f d).fresh + (f d).closing + 1)
    × ((f d).closing ≡ d.closing)

module _ {T : Type 0} where
  first_of : (f : Duty → Duty) (slots n : ℕ) (me : Sat T) (old new : ℕ) → IsLook f me.0.duty → me.0.role ≡ Member
      → me.0.half ≡ Nothing → me.0.sight.ripe ≡ Some old → new ≡ old + 1
      → (s : St T) (k : Keeps s) → length s.homes ≡ slots → get_elem? s.views n ≡ some me.0
      → slice_index s.words 16 ≡ old
      → (rest' : List (Entry T)) → k.history.rest ≡ rest'
      → Goes s 16 n me (claiming f (step slots 16 old new none) me) new
  first_of f slots n me old new look role idle ripe is s k homes at e [] none_there =
      let r = (k.fits n me.0 at).ripe old ripe in
      let now_ : slice_index s.words 16 ≡ taken k.history = at1 s k in
      let z : length k.history.rest ≡ 0 = ap length none_there in
      absurd (r.1 (k.undrawn old (omega arith) r.0).0)
  first_of f slots n me old new look role idle ripe is s k homes at e (b ∷ bs) first =
      let v = me.0 in
      let w = with_duty f (took old b.value v) in
      let fit = k.fits n v at in
      let mem = fit.member role in
      let r = fit.ripe old ripe in
      let now_ : old ≡ taken k.history = sym e ∙ at1 s k in
      let g = claimed s k n v w at old now_ r.1 idle b bs first refl in
      let mo = more s k n v w at old now_ r.1 idle b bs first refl in
      let le = less s k n v w at old now_ r.1 idle b bs first refl in
      let al = all s k n v w at old now_ r.1 idle b bs first refl in
      let sd = same_drawn s k n v w at old now_ r.1 idle b bs first refl in
      let home = marked s k n v w at old now_ r.1 idle b bs first refl in
      let same_ = claim_same s k n v w at old now_ r.1 idle b bs first refl in
      let lent_ = size_set s.homes old none in
      let many = k.sized in
      let in_ = k.within in
      let low_ = fit.low in
      let may = may_take k.history k.states k.cut k.hub k.roll n v fit (omega arith) old now_ in
      let next : new ≡ taken g = omega arith in
      let frees : free k.cut (length k.states - drawn g) ≡ free k.cut (length k.states - drawn k.history)
      = ap (λ (m : ℕ). free k.cut (length k.states - m)) sd in
      let x' : Next T = record {
        history = g;
        words = slice_set s.words 16 new;
        states = k.states;
        homes = slice_set s.homes old none;
        tokens = k.tokens;
        waiting = k.waiting;
        cut = k.cut;
        walk = Claimed ∷ k.walk;
      } in (
        w,
        takes old (Some b.value),
        home.1,
        moved s k n v w x' at record {
          words = ap (λ l. slice_set l 16 new) k.words
              ∙ (λ i. row (sym sd i + 9223372036854775808 * k.cut) (next i)
              (k.tokens + 4294967296 * k.waiting) k.states);
          narrow = k.narrow;
          sized = omega arith;
          as_many = refl;
          within = omega arith;
          drawn_ = omega arith;
          more = omega arith;
          cut_ = omega arith;
          cutter = k.cutter;
          marks = λ j ne. ne;
          undrawn = claim_undrawn s k n v w at old now_ r.1 idle b bs first refl;
          waits = claim_waits s k n v w at old now_ r.1 idle b bs first refl;
          taken_ = claim_taken s k n v w at old now_ r.1 idle b bs first refl;
          counted = let l = look.0 in omega arith;
          given = refl;
          over = λ _ none_there. absurd (let z : length k.history.rest ≡ 0 = ap length none_there in omega arith);
          card = refl;
          out_ = refl;
          same = same_;
          idle = let o = same_ k.hub (λ q. mem.no_hub (sym q)) in (o.0 ∙ k.idle.0, o.1 ∙ k.idle.1, k.idle.2);
          roll = λ as_ m. match_kept k.history g k.roll as_
              (λ j in_. same_ j (λ q. mem.not_back (subst (λ (i : ℕ). In i k.roll) q in_))) m;
          halves = λ j half ne hf. claim_halves s k n v w at old now_ r.1 idle b bs first refl j half hf;
          own = record {
            member = λ _. record {
              sent = mem.sent ∙ sym (ap (spots_by n 0) al);
              got = ap (λ l. l ++ spot old b.value ∷ []) mem.got ∙ sym
                  (claim_got s k n v w at old now_ r.1 idle b bs first refl);
              cut = mem.cut;
              no_hub = mem.no_hub;
              not_back = mem.not_back;
            };
            hub_ = λ q. absurd (no_hub v.role role q);
            back = λ q. absurd (no_spent v.role role q);
            debt = λ no_. absurd (no_ role);
            half = (
              (b.by, here s k n v w at old now_ r.1 idle b bs first refl),
              (k.names b.by + 1, home.0, omega arith, let f = k.short b.by in omega arith),
            );
            low = omega arith;
            ripe = λ j e. let r = fit.ripe j e in let l = r.2 in (r.0, r.1, omega arith);
            full = λ on. sd ∙ fit.full on;
            cut_ = fit.cut_;
            empty = let e = fit.empty in omega arith;
            heard = heard_claim k.history g old b.value v (omega arith) (omega arith) (omega arith) (omega arith)
                fit.heard;
            over = λ on. absurd (let y : length k.history.rest ≡ 0 = ap length (fit.over on).1 in omega arith);
          };
          walk = a_claim k.walk g (length k.states) n w (looked_still s k n v w at refl (refl, refl, refl))
              (let d = k.walked.0 in let l = k.walked.1 in (omega arith, omega arith)) k.true_;
          laws = λ L O C L' O' C' l o c le q h. let lk = look.2 in let lc = look.3 in let la = look.1 in (
            ⊎_elim (λ y. inl (omega arith)) (λ y. inr (omega arith)) q,
            ⊎_elim (λ y. inl (omega arith)) (λ y. inr (omega arith)) h,
          );
        },
        ((λ _. (b.value, refl, refl, may)), λ ne. absurd (ne e)),
      )

  claims_as : (f : Duty → Duty) (slots n : ℕ) (me : Sat T) (old new : ℕ) → IsLook f me.0.duty → me.0.role ≡ Member
      → me.0.half ≡ Nothing → me.0.sight.ripe ≡ Some old → new ≡ old + 1
      → Allows Keeps slots n me 16 (λ r. either (r == old) new r) (claiming f (step slots 16 old new none) me)
  claims_as f slots n me old new look role idle ripe is =
      exchanges 16 (claiming f (step slots 16 old new none) me) slots n me old new
      (λ s k homes at e. first_of f slots n me old new look role idle ripe is s k homes at e k.history.rest refl)
      (λ r ne. ((λ e. absurd (ne e)), λ _. (refl, refl)))

  pub claims : (slots n : ℕ) (me : Sat T) (old new : ℕ) → me.0.role ≡ Member → me.0.half ≡ Nothing
      → me.0.sight.ripe ≡ Some old
      → new ≡ old + 1 → Allows Keeps slots n me 16 (λ r. either (r == old) new r)
      (claiming looked (step slots 16 old new none) me)
  claims slots n me old new role idle ripe is =
      claims_as looked slots n me old new (refl, refl, omega arith, refl) role idle ripe is

  pub claims_listed : (slots n : ℕ) (me : Sat T) (old new : ℕ) → 0 < me.0.duty.fresh → me.0.role ≡ Member
      → me.0.half ≡ Nothing
      → me.0.sight.ripe ≡ Some old → new ≡ old + 1
      → Allows Keeps slots n me 16 (λ r. either (r == old) new r) (claiming done (step slots 16 old new none) me)
  claims_listed slots n me old new fresh role idle ripe is =
      claims_as done slots n me old new (omega arith, refl, omega arith, refl) role idle ripe is
