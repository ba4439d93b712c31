-- After each step of a table some plan, a history and a seat for each part, explains words and views (`IsStateOf`).
use Rattle.std.proofs.Common.{◌≡◌, ◌≢◌, ℕ, suc, ◌<◌, ◌≤◌, Some, None, List, [], ◌∷◌, ◌++◌, length, set, slice_get}
use Rattle.std.proofs.Common.{slice_index, refl, sym, ap, ◌∙◌, subst, ⊎_elim, inl, inr, arith, length-append}
use Rattle.std.proofs.Common.{length-set, get_or-set_same, get_or-set_other, le_refl}
use native.Mathlib.Decide.{ℕ_discrete}
use Rattle.atomic_table.proofs.Lists.{at_set}
use Rattle.mb_claim.specs.Vocabulary.{part, consumer_count, IsMemoryOf}
use Rattle.mb_shared_claims.specs.Types.{ClaimAccess, TableSize, View, Issuing, Drawing, Standing, Taking, Spent}
use Rattle.mb_shared_claims.specs.Views.{claims_of_size, Roll, WasTaken, IsOut, HasPart, IsViewAt, HasPartAt}
use Rattle.mb_shared_claims.specs.Rule.{roster, Plan, FitsTable, IsStateOf}
use Rattle.mb_shared_claims.proofs.Rolls.{get-snoc, get_front, get-set_same, get-set_other, get-set, given_at, moved}
use Rattle.mb_shared_claims.proofs.Rolls.{moved-here, moved-else}
use Rattle.mb_shared_claims.proofs.Holders.{all_set, all_added, kept_at, kept_beside, has_added, has_replaced}
use Rattle.mb_shared_claims.proofs.Holders.{at_replaced}

-- an access comes first in the part of its consumer
abbrev pub OwnPart : Type 0
OwnPart = (a : ClaimAccess) (h : List ClaimAccess) → part a.consumer (a ∷ h) ≡ a ∷ part a.consumer h

-- an access leaves the parts of all other consumers as they were
abbrev pub OtherParts : Type 0
OtherParts = (c : ℕ) (a : ClaimAccess) (h : List ClaimAccess) → a.consumer ≢ c → part c (a ∷ h) ≡ part c h

-- if a view that is not the hub's fits the table, it also fits with any other plan and any other count of numbers drawn
fits_apart :
    (k : TableSize) (plan other : Plan) (drawn more seat : ℕ) → seat ≢ plan.hub → (v : View)
    → FitsTable k plan drawn seat v → FitsTable k other more seat v
fits_apart k plan other drawn more seat apart (Issuing size roll) f = absurd (apart f.1.0)
fits_apart k plan other drawn more seat apart (Drawing size roll) f = absurd (apart f.1.0)
fits_apart k plan other drawn more seat apart (Standing size own done) f = f
fits_apart k plan other drawn more seat apart (Taking size roll own done) f = absurd (apart f.1.0)
fits_apart k plan other drawn more seat apart Spent f = f

-- the plan with this access added to its history
abbrev pub longer : ClaimAccess → Plan → Plan
longer a plan = record { history = a ∷ plan.history; given = plan.given; hub = plan.hub; place = plan.place }

-- the plan with one number more issued, whose part is at this seat
abbrev pub with_number : ℕ → Plan → Plan
with_number seat plan = record {
  history = plan.history;
  given = suc plan.given;
  hub = plan.hub;
  place = moved plan.place plan.given seat;
}

-- the plan in which the part of number c is at this seat
abbrev pub with_place : ℕ → ℕ → Plan → Plan
with_place c seat plan = record {
  history = plan.history;
  given = plan.given;
  hub = plan.hub;
  place = moved plan.place c seat;
}

module _ (k : TableSize) (words : List ℕ) (views : List View) (plan : Plan) (s : IsStateOf k words views plan) where
  -- how many numbers were drawn
  abbrev count : ℕ
  count = slice_index words (roster k)

  -- ---- an access of a consumer's seat: its views before and after, its part, and where all parts are then
  module _ (size : TableSize) (id own at n : ℕ) (done : List ClaimAccess) (a : ClaimAccess)
      (is : IsViewAt views id (Standing size own done)) (of_own : a.consumer ≡ own) (own_part : OwnPart)
      (other_parts : OtherParts) where
    abbrev before : View
    before = Standing size own done

    abbrev after : View
    after = Standing size own (a ∷ done)

    -- the seat's number was issued, and the plan has the part at this seat
    mine : (own < plan.given) × (plan.place own ≡ id) × (done ≡ part own plan.history)
    mine = s.parts id own done (before, is, (refl, refl))

    own_now : part own (a ∷ plan.history) ≡ a ∷ done
    own_now =
        subst (λ c. part c (a ∷ plan.history) ≡ a ∷ part c plan.history) of_own (own_part a plan.history)
        ∙ ap (λ xs. a ∷ xs) (sym mine.2)

    other_now : (c : ℕ) → c ≢ own → part c (a ∷ plan.history) ≡ part c plan.history
    other_now c apart = other_parts c a plan.history (λ e. apart (sym e ∙ of_own))

    stands_now :
        (c : ℕ) → c < plan.given → Dec (c ≡ own)
        → HasPartAt (set views id after) (plan.place c) c (part c (a ∷ plan.history))
    stands_now c below (yes same) =
        subst (λ d. HasPartAt (set views id after) (plan.place d) d (part d (a ∷ plan.history))) (sym same)
        (subst (λ seat. HasPartAt (set views id after) seat own (part own (a ∷ plan.history))) (sym mine.1)
        (has_replaced views id own before after (part own (a ∷ plan.history)) is (refl, own_now)))
    stands_now c below (no apart) =
        subst (HasPartAt (set views id after) (plan.place c) c) (sym (other_now c apart))
        (kept_at views id (plan.place c) c before after (part c plan.history) is (λ has. absurd (apart has.0))
        (s.stands c below))

    parts_now :
        (seat c : ℕ) (xs : List ClaimAccess) → HasPartAt (set views id after) seat c xs
        → (c < plan.given) × (plan.place c ≡ seat) × (xs ≡ part c (a ∷ plan.history))
    parts_now seat c xs has =
        all_set (λ j u. (d : ℕ) (ys : List ClaimAccess) → HasPart u d ys
        → (d < plan.given) × (plan.place d ≡ j) × (ys ≡ part d (a ∷ plan.history))) views id after
        (λ j u apart e d ys h.
        let p = s.parts j d ys (u, e, h) in
        (p.0, p.1, p.2 ∙ sym (other_now d (λ same. apart (sym p.1 ∙ ap plan.place same ∙ mine.1)))))
        (λ d ys h. subst (λ (z : ℕ × List ClaimAccess). (z.0 < plan.given) × (plan.place z.0 ≡ id)
        × (z.1 ≡ part z.0 (a ∷ plan.history))) (λ i. (sym h.0 i, sym h.1 i)) (mine.0, mine.1, sym own_now))
        seat has.0 has.1 c xs has.2

    module _ (within : at < roster k) (memory : IsMemoryOf (claims_of_size k) (set words at n) (a ∷ plan.history)) where
      same_count : slice_index (set words at n) (roster k) ≡ count
      same_count = get_or-set_other words at (roster k) n 0 (λ e. omega arith)

      -- after an access the plan with that access in its history explains the table
      pub after_access : IsStateOf k (set words at n) (set views id after) (longer a plan)
      after_access = record {
        memory = memory;
        wide = length-set words at n ∙ s.wide;
        few = subst (λ m. m ≤ consumer_count k.layout) (sym same_count) s.few;
        drawn = subst (λ m. plan.given ≤ m) (sym same_count) s.drawn;
        stands = λ c below. stands_now c below (ℕ_discrete c own);
        parts = parts_now;
        others = λ c past. let below = mine.0 in other_now c (λ e. omega arith) ∙ s.others c past;
        fits = subst (λ m. (j : ℕ) (u : View) → IsViewAt (set views id after) j u → FitsTable k (longer a plan) m j u)
            (sym same_count)
            (all_set (FitsTable k (longer a plan) count) views id after (λ j u _ e. s.fits j u e)
            (s.fits id before is));
      }

  -- ---- the hub draws a number: its view fits before, and the roster then counts one more
  module _ (size : TableSize) (id more : ℕ) (roll : Roll) (is : IsViewAt views id (Issuing size roll))
      (is_more : more ≡ suc count) (room : count < consumer_count k.layout)
      (memory : IsMemoryOf (claims_of_size k) (set words (roster k) more) plan.history) where
    hub_fits : FitsTable k plan count id (Issuing size roll)
    hub_fits = s.fits id (Issuing size roll) is

    count_now : slice_index (set words (roster k) more) (roster k) ≡ more
    count_now = let wide = s.wide in get_or-set_same words (roster k) more 0 (omega arith)

    -- after a number is drawn the same plan explains the table
    pub after_drawing :
        IsStateOf k (set words (roster k) more) (set views id (Drawing size roll)) plan
    after_drawing = record {
      memory = memory;
      wide = length-set words (roster k) more ∙ s.wide;
      few = subst (λ m. m ≤ consumer_count k.layout) (sym count_now) (omega arith);
      drawn = let d = s.drawn in subst (λ m. plan.given ≤ m) (sym count_now) (omega arith);
      stands = λ c below.
          kept_at views id (plan.place c) c (Issuing size roll) (Drawing size roll)
          (part c plan.history) is (λ has. has)
          (s.stands c below);
      parts = λ seat c xs has.
          all_set (λ j u. (d : ℕ) (ys : List ClaimAccess) → HasPart u d ys
          → (d < plan.given) × (plan.place d ≡ j) × (ys ≡ part d plan.history)) views id (Drawing size roll)
          (λ j u _ e d ys h. s.parts j d ys (u, e, h)) (λ d ys h. s.parts id d ys (Issuing size roll, is, h)) seat
          has.0 has.1 c xs has.2;
      others = s.others;
      fits = subst (λ m. (j : ℕ) (u : View) → IsViewAt (set views id (Drawing size roll)) j u → FitsTable k plan m j u)
          (sym count_now)
          (all_set (FitsTable k plan more) views id (Drawing size roll)
          (λ j u apart e. fits_apart k plan plan count more j (λ e'. apart (e' ∙ sym hub_fits.1.0)) u (s.fits j u e))
          (hub_fits.0, hub_fits.1, is_more ∙ ap suc hub_fits.2));
    }

  -- ---- the hub issues a drawn number: `left` is its view then, `right` the new seat's, `seats` all views but it
  module _ (size : TableSize) (id : ℕ) (roll : Roll) (is : IsViewAt views id (Drawing size roll)) where
    drawing_fits : FitsTable k plan count id (Drawing size roll)
    drawing_fits = s.fits id (Drawing size roll) is

    abbrev left : View
    left = Issuing size (roll ++ None ∷ [])

    abbrev right : View
    right = Standing size (length roll) []

    abbrev seats : List View
    seats = set views id left

    abbrev given_plan : Plan
    given_plan = with_number (length seats) plan

    stands_given :
        (c : ℕ) → c < suc plan.given → Dec (c ≡ plan.given)
        → HasPartAt (seats ++ right ∷ []) (given_plan.place c) c (part c plan.history)
    stands_given c below (yes same) =
        subst (λ d. HasPartAt (seats ++ right ∷ []) (given_plan.place d) d (part d plan.history)) (sym same)
        (subst (λ seat. HasPartAt (seats ++ right ∷ []) seat plan.given (part plan.given plan.history))
        (sym (moved-here plan.place plan.given (length seats)))
        (has_added seats right plan.given (part plan.given plan.history)
        (sym drawing_fits.1.1, s.others plan.given (le_refl plan.given))))
    stands_given c below (no apart) =
        subst (λ seat. HasPartAt (seats ++ right ∷ []) seat c (part c plan.history))
        (sym (moved-else plan.place plan.given (length seats) c apart))
        (kept_beside seats right (plan.place c) c (part c plan.history)
        (kept_at views id (plan.place c) c (Drawing size roll) left (part c plan.history) is
        (get_front roll (None ∷ []) c (Some (part c plan.history))) (s.stands c (omega arith))))

    -- in the plan with the new number, a part that a seat had before is at the same seat
    parts_before :
        (j d : ℕ) (ys : List ClaimAccess) → HasPartAt views j d ys
        → (d < suc plan.given) × (given_plan.place d ≡ j) × (ys ≡ part d plan.history)
    parts_before j d ys has =
        let p = s.parts j d ys has in
        let below = p.0 in
        (omega arith, moved-else plan.place plan.given (length seats) d (λ e. omega arith) ∙ p.1, p.2)

    parts_given :
        (seat c : ℕ) (xs : List ClaimAccess) → HasPartAt (seats ++ right ∷ []) seat c xs
        → (c < suc plan.given) × (given_plan.place c ≡ seat) × (xs ≡ part c plan.history)
    parts_given seat c xs has =
        let P : ℕ → View → Type 0 =
        λ j u. (d : ℕ) (ys : List ClaimAccess) → HasPart u d ys
        → (d < suc plan.given) × (given_plan.place d ≡ j) × (ys ≡ part d plan.history) in
        all_added P seats right
        (all_set P views id left (λ j u _ e d ys h. parts_before j d ys (u, e, h))
        (λ d ys h.
        parts_before id d ys (
          Drawing size roll,
          is,
          ⊎_elim (λ (t : slice_get roll d ≡ Some (Some ys)). t) (λ (t : None ≡ Some ys). absurd (cc))
              (get-snoc roll None (Some ys) d h),
        )))
        (λ d ys h.
        let here : d ≡ plan.given = h.0 ∙ drawing_fits.1.1 in
        subst (λ (z : ℕ × List ClaimAccess). (z.0 < suc plan.given) × (given_plan.place z.0 ≡ length seats)
        × (z.1 ≡ part z.0 plan.history)) (λ i. (sym here i, sym h.1 i))
        (omega arith, moved-here plan.place plan.given (length seats), sym (s.others plan.given (le_refl plan.given))))
        seat has.0 has.1 c xs has.2

    -- after a number is issued the plan with it explains the table
    pub after_giving : IsStateOf k words (seats ++ right ∷ []) given_plan
    after_giving =
        let counted : count ≡ suc plan.given = drawing_fits.2 in
        let in_roll : length roll ≡ plan.given = drawing_fits.1.1 in
        record {
          memory = s.memory;
          wide = s.wide;
          few = s.few;
          drawn = omega arith;
          stands = λ c below. stands_given c below (ℕ_discrete c plan.given);
          parts = parts_given;
          others = λ c past. s.others c (omega arith);
          fits = all_added (FitsTable k given_plan count) seats right
              (all_set (FitsTable k given_plan count) views id left
              (λ j u apart e.
              fits_apart k plan given_plan count count j (λ e'. apart (e' ∙ sym drawing_fits.1.0)) u (s.fits j u e)) (
                drawing_fits.0,
                (drawing_fits.1.0, omega (arith, length-append roll (None ∷ []), in_roll)),
                counted,
              ))
              drawing_fits.0;
        }

  -- ---- the hub takes a seat back: its view, all views and the plan then, whose seat that was, and where all parts are
  module _ (size its : TableSize) (id other own : ℕ) (roll : Roll) (done : List ClaimAccess) (apart : other ≢ id)
      (is : IsViewAt views id (Issuing size roll))
      (there : IsViewAt (set views id (Taking size roll own done)) other (Standing its own done)) where
    abbrev both : View
    both = Taking size roll own done

    abbrev joined : List View
    joined = set (set views id both) other Spent

    abbrev taken_plan : Plan
    taken_plan = with_place own id plan

    was : IsViewAt views other (Standing its own done)
    was =
        ⊎_elim (λ (t : (other ≡ id) × (both ≡ Standing its own done)). absurd (apart t.0))
        (λ (t : (other ≢ id) × IsViewAt views other (Standing its own done)). t.1)
        (at_set views id other both (Standing its own done) there)

    theirs : (own < plan.given) × (plan.place own ≡ other) × (done ≡ part own plan.history)
    theirs = s.parts other own done (Standing its own done, was, (refl, refl))

    issuing_fits : FitsTable k plan count id (Issuing size roll)
    issuing_fits = s.fits id (Issuing size roll) is

    -- if the part of number d is at another seat than the one returned, d is not the number of the seat returned
    elsewhere : (j d : ℕ) → j ≢ other → plan.place d ≡ j → d ≢ own
    elsewhere j d far at same = far (sym at ∙ ap plan.place same ∙ theirs.1)

    was_out : IsOut roll own
    was_out =
        let below = theirs.0 in
        let in_roll : length roll ≡ plan.given = issuing_fits.1.1 in
        ⊎_elim (λ (none : IsOut roll own). none)
        (λ (t : (p : List ClaimAccess) × WasTaken roll own p).
        absurd (elsewhere id own (λ e. apart (sym e)) (s.parts id own t.0 (Issuing size roll, is, t.1)).1 refl))
        (given_at roll own (omega arith))

    stands_taken :
        (c : ℕ) → c < plan.given → Dec (c ≡ own)
        → HasPartAt joined (taken_plan.place c) c (part c plan.history)
    stands_taken c below (yes same) =
        subst (λ d. HasPartAt joined (taken_plan.place d) d (part d plan.history)) (sym same)
        (subst (λ seat. HasPartAt joined seat own (part own plan.history)) (sym (moved-here plan.place own id)) (
          both,
          Rattle.atomic_table.proofs.Lists.set_else (set views id both) other id Spent (λ e. apart (sym e))
              ∙ at_replaced views id (Issuing size roll) both is,
          inl (refl, sym theirs.2),
        ))
    stands_taken c below (no far) =
        subst (λ seat. HasPartAt joined seat c (part c plan.history)) (sym (moved-else plan.place own id c far))
        (kept_at (set views id both) other (plan.place c) c (Standing its own done) Spent (part c plan.history) there
        (λ has. absurd (far has.0))
        (kept_at views id (plan.place c) c (Issuing size roll) both (part c plan.history) is inr (s.stands c below)))

    -- in the plan after the join, a part that another seat had is at the same seat
    parts_apart :
        (j d : ℕ) (ys : List ClaimAccess) → j ≢ other → HasPartAt views j d ys
        → (d < plan.given) × (taken_plan.place d ≡ j) × (ys ≡ part d plan.history)
    parts_apart j d ys far has =
        let p = s.parts j d ys has in
        (p.0, moved-else plan.place own id d (elsewhere j d far p.1) ∙ p.1, p.2)

    parts_taken :
        (seat c : ℕ) (xs : List ClaimAccess) → HasPartAt joined seat c xs
        → (c < plan.given) × (taken_plan.place c ≡ seat) × (xs ≡ part c plan.history)
    parts_taken seat c xs has =
        let P : ℕ → View → Type 0 =
        λ j u. (d : ℕ) (ys : List ClaimAccess) → HasPart u d ys
        → (d < plan.given) × (taken_plan.place d ≡ j) × (ys ≡ part d plan.history) in
        let own_part : (own < plan.given) × (taken_plan.place own ≡ id) × (done ≡ part own plan.history) =
        (theirs.0, moved-here plan.place own id, theirs.2) in
        all_set P (set views id both) other Spent
        (λ j u far e d ys h.
        all_set (λ i v. i ≢ other → (b : ℕ) (zs : List ClaimAccess) → HasPart v b zs
        → (b < plan.given) × (taken_plan.place b ≡ i) × (zs ≡ part b plan.history)) views id both
        (λ i v _ e' far' b zs h'. parts_apart i b zs far' (v, e', h'))
        (λ far' b zs h'.
        ⊎_elim
        (λ (t : (b ≡ own) × (zs ≡ done)).
        subst (λ (z : ℕ × List ClaimAccess). (z.0 < plan.given) × (taken_plan.place z.0 ≡ id)
        × (z.1 ≡ part z.0 plan.history)) (λ i. (sym t.0 i, sym t.1 i)) own_part)
        (λ (t : WasTaken roll b zs). parts_apart id b zs far' (Issuing size roll, is, t)) h')
        j u e far d ys h)
        (λ d ys h. absurd h)
        seat has.0 has.1 c xs has.2

    -- after a seat is joined the plan in which its part is at the hub explains the table
    pub after_taking : IsStateOf k words joined taken_plan
    after_taking = record {
      memory = s.memory;
      wide = s.wide;
      few = s.few;
      drawn = s.drawn;
      stands = λ c below. stands_taken c below (ℕ_discrete c own);
      parts = parts_taken;
      others = s.others;
      fits = all_set (FitsTable k taken_plan count) (set views id both) other Spent
          (λ j u _ e.
          all_set (FitsTable k taken_plan count) views id both
          (λ i v near e'.
          fits_apart k plan taken_plan count count i (λ e''. near (e'' ∙ sym issuing_fits.1.0)) v (s.fits i v e'))
          (issuing_fits.0, issuing_fits.1, issuing_fits.2, was_out) j u e)
          tt;
    }

  -- ---- the hub puts the part of the seat returned into its roll: which parts the roll then has
  module _ (size : TableSize) (id own : ℕ) (roll : Roll) (done : List ClaimAccess)
      (is : IsViewAt views id (Taking size roll own done)) where
    taking_fits : FitsTable k plan count id (Taking size roll own done)
    taking_fits = s.fits id (Taking size roll own done) is

    abbrev filled : Roll
    filled = set roll own (Some done)

    in_filled : (c : ℕ) (xs : List ClaimAccess) → HasPart (Taking size roll own done) c xs → WasTaken filled c xs
    in_filled c xs (inl (same, all)) =
        subst (λ (z : ℕ × List ClaimAccess). WasTaken filled z.0 z.1) (λ i. (sym same i, sym all i))
        (get-set_same roll own (Some done) None taking_fits.3)
    in_filled c xs (inr taken) =
        get-set_other roll own c (Some done)
        (λ same. let none : slice_get roll c ≡ Some None = ap (slice_get roll) same ∙ taking_fits.3
        in absurd (cc)) ∙ taken

    from_filled : (c : ℕ) (xs : List ClaimAccess) → WasTaken filled c xs → HasPart (Taking size roll own done) c xs
    from_filled c xs e =
        ⊎_elim (λ (t : (c ≡ own) × (Some done ≡ Some xs)). inl (t.0, cc)) inr
        (get-set roll own c (Some done) (Some xs) e)

    -- after that part is put into the roll the same plan explains the table
    pub after_settling : IsStateOf k words (set views id (Issuing size filled)) plan
    after_settling = record {
      memory = s.memory;
      wide = s.wide;
      few = s.few;
      drawn = s.drawn;
      stands = λ c below.
          kept_at views id (plan.place c) c (Taking size roll own done) (Issuing size filled) (part c plan.history) is
          (in_filled c (part c plan.history)) (s.stands c below);
      parts = λ seat c xs has.
          all_set (λ j u. (d : ℕ) (ys : List ClaimAccess) → HasPart u d ys
          → (d < plan.given) × (plan.place d ≡ j) × (ys ≡ part d plan.history)) views id (Issuing size filled)
          (λ j u _ e d ys h. s.parts j d ys (u, e, h))
          (λ d ys h. s.parts id d ys (Taking size roll own done, is, from_filled d ys h)) seat
          has.0 has.1 c xs has.2;
      others = s.others;
      fits = all_set (FitsTable k plan count) views id (Issuing size filled) (λ j u _ e. s.fits j u e)
          (taking_fits.0, (taking_fits.1.0, length-set roll own (Some done) ∙ taking_fits.1.1), taking_fits.2);
    }
