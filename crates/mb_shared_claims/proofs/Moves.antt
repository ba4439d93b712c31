-- Each step of a table keeps its rule.
use Rattle.std.proofs.Common.{◌≡◌, ℕ, zero, suc, ◌+◌, ◌%◌, ◌^◌, ◌<◌, ◌≤◌, Some, None, List, [], ◌∷◌, ◌++◌, length}
use Rattle.std.proofs.Common.{set, slice_index, refl, sym, ap, ◌∙◌, subst, arith, replicate}
use mathlib.Core.Option.{some-injective, some-ne-none}
use Rattle.std.proofs.lemmas.List.{set-get_or, length-replicate}
use Rattle.atomic_table.specs.Table.{State, keeps, Allows, Splits, Joins}
use Rattle.mb_deciding.specs.Vocabulary.{IsInWords, reg_of}
use Rattle.mb_claim.specs.Vocabulary.{part, consumer_count, words_in, address_in, step_of, after_op, IsClaimLawful}
use Rattle.mb_claim.specs.Vocabulary.{IsMemoryOf}
use Rattle.mb_shared_claims.specs.Types.{ClaimAccess, ClaimOp, TableSize, View, Issuing, Drawing, Standing, Taking}
use Rattle.mb_shared_claims.specs.Types.{Spent}
use Rattle.mb_shared_claims.specs.Views.{claims_of_size, Roll, HasPart, IsViewAt}
use Rattle.mb_shared_claims.specs.ViewSteps.{Seated, makes, draws, settles, issued, newcomer, took_in}
use Rattle.mb_shared_claims.specs.Rule.{roster, FitsTable, IsClaimsState}
use Rattle.mb_shared_claims.specs.SeatSteps.{access_of, MayComeNext}
use Rattle.mb_shared_claims.proofs.Rolls.{zeros}
use Rattle.mb_shared_claims.proofs.Plans.{OwnPart, OtherParts, after_access, after_drawing, after_giving}
use Rattle.mb_shared_claims.proofs.Plans.{after_taking, after_settling}

-- the rule of a table of this size
abbrev pub rule_of : TableSize → State (Unit {0}) View → Type 0
rule_of k s = IsClaimsState k s.words s.views

-- ---- an access of a consumer's seat
-- take words that a history leaves, in which consumer `own` has the part `done`. If the word at `at` holds n and gets
-- f n, the words hold what the history with the access for n leaves. The access is that consumer's
abbrev pub GoesOn : TableSize → ℕ → List ClaimAccess → ℕ → (ℕ → ℕ) → (ℕ → ClaimAccess) → Type 0
GoesOn k own done at f access =
    (words : List ℕ) (h : List ClaimAccess) → IsMemoryOf (claims_of_size k) words h → part own h ≡ done
    → slice_index words at < 18446744073709551616
    → let n = slice_index words at in
    IsMemoryOf (claims_of_size k) (set words at (f n)) (access n ∷ h) × ((access n).consumer ≡ own)

-- `GoesOn` holds of the access of an op that may come next
pub goes_on :
    (k : TableSize) (own cell word : ℕ) (done : List ClaimAccess) (next : ClaimOp) (f : ℕ → ℕ)
    (access : ℕ → ClaimAccess)
    → MayComeNext (claims_of_size k) own cell done next → ((n : ℕ) → f n ≡ after_op next.op n)
    → ((n : ℕ) → access n ≡ access_of own cell next n word)
    → ((n : ℕ) → n < 18446744073709551616 → IsInWords (step_of next.object next.op n word).turn)
    → GoesOn k own done (address_in (claims_of_size k) cell next.object (reg_of next.op)) f access
goes_on k own cell word done next f access may is_f is_access small words h memory all below =
    let cs = claims_of_size k in
    let address = address_in cs cell next.object (reg_of next.op) in
    let n = slice_index words address in (
      subst (λ (z : ℕ × ClaimAccess). IsMemoryOf cs (set words address z.0) (z.1 ∷ h))
          (λ i. (sym (is_f n) i, sym (is_access n) i)) (may word words h memory all (small n below)),
      ap (λ a. a.consumer) (is_access n),
    )

-- the rule allows a consumer's seat an access of which `GoesOn` holds
pub access_allows :
    OwnPart → OtherParts → (k size : TableSize) (slots id own at : ℕ) (done : List ClaimAccess) (f : ℕ → ℕ)
    (access : ℕ → ClaimAccess) → at < roster k → GoesOn k own done at f access
    → Allows (rule_of k) slots id (Standing size own done, []) at f
    (λ found now. makes (access found) (Standing size own done, []) now)
access_allows own_part other_parts k size slots id own at done f access within goes state held _ is below =
    let plan = held.0 in
    let s = held.1 in
    let n = slice_index state.words at in
    let a = access n in
    let mine = s.parts id own done (Standing size own done, is, (refl, refl)) in
    let on = goes state.words plan.history s.memory (sym mine.2) below in (
      Standing size own (a ∷ done),
      keeps,
      tt,
      (
        _,
        after_access k state.words state.views plan s size id own at (f n) done a is on.1 own_part
            other_parts within on.0,
      ),
      (
        refl,
        (
          plan.history,
          subst (λ z. IsClaimLawful (claims_of_size z) (a ∷ plan.history))
              (sym (s.fits id (Standing size own done) is)) on.0.lawful,
          ap (λ c. part c plan.history) on.1 ∙ sym mine.2,
        ),
      ),
    )

-- ---- the hub issues a seat
-- if a word after those of the cells changes, the words still hold what the history leaves
abbrev pub OtherWords : TableSize → Type 0
OtherWords k =
    (at n : ℕ) (words : List ℕ) (h : List ClaimAccess) → words_in (claims_of_size k) ≤ at
    → IsMemoryOf (claims_of_size k) words h → IsMemoryOf (claims_of_size k) (set words at n) h

-- the rule allows the hub to draw the next number
pub draw_allows :
    (k size : TableSize) → OtherWords k → (slots id : ℕ) (roll : Roll) → length roll < consumer_count k.layout
    → length roll < 2 ^ 32
    → Allows (rule_of k) slots id (Issuing size roll, []) (roster k) (λ n. (n + 1) % 2 ^ 64)
    (λ found now. draws found (Issuing size roll, []) now)
draw_allows k size others slots id roll room small state held _ is _ =
    let plan = held.0 in
    let s = held.1 in
    let count = slice_index state.words (roster k) in
    let more = (count + 1) % 2 ^ 64 in
    let fits = s.fits id (Issuing size roll) is in
    let counted : count ≡ length roll = fits.2 ∙ sym fits.1.1 in
    let is_more : more ≡ suc count = omega arith in (
      Drawing size roll,
      keeps,
      tt,
      (
        plan,
        after_drawing k state.words state.views plan s size id more roll is is_more (omega arith)
            (others (roster k) more state.words plan.history (omega arith) s.memory),
      ),
      (counted, refl),
    )

-- the rule allows the hub to issue the number drawn, with a new seat
pub give_allows :
    (k size : TableSize) (id : ℕ) (roll : Roll)
    → Splits (rule_of k) id (Drawing size roll) (Issuing size (roll ++ None ∷ [])) (Standing size (length roll) [])
give_allows k size id roll state held is =
    (_, after_giving k state.words state.views held.0 held.1 size id roll is)

-- ---- the hub takes a seat back
-- the rule allows the hub to join a consumer's seat
pub take_allows :
    (k size its : TableSize) (id other own : ℕ) (roll : Roll) (done : List ClaimAccess)
    → Joins (rule_of k) id (Issuing size roll) other (Standing its own done) (Taking size roll own done) Spent
take_allows k size its id other own roll done state held is apart there =
    (_, after_taking k state.words state.views held.0 held.1 size its id other own roll done apart is there)

-- the rule allows the hub to put the part of the joined seat into the roll
pub settle_allows :
    (k size : TableSize) (slots id own : ℕ) (roll : Roll) (done : List ClaimAccess)
    → Allows (rule_of k) slots id (Taking size roll own done, []) 0 (λ n. n)
    (λ found now. settles (Taking size roll own done, []) now)
settle_allows k size slots id own roll done state held _ is _ =
    let plan = held.0 in
    let s = held.1 in (
      Issuing size (set roll own (Some done)),
      keeps,
      tt,
      subst (λ ws. IsClaimsState k ws (set state.views id (Issuing size (set roll own (Some done)))))
          (sym (set-get_or state.words 0 0))
          (plan, after_settling k state.words state.views plan s size id own roll done is),
      ((s.fits id (Taking size roll own done) is).3, refl),
    )

-- ---- a new table
-- the empty history leaves words that are all 0
abbrev pub BeginsWithZeros : TableSize → Type 0
BeginsWithZeros k =
    (words : List ℕ) → words_in (claims_of_size k) ≤ length words → ((i : ℕ) → slice_index words i ≡ 0)
    → IsMemoryOf (claims_of_size k) words []

-- the rule holds of the words and the view of a new table
pub begins : (k : TableSize) → BeginsWithZeros k → IsClaimsState k (replicate (roster k + 1) 0) (Issuing k [] ∷ [])
begins k empty = (
  record { history = []; given = 0; hub = 0; place = λ _. 0 },
  record {
    memory = empty (replicate (roster k + 1) 0)
        (subst (λ n. roster k ≤ n) (sym (length-replicate (roster k + 1) 0)) (omega arith)) (zeros (roster k + 1));
    wide = length-replicate (roster k + 1) 0;
    few = let z = zeros (roster k + 1) (roster k) in omega arith;
    drawn = omega arith;
    stands = λ c below. absurd (omega arith);
    parts = λ seat c xs has. absurd (nothing seat has.0 has.1 c xs has.2);
    others = λ c past. refl;
    fits = first;
  },
)
  where
    nothing :
        (seat : ℕ) (v : View) → IsViewAt (Issuing k [] ∷ []) seat v
        → (c : ℕ) (xs : List ClaimAccess) → HasPart v c xs → ⊥
    nothing zero v e c xs has =
        let none : HasPart (Issuing k []) c xs = subst (λ u. HasPart u c xs)
        (sym (some-injective _ _ e)) has in absurd (cc)
    nothing (suc seat) v e c xs has = absurd (some-ne-none v (sym e))

    first :
        (seat : ℕ) (v : View) → IsViewAt (Issuing k [] ∷ []) seat v
        → FitsTable k (record { history = []; given = 0; hub = 0; place = λ _. 0 })
        (slice_index (replicate (roster k + 1) 0) (roster k)) seat v
    first zero v e =
        subst (FitsTable k (record { history = []; given = 0; hub = 0; place = λ _. 0 })
        (slice_index (replicate (roster k + 1) 0) (roster k)) 0)
        (some-injective _ _ e) (refl, (refl, refl), zeros (roster k + 1) (roster k))
    first (suc seat) v e = absurd (some-ne-none v (sym e))

-- ---- the same steps, if the table's size and the views of the seats only equal those above
-- the rule allows a seat whose view equals a consumer's an access of which `GoesOn` holds
pub access_asked :
    OwnPart → OtherParts → (key k size : TableSize) (slots id own at : ℕ) (me : Seated) (done : List ClaimAccess)
    (f : ℕ → ℕ) (access : ℕ → ClaimAccess) → key ≡ k → me ≡ (Standing size own done, []) → at < roster k
    → GoesOn k own done at f access
    → Allows (rule_of key) slots id me at f (λ found now. makes (access found) me now)
access_asked own_part other_parts key k size slots id own at me done f access same is within goes =
    subst (λ (z : TableSize × Seated).
    Allows (rule_of z.0) slots id z.1 at f (λ found now. makes (access found) z.1 now))
    (λ i. (sym same i, sym is i)) (access_allows own_part other_parts k size slots id own at done f access within goes)

-- the rule allows a seat whose view equals the hub's to draw the next number
pub draw_asked :
    (key k size : TableSize) → OtherWords k → (slots id at : ℕ) (me : Seated) (roll : Roll) → key ≡ k
    → me ≡ (Issuing size roll, []) → at ≡ roster k → length roll < consumer_count k.layout → length roll < 2 ^ 32
    → Allows (rule_of key) slots id me at (λ n. (n + 1) % 2 ^ 64) (λ found now. draws found me now)
draw_asked key k size others slots id at me roll same is is_at room small =
    subst (λ (z : TableSize × Seated × ℕ).
    Allows (rule_of z.0) slots id z.1 z.2 (λ n. (n + 1) % 2 ^ 64) (λ found now. draws found z.1 now))
    (λ i. (sym same i, sym is i, sym is_at i)) (draw_allows k size others slots id roll room small)

-- the rule allows a seat whose view equals the hub's to issue the number drawn, with a new seat
pub give_asked :
    (key size : TableSize) (id : ℕ) (v : View) (roll : Roll) → v ≡ Drawing size roll
    → Splits (rule_of key) id v (issued v) (newcomer v)
give_asked key size id v roll is =
    subst (λ u. Splits (rule_of key) id u (issued u) (newcomer u)) (sym is) (give_allows key size id roll)

-- the rule allows a seat whose view equals the hub's to join one whose view equals a consumer's
pub take_asked :
    (key size its : TableSize) (id other own : ℕ) (v w : View) (roll : Roll) (done : List ClaimAccess)
    → v ≡ Issuing size roll → w ≡ Standing its own done → Joins (rule_of key) id v other w (took_in v w) Spent
take_asked key size its id other own v w roll done is that =
    subst (λ (z : View × View). Joins (rule_of key) id z.0 other z.1 (took_in z.0 z.1) Spent)
    (λ i. (sym is i, sym that i)) (take_allows key size its id other own roll done)

-- the rule allows a seat whose view equals the hub's to put the part of the joined seat into the roll
pub settle_asked :
    (key size : TableSize) (slots id own : ℕ) (me : Seated) (roll : Roll) (done : List ClaimAccess)
    → me ≡ (Taking size roll own done, [])
    → Allows (rule_of key) slots id me 0 (λ n. n) (λ found now. settles me now)
settle_asked key size slots id own me roll done is =
    subst (λ (z : Seated). Allows (rule_of key) slots id z 0 (λ n. n) (λ found now. settles z now)) (sym is)
    (settle_allows key size slots id own roll done)
