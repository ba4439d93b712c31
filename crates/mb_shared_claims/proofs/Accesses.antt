-- The access of a claim as a load, a store or an exchange of a table's word, made from a seat.
use Rattle.std.proofs.Common.{◌≡◌, ◌+◌, ◌*◌, ◌<◌, ◌==◌, ℕ, Bool, true, false, cond, None, Some, [], ◌∷◌, refl, sym, ap, ◌∙◌, subst, arith}
use Rattle.std.specs.Prelude.{IfSome}
use Rattle.std.specs.Option.{option_map_or}
use prog.Atomic.{either}
use Rattle.mb_deciding.specs.declared.access.Op.TheVariants as to
use Rattle.atomic_table.specs.Table.{Allows}
use Rattle.mb_deciding.specs.Vocabulary.{IsInWords, reg_of}
use Rattle.mb_claim.specs.Vocabulary.{part, claims_in, cell_words, word_address, after_op, step_of}
use Rattle.mb_shared_claims.specs.Types.{ClaimAccess, ClaimOp, Op, Reg, TableSize, Standing}
use Rattle.mb_shared_claims.specs.Views.{claims_of_size}
use Rattle.mb_shared_claims.specs.ViewSteps.{Seated, part_of, makes, with_one_more, ComesAfter, ComesAfterView}
use Rattle.mb_shared_claims.specs.Rule.{roster}
use Rattle.mb_shared_claims.specs.Seats.{TableView, SeatView, IsClaimSeat}
use Rattle.mb_shared_claims.specs.SeatSteps.{access_of, MayComeNext}
use Rattle.mb_shared_claims.proofs.Plans.{OwnPart, OtherParts}
use Rattle.mb_shared_claims.proofs.Moves.{rule_of, GoesOn, goes_on, access_asked}

-- if what a load finds and its random word are below 2^64, its turn is in words (`IsInWords`)
pub load_small :
    (object word n : ℕ) (op : Op) (reg : Reg) → op ≡ to.Load reg → n < 18446744073709551616
    → word < 18446744073709551616 → IsInWords (step_of object op n word).turn
load_small object word n op reg e small fits =
    subst (λ (o : Op). IsInWords (step_of object o n word).turn) (sym e) ((small, tt), fits)

-- if what a store stores and its random word are below 2^64, its turn is in words (`IsInWords`)
pub store_small :
    (object word n value : ℕ) (op : Op) (reg : Reg) → op ≡ to.Store reg value → value < 18446744073709551616
    → word < 18446744073709551616 → IsInWords (step_of object op n word).turn
store_small object word n value op reg e small fits =
    subst (λ (o : Op). IsInWords (step_of object o n word).turn) (sym e) ((tt, small), fits)

-- if an exchange's value w is below 2^64, so is what the exchange stores, if it stores anything
stored_small : (b : Bool) (w : ℕ) → w < 18446744073709551616
    → IfSome (cond b (Some w) None) (λ value. value < 18446744073709551616)
stored_small true w small = small
stored_small false w small = tt

-- if an exchange's value, what it finds and its random word are below 2^64, its turn is in words (`IsInWords`)
pub exchange_small :
    (object word n value : ℕ) (op : Op) (reg : Reg) → op ≡ to.Exchange reg value → value < 18446744073709551616
    → n < 18446744073709551616 → word < 18446744073709551616 → IsInWords (step_of object op n word).turn
exchange_small object word n value op reg e put small fits =
    subst (λ (o : Op). IsInWords (step_of object o n word).turn) (sym e)
    ((small, stored_small (n == 0) value put), fits)

-- an exchange leaves its value if it found 0, and else what it found
exchanged : (b : Bool) (w n : ℕ) → either b w n ≡ option_map_or (λ value. value) (cond b (Some w) None) n
exchanged true w n = refl
exchanged false w n = refl

-- what a compare-exchange from 0 leaves in the table's word is what the claim's op leaves there
pub exchange_after :
    (value n : ℕ) (op : Op) (reg : Reg) → op ≡ to.Exchange reg value → either (n == 0) value n ≡ after_op op n
exchange_after value n op reg e =
    subst (λ (o : Op). either (n == 0) value n ≡ after_op o n) (sym e) (exchanged (n == 0) value n)

-- whatever value a store is said to find, its access is the same
pub store_same :
    (own cell word m n value : ℕ) (next : ClaimOp) (reg : Reg) → next.op ≡ to.Store reg value
    → access_of own cell next m word ≡ access_of own cell next n word
store_same own cell word m n value next reg e =
    subst
    (λ (op : Op).
    access_of own cell (record { object = next.object; op = op }) m word
    ≡ access_of own cell (record { object = next.object; op = op }) n word)
    (sym e) refl

-- an access that may come next from a seat may be made at the address of its word, which is one of the table's words
pub access_may :
    OwnPart → OtherParts → (t : TableView) (seat : SeatView) (key inside size : TableSize) (me : Seated)
    (slots count id address cell word : ℕ) (next : ClaimOp) (f : ℕ → ℕ) (access : ℕ → ClaimAccess)
    → key ≡ inside → inside ≡ record { layout = t.layout; cells = t.cells } → count ≡ roster inside + 1
    → me ≡ (Standing size seat.consumer seat.part, [])
    → address ≡ word_address t.layout cell next.object (reg_of next.op)
    → word_address t.layout cell next.object (reg_of next.op) < t.cells * cell_words t.layout
    → MayComeNext (claims_in t.layout t.cells) seat.consumer cell seat.part next
    → ((n : ℕ) → f n ≡ after_op next.op n) → ((n : ℕ) → access n ≡ access_of seat.consumer cell next n word)
    → ((n : ℕ) → n < 18446744073709551616 → IsInWords (step_of next.object next.op n word).turn)
    → (address < count)
    × Allows (rule_of key) slots id me address f (λ found now. makes (access found) me now)
access_may own_part other_parts t seat key inside size me slots count id address cell word next
    f access told is wide
    stands place within may is_f is_access small =
    let k : TableSize = record { layout = t.layout; cells = t.cells } in
    let low : address < roster k = subst (λ a. a < roster k) (sym place) within in
    let count_is : count ≡ roster k + 1 = wide ∙ ap (λ (z : TableSize). roster z + 1) is in (
      omega (arith, low, count_is),
      access_asked own_part other_parts key k size slots id seat.consumer address me seat.part f
          access (told ∙ is) stands
          low (subst (λ a. GoesOn k seat.consumer seat.part a f access) (sym place)
          (goes_on k seat.consumer cell word seat.part next f access may is_f is_access small)),
    )

-- what holds of each consumer's seat (`IsClaimSeat`) holds of it after an access, too
pub seat_after :
    OwnPart → (own : ℕ) (a : ClaimAccess) (me now : Seated) → IsClaimSeat me own → a.consumer ≡ own → makes a me now
    → IsClaimSeat now own
seat_after own_part own a me now seat of_own made =
    let done = part_of me.0 in
    let is : now ≡ (Standing seat.size own (a ∷ done), []) =
    made.0 ∙ ap (λ (z : Seated). (with_one_more a z.0, z.1)) seat.is in
    let comes : ComesAfter (claims_of_size seat.size) a done =
    subst (λ (z : Seated). ComesAfterView a z.0) seat.is made.1 in
    let all = ap (λ (z : Seated). part_of z.0) is in
    record {
      size = seat.size;
      is = is ∙ ap (λ xs. (Standing seat.size own xs, [])) (sym all);
      known = seat.known;
      lawful = (
        a ∷ comes.0,
        comes.1,
        subst (λ c. part c (a ∷ comes.0) ≡ a ∷ part c comes.0) of_own (own_part a comes.0)
            ∙ ap (λ xs. a ∷ xs) (ap (λ c. part c comes.0) (sym of_own) ∙ comes.2) ∙ sym all,
      );
    }
