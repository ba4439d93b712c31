-- Proof of `samples::words_and_views_agree`: words and views of a table of one lane and one cell agree with a history.
-- The words are, in this order, the counter, the head, the link, the item and the roster.
use Rattle.std.proofs.Common.{Some, None, [], arith, refl, sym, ◌∷◌, ◌≡◌, subst, suc, zero, ℕ, slice_index, nat_eq, false}
use Rattle.std.proofs.Math.Dec.{eqb-suc-zero}
use mathlib.Core.Option.{some, some-injective, some-ne-none}
use lib.ListN.{get_elem?}
use Rattle.mb_cells.specs.Vocabulary.{History, IsPoolWord, address_of, one_put, part, value_in}
use Rattle.mb_cells.specs.declared.access.Process.{Process}
use Rattle.mb_cells.specs.declared.access.Process.TheVariants.{Producer, Reader}
use Rattle.mb_cells.specs.declared.access.Word.{Word}
use Rattle.mb_cells.specs.declared.access.Word.TheVariants.{Counter, Head, Item, Link}
use Rattle.mb_shared_cells.specs.Rule.{FitsView, IsEnrolled, Seating, StandsAt}
use Rattle.mb_shared_cells.specs.Samples.{hub_of_one, lane_with, one_by_one}
use Rattle.mb_shared_cells.specs.Views.{roll_at}
use Rattle.mb_shared_cells.specs.declared.views.Roll.{Roll}
use Rattle.mb_shared_cells.specs.declared.views.View.{View}
use Rattle.mb_shared_cells.proofs.samples.words_and_views_agree.Goals as goal

-- the seating after `one_put`: the hub is at seat 0, and lane 0 at seat 1
abbrev putting : Seating
putting = record { history = one_put; lanes = 1; readers = 0; hub = 0; seat_of = λ who. 1 }

-- the roll in which lane 0 was issued and is not returned
abbrev one_out : Roll
one_out = record { lanes = None ∷ []; readers = [] }

-- each word of the pool holds what `one_put` leaves in it
holds : (w : Word) → IsPoolWord one_by_one w
    → slice_index (1 ∷ 1 ∷ 0 ∷ 8 ∷ 1 ∷ []) (address_of one_by_one w) ≡ value_in w one_put
holds Counter b = refl
holds (Head zero) b = refl
holds (Head (suc p)) b = absurd (omega (arith, b))
holds (Link zero) b = refl
holds (Link (suc k)) b = absurd (omega (arith, b))
holds (Item zero) b = refl
holds (Item (suc k)) b = absurd (omega (arith, b))

-- the roll `one_out` has no part
none_taken : (who : Process) (done : History) → roll_at who one_out ≡ Some (Some done)
    → (putting.seat_of who ≡ 0) × (done ≡ part who putting.history)
none_taken (Producer zero) done e = absurd (cc)
none_taken (Producer (suc p)) done e = absurd (cc)
none_taken (Reader r) done e = absurd (cc)

-- whoever was not issued did nothing
nobody_else : (who : Process) → (IsEnrolled putting who → ⊥) → part who one_put ≡ []
nobody_else (Producer zero) out = absurd (out (omega arith))
nobody_else (Producer (suc p)) out = let e : nat_eq (suc p) 0 ≡ false = eqb-suc-zero p in cc
nobody_else (Reader r) out = refl

-- each process that was issued stands at seat 1: it is the producer of lane 0
one_stands : (who : Process) → IsEnrolled putting who → StandsAt (hub_of_one ∷ lane_with one_put ∷ []) 1 who
one_stands (Producer zero) low = (lane_with one_put, refl, (one_put, (refl, refl)))
one_stands (Producer (suc p)) low = absurd (omega (arith, low))
one_stands (Reader r) low = absurd (omega (arith, low))

-- the view of the hub is true of seat 0
put_hub : FitsView one_by_one putting 1 0 hub_of_one
put_hub = (record { sized = refl; here = refl; lanes = refl; readers = refl; parts = none_taken }, refl)

-- the view of lane 0's seat is true of seat 1
put_seat : FitsView one_by_one putting 1 1 (lane_with one_put)
put_seat = (
  refl,
  (λ e. omega (arith, e)),
  record {
    here = refl;
    enrolled = omega arith;
    part = refl;
  },
  λ p theirs e. absurd (cc),
)

-- each view of this table is true of its seat
put_fits : (seat : ℕ) (v : View) → get_elem? (hub_of_one ∷ lane_with one_put ∷ []) seat ≡ some v
    → FitsView one_by_one putting 1 seat v
put_fits zero v e = subst (λ x. FitsView one_by_one putting 1 0 x) (some-injective hub_of_one v e) put_hub
put_fits (suc zero) v e = subst (λ x. FitsView one_by_one putting 1 1 x)
    (some-injective (lane_with one_put) v e) put_seat
put_fits (suc (suc seat)) v e = absurd (some-ne-none v (sym e))

-- words and views of this table agree with the seating `putting`
pub returns : goal.returns
returns c = (
  putting,
  record {
    memory = record {
      lawful = c.one_item_is_put_and_read.ensures.item;
      room = omega arith;
      left = holds;
    };
    wide = refl;
    few = omega arith;
    drawn = omega arith;
    nobody_else = nobody_else;
    stands = one_stands;
    fits = put_fits;
  },
)
