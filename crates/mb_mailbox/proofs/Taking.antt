-- Straight accesses of a new claim in a poll: where they leave the consumer, and the item if the claim is won.
use Rattle.std.proofs.Common.{◌≡◌, ◌≢◌, ℕ, zero, suc, ◌+◌, ◌≤◌, List, refl, sym, ap, ◌∙◌, subst, arith}
use Rattle.std.specs.Prelude.{Option, Some, None, slice_get, slice_set}
use Rattle.mb_claim.specs.declared.access.Stage.TheVariants as stage
use Rattle.mb_cells.specs.declared.cursor.Cursor.TheVariants.{Past}
use Rattle.mb_shared_cells.specs.Vocabulary.{ItemMakes}
use Rattle.mb_mailbox.specs.Imports.{AreSeatSteps, Claim, HasEnd, IsClaimIn, IsStanding, Item, Layout, Note, ReaderSeatView, SeatView, Stage, Stream, Stretch, ToCells, Took}
use Rattle.mb_mailbox.specs.Imports.{claim_stage, claims_at, load, most_accesses, part_on}
use Rattle.mb_mailbox.specs.declared.consumer.Poll.{Poll}
use Rattle.mb_mailbox.specs.declared.consumer.Poll.TheVariants as poll
use Rattle.mb_world.specs.declared.place.Place.{Place}
use Rattle.mb_world.specs.declared.place.Place.TheVariants.{At, Before}
use Rattle.mb_mailbox.specs.Consumers.{ConsumerView, IsConsumer, parts_of}
use Rattle.mb_mailbox.specs.ConsumerStep.{ConsumerStep, stage_answer}
use Rattle.mb_mailbox.specs.Moves.{HasLoads, HasPlace, moved_to, reads_with_item}
use Rattle.mb_mailbox.specs.Pursuits.{HasCompeted, IsPursuit, holding}
use Rattle.mb_mailbox.specs.Steps.{AreSteps, outcome, with_note}
use Rattle.mb_mailbox.proofs.Made.{at_views}
use Rattle.mb_mailbox.proofs.Pursuing.{mid_at, mid_consumer, pursued_took, seen_at}

-- accesses of a new claim, made straight from this seat, led to `stretch`, which says how many of `most` are left
abbrev pub AreStraight : Layout → ℕ → SeatView → Stream → ℕ → Stretch → SeatView → Stream → Type 0
AreStraight layout k seat s most stretch after t =
    (start : Claim) × IsStanding layout seat.consumer 0 seat.consumer start
    × (n : ℕ) × (end : Claim) × (n + stretch.left ≡ most) × AreSeatSteps layout k start seat s n end after t
    × HasEnd layout seat.consumer stretch end × IsClaimIn layout end (part_on after.consumer k after.part)
    × (n ≤ most_accesses layout)

-- if a claim goes on, and is won after n accesses, n is at least 1
pub some_made : (layout : Layout) (k n : ℕ) (claim now : Claim) (seat after : SeatView) (s t : Stream)
    → AreSeatSteps layout k claim seat s n now after t → claim_stage claim ≡ stage.Going
    → claim_stage now ≡ stage.Won → 1 ≤ n
some_made layout k zero claim now seat after s t (is, keeps, e) going won =
    let same : stage.Going ≡ stage.Won = sym going ∙ sym (ap claim_stage is) ∙ won in absurd (cc)
some_made layout k (suc n) claim now seat after s t steps going won = omega arith

-- ---- the load of the item
-- By `TakesNext` that load is the next access of a consumer whose claim is won. By `TakesOn` the consumer is as
-- `IsConsumer` says after it, too. Both are clauses of laws in src/consumer/moves.rt
abbrev pub TakesNext : Type 0
TakesNext = (s : ConsumerView) (p k v : ℕ) (claim : Claim) → IsConsumer s → HasPlace p (At k claim) s
    → claim_stage claim ≡ stage.Won
    → ConsumerStep (claims_at s.seat.table) s.seat.consumer p (parts_of s.reader s.seat)
    (ToCells (load s.reader.reader (Item k) v)) (Some (poll.Took v))

abbrev pub TakesOn : Type 0
TakesOn = (s : ConsumerView) (p k v : ℕ) (claim : Claim) → IsConsumer s → HasLoads s → HasPlace p (At k claim) s
    → claim_stage claim ≡ stage.Won
    → IsConsumer (moved_to p (Before (Past k)) (Some (Took v)) (reads_with_item s k v) s.seat.part s)

module _ (b : ConsumerView) (p k : ℕ) (claim : Claim) where
  -- if the claim is won, the load of the item ends the poll, and `IsPursuit` holds of it
  pub taken : TakesNext → TakesOn → HasLoads b
      → (v : ℕ) (now : Claim) (seat : SeatView) (reader : ReaderSeatView) (places : List Place)
      (notes : List (List Note)) (made n most left : ℕ) (t u : Stream) (from : ConsumerView) (there : Place)
      → slice_get b.places p ≡ Some there → claim_stage now ≡ stage.Won
      → HasCompeted p k (made + n) now t u from (holding p k claim b) seat → ItemMakes b.reader k v reader
      → places ≡ slice_set b.places p (Before (Past k)) → notes ≡ with_note p (Some (Took v)) b.notes
      → made + 1 + left ≡ most → IsPursuit p n most left (poll.Took v) t u from (at_views reader seat places notes)
  taken next on loads v now seat reader places notes made n most left t u from there was won so makes e f sum =
      let mid = moved_to p (At k now) None b.reader.part seat.part (holding p k claim b) in
      let is = mid_consumer b p k claim v now seat reader places notes t u from (made + n) there was won so makes e f in
      let at = mid_at b p k claim v now seat reader places notes t u from (made + n) there was won so makes e f in
      pursued_took b p k claim v now seat reader places notes t u from (made + n) there was won so makes e f
      most left made n refl sum (next mid p k v now is at won) (on mid p k v now is loads at won)

  -- ---- the claim goes on
  -- if accesses of the claim led to a claim that goes on, the consumer holds that claim
  module _ (n : ℕ) (now : Claim) (t u : Stream) (from : ConsumerView) (seat : SeatView)
      (going : claim_stage now ≡ stage.Going) (so : HasCompeted p k n now t u from (holding p k claim b) seat) where
    -- the consumer with the claim as it is then
    abbrev again : ConsumerView
    again = holding p k now (at_views b.reader seat b.places b.notes)

    pub still_steps : AreSteps p n None t u from again
    still_steps = subst (λ (z : Option Poll × ConsumerView). AreSteps p n z.0 t u from z.1)
        (λ j. (
          ap stage_answer going j,
          seen_at b p k claim now stage.Going seat (slice_set b.places p (At k now)) b.notes going so.same refl refl j,
        ))
        so.steps

    pub still_consumer : IsConsumer again
    still_consumer = subst IsConsumer
        (seen_at b p k claim now stage.Going seat (slice_set b.places p (At k now)) b.notes going so.same refl refl)
        so.is

-- if `IsPursuit` holds after `a` accesses of the claim, with what they left of `most`, it holds before them with `most`
pub pursued_on : (p a n rest most left : ℕ) (x : Poll) (t u : Stream) (from new : ConsumerView) → a + rest ≡ most
    → IsPursuit p (a + n) rest left x t u from new → IsPursuit p n most left x t u from new
pursued_on p a n rest most left x t u from new sum so =
    let all = so.sum in
    let count : so.made + (a + n) ≡ so.made + a + n = omega arith in
    record {
      made = so.made + a;
      sum = omega (arith, all, sum);
      spent = so.spent;
      steps = subst (λ z. AreSteps p z (outcome x) t u from new) count so.steps;
      kind = so.kind;
      noted = so.noted;
      is = so.is;
    }

-- ---- a claim that is one exchange
-- one access of a new claim, made from this seat, led to a claim at this stage
abbrev pub IsOneAccess : Layout → ℕ → SeatView → Stream → Stage → SeatView → Stream → Type 0
IsOneAccess layout k seat s st after t =
    (start : Claim) × IsStanding layout seat.consumer 0 seat.consumer start
    × (end : Claim) × AreSeatSteps layout k start seat s 1 end after t × (claim_stage end ≡ st)

-- a stage that is not `Going`, `Undecided` or `Lost` is `Won`
pub only_won : (st : Stage) → st ≢ stage.Going → st ≢ stage.Undecided → ((w : ℕ) → st ≢ stage.Lost w)
    → st ≡ stage.Won
only_won stage.Going ended decided never = absurd (ended refl)
only_won stage.Won ended decided never = refl
only_won (stage.Lost w) ended decided never = absurd (never w refl)
only_won stage.Undecided ended decided never = absurd (decided refl)
