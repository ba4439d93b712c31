-- What a poll comes to after accesses of its claim: the consumer stands past the cell, or still holds the claim.
use Rattle.std.proofs.Common.{◌≡◌, ◌≢◌, ℕ, ◌+◌, List, refl, sym, ap, ◌∙◌, subst, arith}
use Rattle.std.specs.Prelude.{Option, Some, None, slice_get, slice_set}
use Rattle.mb_claim.specs.declared.access.Stage.TheVariants as stage
use Rattle.mb_cells.specs.declared.cursor.Cursor.TheVariants.{Past}
use Rattle.mb_shared_cells.specs.Vocabulary.{ItemMakes}
use Rattle.mb_mailbox.specs.Imports.{Claim, Item, Note, ReaderSeatView, SeatView, Stage, Stream, ToCells, Took, claim_stage, claims_at, load, note_of}
use Rattle.mb_mailbox.specs.declared.consumer.Poll.{Poll}
use Rattle.mb_mailbox.specs.declared.consumer.Poll.TheVariants as poll
use Rattle.mb_world.specs.declared.place.Place.{Place}
use Rattle.mb_world.specs.declared.place.Place.TheVariants.{At, Before}
use Rattle.mb_mailbox.specs.Consumers.{ConsumerView, IsConsumer, parts_of}
use Rattle.mb_mailbox.specs.ConsumerStep.{ConsumerStep, stage_answer}
use Rattle.mb_mailbox.specs.Moves.{HasPlace, moved_to, reads_with_item}
use Rattle.mb_world.specs.Places.{place_after}
use Rattle.mb_mailbox.specs.Pursuits.{HasCompeted, IsOfClaim, IsPursuit, competed, holding}
use Rattle.mb_mailbox.specs.Steps.{AreSteps, HasNoteOnEach, outcome, with_note}
use Rattle.mb_mailbox.proofs.Lists.{set_here, set_twice}
use Rattle.mb_mailbox.proofs.Made.{at_views, item_made}
use Rattle.mb_mailbox.proofs.Polls.{steps_more}
use Rattle.mb_mailbox.proofs.Telling.{noted}

-- `b` has the consumer's fields, in which the place on lane p may be out of date: the consumer holds this claim there
module _ (b : ConsumerView) (p k : ℕ) (claim : Claim) where
  -- the consumer that holds the claim
  abbrev s : ConsumerView
  s = holding p k claim b

  -- if accesses of the claim led to this stage, these places and notes are those of the consumer then
  pub seen_at : (now : Claim) (st : Stage) (seat : SeatView) (places : List Place)
      (notes : List (List Note)) → claim_stage now ≡ st
      → seat ≡ record b.seat { part = seat.part }
      → places ≡ slice_set b.places p (place_after k now st) → notes ≡ with_note p (note_of st) b.notes
      → competed p k now seat s ≡ at_views b.reader seat places notes
  seen_at now st seat places notes is same e f =
      ap (λ z. moved_to p (place_after k now z) (note_of z) b.reader.part seat.part s) is
      ∙ (λ j. at_views b.reader (sym same j)
      ((set_twice b.places p (At k claim) (place_after k now st) ∙ sym e) j) (sym f j))

  -- ---- the claim is won, and the item is loaded
  module _ (v : ℕ) (now : Claim) (seat : SeatView) (reader : ReaderSeatView) (places : List Place)
      (notes : List (List Note)) (t u : Stream)
      (from : ConsumerView) (n : ℕ) (there : Place)
      (at : slice_get b.places p ≡ Some there)
      (won : claim_stage now ≡ stage.Won) (so : HasCompeted p k n now t u from s seat)
      (makes : ItemMakes b.reader k v reader)
      (e : places ≡ slice_set b.places p (Before (Past k))) (f : notes ≡ with_note p (Some (Took v)) b.notes) where
    -- the consumer before that load
    abbrev mid : ConsumerView
    mid = moved_to p (At k now) None b.reader.part seat.part s

    -- the consumer after accesses of the claim is `mid`
    mid_is : competed p k now seat s ≡ mid
    mid_is = ap (λ z. moved_to p (place_after k now z) (note_of z) b.reader.part seat.part s) won

    -- `IsConsumer` holds of the consumer before the load, and it stands at the cell (`mid_at`)
    pub mid_consumer : IsConsumer mid
    mid_consumer = subst IsConsumer mid_is so.is

    pub mid_at : HasPlace p (At k now) mid
    mid_at = set_here (slice_set b.places p (At k claim)) p (At k now) (At k claim)
        (set_here b.places p (At k claim) there at)

    -- the consumer after the load
    abbrev new : ConsumerView
    new = at_views reader seat places notes

    -- that consumer has the seat of the claims as it is after the accesses of the claim
    new_is : at_views reader (record b.seat { part = seat.part }) places notes ≡ new
    new_is = ap (λ (z : SeatView). at_views reader z places notes) (sym so.same)

    -- with the load there is one step more, and the steps come to `Took` with the item
    pub took_steps : ConsumerStep (claims_at mid.seat.table) mid.seat.consumer p
        (parts_of mid.reader mid.seat) (ToCells (load mid.reader.reader (Item k) v))
        (Some (poll.Took v))
        → AreSteps p (n + 1) (Some (poll.Took v)) t u from new
    took_steps next =
        let was : AreSteps p n None t u from mid =
        subst (λ (z : Option Poll × ConsumerView). AreSteps p n z.0 t u from z.1)
        (λ j. (ap stage_answer won j, mid_is j)) so.steps in
        subst (λ z. AreSteps p (n + 1) (Some (poll.Took v)) t u from z) new_is
        (steps_more p n (Some (poll.Took v)) t u u from mid
        (at_views reader (record b.seat { part = seat.part }) places notes) was
        (item_made mid mid p k v reader places notes refl makes f next u))

    -- after the load `IsConsumer` still holds of the consumer
    pub took_is : IsConsumer (moved_to p (Before (Past k)) (Some (Took v)) (reads_with_item mid k v)
        mid.seat.part mid) → IsConsumer new
    took_is i =
        subst IsConsumer
        (λ j. at_views (sym makes.1 j) (sym so.same j)
        ((ap (λ ps. slice_set ps p (Before (Past k))) (set_twice b.places p (At k claim) (At k now))
        ∙ set_twice b.places p (At k now) (Before (Past k)) ∙ sym e) j) (sym f j)) i

    -- after the load the consumer has a note on each cell that it met
    pub took_noted : IsConsumer new → HasNoteOnEach p new
    took_noted i = noted new p (Past k) i (ap (λ ps. slice_get ps p) e ∙ set_here b.places p (Before (Past k)) there at)

    -- `IsPursuit` holds of the poll, which ends with the item
    pub pursued_took : (most left made m : ℕ) → n ≡ made + m → made + 1 + left ≡ most
        → ConsumerStep (claims_at mid.seat.table) mid.seat.consumer p (parts_of mid.reader mid.seat)
        (ToCells (load mid.reader.reader (Item k) v)) (Some (poll.Took v))
        → IsConsumer (moved_to p (Before (Past k)) (Some (Took v)) (reads_with_item mid k v) mid.seat.part mid)
        → IsPursuit p m most left (poll.Took v) t u from new
    pursued_took most left made m count sum next i =
        let long : n + 1 ≡ made + 1 + m = omega (arith, count) in
        record {
          made = made + 1;
          sum = sum;
          spent = λ f. absurd (cc);
          steps = subst (λ z. AreSteps p z (Some (poll.Took v)) t u from new) long (took_steps next);
          kind = tt;
          noted = λ _. took_noted (took_is i);
          is = took_is i;
        }

  -- ---- the claim is lost or undecided, or the poll is spent
  -- if the claim is lost or undecided, `IsPursuit` holds of the poll, and the consumer stands past the cell
  pub pursued_past : (most left made n : ℕ) (now : Claim) (st : Stage) (note : Note) (answer : Poll)
      (t u : Stream) (from : ConsumerView)
      (seat : SeatView) (places : List Place) (notes : List (List Note)) (there : Place)
      → slice_get b.places p ≡ Some there
      → claim_stage now ≡ st → note_of st ≡ Some note → stage_answer st ≡ outcome answer
      → IsOfClaim answer → answer ≢ poll.Spent
      → place_after k now st ≡ Before (Past k) → made + left ≡ most → HasCompeted p k (made + n) now t u from s seat
      → places ≡ slice_set b.places p (Before (Past k)) → notes ≡ with_note p (Some note) b.notes
      → IsPursuit p n most left answer t u from (at_views b.reader seat places notes)
  pursued_past most left made n now st note answer t u from seat places notes there at is noting tells
      kind never past sum so e f =
      let view : competed p k now seat s ≡ at_views b.reader seat places notes =
      seen_at now st seat places notes is so.same (e ∙ ap (λ z. slice_set b.places p z) (sym past))
      (f ∙ ap (λ o. with_note p o b.notes) (sym noting)) in
      let end = subst IsConsumer view so.is in
      record {
        made = made;
        sum = sum;
        spent = λ z. absurd (never z);
        steps = subst (λ (z : Option Poll × ConsumerView). AreSteps p (made + n) z.0 t u from z.1)
            (λ j. ((ap stage_answer is ∙ tells) j, view j)) so.steps;
        kind = kind;
        noted = λ _. noted (at_views b.reader seat places notes) p (Past k) end
            (ap (λ ps. slice_get ps p) e ∙ set_here b.places p (Before (Past k)) there at);
        is = end;
      }

  -- if the claim goes on or is won and no budget is left, the poll is spent, and the consumer still holds the claim
  pub pursued_spent : (most left n : ℕ) (now : Claim) (st : Stage) (t u : Stream) (from : ConsumerView)
      (seat : SeatView) (places : List Place)
      → left ≡ 0 → claim_stage now ≡ st → note_of st ≡ None → stage_answer st ≡ None → place_after k now st ≡ At k now
      → HasCompeted p k (most + n) now t u from s seat → places ≡ slice_set b.places p (At k now)
      → IsPursuit p n most left poll.Spent t u from (at_views b.reader seat places b.notes)
  pursued_spent most left n now st t u from seat places none is noting tells here so e =
      let view : competed p k now seat s ≡ at_views b.reader seat places b.notes =
      seen_at now st seat places b.notes is so.same
      (e ∙ ap (λ z. slice_set b.places p z) (sym here))
      (ap (λ o. with_note p o b.notes) (sym noting)) in
      record {
        made = most;
        sum = omega (arith, none);
        spent = λ _. none;
        steps = subst (λ (z : Option Poll × ConsumerView). AreSteps p (most + n) z.0 t u from z.1)
            (λ j. ((ap stage_answer is ∙ tells) j, view j)) so.steps;
        kind = tt;
        noted = λ never. absurd (never refl);
        is = subst IsConsumer view so.is;
      }
