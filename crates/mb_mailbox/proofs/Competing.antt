-- `HasCompeted` holds before a claim's first access in a poll, and after each of its accesses.
use Rattle.std.proofs.Common.{◌≡◌, ℕ, ◌+◌, ◌∷◌, refl, sym, ap, ◌∙◌, subst}
use Rattle.std.specs.Prelude.{Option, Some, None, List, slice_get, slice_set}
use Rattle.mb_claim.specs.declared.access.ClaimOp.{ClaimOp}
use Rattle.mb_claim.specs.declared.access.Stage.TheVariants as stage
use Rattle.mb_mailbox.specs.Imports.{Claim, IsClaimIn, SeatView, Stage, Stream, TableSize, ToClaims, access_of, claim_stage, claims_at, consumer_of, next_u64, note_of, part_on, with_access}
use Rattle.mb_mailbox.specs.declared.consumer.Poll.{Poll}
use Rattle.mb_world.specs.declared.place.Place.{Place}
use Rattle.mb_world.specs.declared.place.Place.TheVariants.{At}
use Rattle.mb_mailbox.specs.Consumers.{ConsumerView, IsConsumer, parts_of}
use Rattle.mb_mailbox.specs.ConsumerStep.{ConsumerStep, stage_answer}
use Rattle.mb_mailbox.specs.Moves.{HasLoads, HasPlace, HasTurns, moved_to}
use Rattle.mb_world.specs.Places.{place_after}
use Rattle.mb_mailbox.specs.Pursuits.{HasCompeted}
use Rattle.mb_mailbox.specs.Steps.{AreSteps, with_note}
use Rattle.mb_mailbox.proofs.Lists.{set_here, set_same, set_twice, some_same}
use Rattle.mb_mailbox.proofs.Made.{claim_made}
use Rattle.mb_mailbox.proofs.Polls.{steps_more}

-- `IsConsumer` still holds after an access of the consumer's claim, and by `IsNext` that access is the consumer's next
-- one on the lane. Both are clauses of laws in src/consumer/moves.rt
abbrev pub MovesOn : Type 0
MovesOn = (s : ConsumerView) (p k word seen : ℕ) (claim now : Claim) (next : ClaimOp)
    → IsConsumer s → HasLoads s → HasPlace p (At k claim) s
    → consumer_of now ≡ s.seat.consumer
    → HasTurns s now (part_on s.seat.consumer k (access_of s.seat.consumer k next seen word ∷ s.seat.part))
    → IsConsumer (moved_to p (place_after k now (claim_stage now)) (note_of (claim_stage now))
    s.reader.part (access_of s.seat.consumer k next seen word ∷ s.seat.part) s)

abbrev pub IsNext : Type 0
IsNext = (s : ConsumerView) (p k word seen : ℕ) (claim now : Claim) (next : ClaimOp)
    → IsConsumer s → HasPlace p (At k claim) s → claim_stage claim ≡ stage.Going
    → consumer_of now ≡ s.seat.consumer
    → HasTurns s now (part_on s.seat.consumer k (access_of s.seat.consumer k next seen word ∷ s.seat.part))
    → ConsumerStep (claims_at s.seat.table) s.seat.consumer p (parts_of s.reader s.seat)
    (ToClaims (access_of s.seat.consumer k next seen word)) (stage_answer (claim_stage now))

-- a stage without a note that is not `Going` is `Won`
unnoted : (st : Stage) → note_of st ≡ None → (st ≡ stage.Going → ⊥) → st ≡ stage.Won
unnoted stage.Going e ne = absurd (ne refl)
unnoted stage.Won e ne = refl
unnoted (stage.Lost w) e ne = absurd (cc)
unnoted stage.Undecided e ne = absurd (cc)

-- if the claim's stage has no note, to move the consumer to the place of that stage changes nothing. There is no answer
still : (p k : ℕ) (claim : Claim) (st : Stage) (s : ConsumerView) → HasPlace p (At k claim) s → note_of st ≡ None
    → (moved_to p (place_after k claim st) (note_of st) s.reader.part s.seat.part s ≡ s) × (stage_answer st ≡ None)
still p k claim stage.Going s e none =
    (ap (λ (ps : List Place). record s { places = ps }) (set_same s.places p (At k claim) e), refl)
still p k claim stage.Won s e none =
    (ap (λ (ps : List Place). record s { places = ps }) (set_same s.places p (At k claim) e), refl)
still p k claim (stage.Lost w) s e none = absurd (cc)
still p k claim stage.Undecided s e none = absurd (cc)

-- `HasCompeted` holds before the claim's first access, if steps led to the consumer at its claim
pub competed_none : (p k n : ℕ) (claim : Claim) (t u : Stream) (from s : ConsumerView) (seat : SeatView) → s.seat ≡ seat
    → HasPlace p (At k claim) s → note_of (claim_stage claim) ≡ None → IsConsumer s → AreSteps p n None t u from s
    → HasCompeted p k n claim t u from s seat
competed_none p k n claim t u from s seat is e none i m =
    let same = still p k claim (claim_stage claim) s e none in
    subst (λ (z : SeatView). HasCompeted p k n claim t u from s z) is (record {
      same = refl;
      steps = subst (λ (z : Option Poll × ConsumerView). AreSteps p n z.0 t u from z.1)
          (λ j. (sym same.1 j, sym same.0 j)) m;
      is = subst IsConsumer (sym same.0) i;
    })

-- `HasCompeted` still holds after one more access of the claim, with one step more
pub competed_more : MovesOn → IsNext → (s from : ConsumerView) (p k n word seen : ℕ)
    (was now : Claim) (next : ClaimOp) (seat new : SeatView) (size : TableSize)
    (there : Place) (t u v : Stream) → slice_get s.places p ≡ Some there → HasLoads s → s.seat.table.size ≡ Some size
    → claim_stage was ≡ stage.Going → HasCompeted p k n was t u from s seat
    → new ≡ with_access (access_of seat.consumer k next seen word) seat → consumer_of now ≡ seat.consumer
    → IsClaimIn size.layout now (part_on new.consumer k new.part) → (word, v) ≡ next_u64 u
    → HasCompeted p k (n + 1) now t v from s new
competed_more moves nexts s from p k n word seen was now next seat new size there t u v e h table
    going so adds own turns drawn =
    let c = s.seat.consumer in
    let mid = moved_to p (At k was) None s.reader.part seat.part s in
    let a = access_of c k next seen word in
    let st = claim_stage now in
    let at : HasPlace p (At k was) mid = set_here s.places p (At k was) there e in
    let was_steps : AreSteps p n None t u from mid =
    subst (λ z. AreSteps p n (stage_answer z) t u from
    (moved_to p (place_after k was z) (note_of z) s.reader.part seat.part s)) going so.steps in
    let was_is : IsConsumer mid =
    subst (λ z. IsConsumer (moved_to p (place_after k was z) (note_of z) s.reader.part seat.part s)) going so.is in
    let same : seat.consumer ≡ c = ap (λ (z : SeatView). z.consumer) so.same in
    let added : new ≡ record s.seat { part = a ∷ seat.part } =
    adds ∙ (λ j. record (so.same j) { part = access_of (same j) k next seen word ∷ seat.part }) in
    let path : IsClaimIn size.layout now (part_on c k (a ∷ seat.part)) =
    subst (λ (z : SeatView). IsClaimIn size.layout now (part_on z.consumer k z.part)) added turns in
    let turned : HasTurns mid now (part_on c k (a ∷ seat.part)) =
    λ z is. subst (λ (y : TableSize). IsClaimIn y.layout now (part_on c k (a ∷ seat.part)))
    (some_same size z (sym table ∙ is)) path in
    let mine : consumer_of now ≡ c = own ∙ same in
    let moved = moves mid p k word seen was now next was_is h at mine turned in
    let step = claim_made mid mid p word a st (record s.seat { part = a ∷ seat.part })
    (slice_set mid.places p (place_after k now st)) (with_note p (note_of st) s.notes)
    (stage_answer st) refl refl refl refl refl
    (nexts mid p k word seen was now next was_is at going mine turned) u v drawn in
    let twice : slice_set mid.places p (place_after k now st) ≡ slice_set s.places p (place_after k now st) =
    set_twice s.places p (At k was) (place_after k now st) in
    let steps = steps_more p n (stage_answer st) t u v from mid
    (record {
      reader = s.reader;
      seat = record s.seat { part = a ∷ seat.part };
      places = slice_set mid.places p (place_after k now st);
      notes = with_note p (note_of st) s.notes;
    })
    was_steps step in
    subst (λ (z : SeatView). HasCompeted p k (n + 1) now t v from s z) (sym added) (record {
      same = refl;
      steps = subst (λ (ps : List Place). AreSteps p (n + 1) (stage_answer st) t v from
          (record {
            reader = s.reader;
            seat = record s.seat { part = a ∷ seat.part };
            places = ps;
            notes = with_note p (note_of st) s.notes;
          })) twice steps;
      is = subst (λ (ps : List Place). IsConsumer (record {
        reader = s.reader;
        seat = record s.seat { part = a ∷ seat.part };
        places = ps;
        notes = with_note p (note_of st) s.notes;
      })) twice moved;
    })
