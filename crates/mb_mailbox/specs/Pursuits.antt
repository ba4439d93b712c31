-- What a poll does with a claim on its lane. While a new claim goes straight, the place of that lane is out of date.
use Rattle.std.specs.Prelude.{ℕ, ◌≡◌, ◌≢◌, ◌+◌, ◌<◌, length, slice_set}
use Rattle.mb_mailbox.specs.Imports.{Claim, Cursor, IsStanding, Layout, SeatView, Stream, claim_stage, note_of}
use Rattle.mb_mailbox.specs.declared.consumer.ConsumerFields.{ConsumerFields}
use Rattle.mb_mailbox.specs.declared.consumer.Poll.{Poll}
use Rattle.mb_mailbox.specs.declared.consumer.Poll.TheVariants as poll
use Rattle.mb_world.specs.declared.place.Place.TheVariants.{At, Before}
use Rattle.mb_mailbox.specs.Consumers.{ConsumerView, IsConsumer}
use Rattle.mb_mailbox.specs.ConsumerStep.{stage_answer}
use Rattle.mb_mailbox.specs.Moves.{HasPlace, moved_to}
use Rattle.mb_world.specs.Places.{place_after}
use Rattle.mb_mailbox.specs.Steps.{AreSteps, HasNoteOnEach, outcome}

-- ---- a consumer by its fields
-- the consumer with these fields
abbrev pub with_fields : {Z : Type 0} → ConsumerFields Z → ConsumerView
with_fields f = record { reader = f.reader; seat = f.seat; places = f.places.items; notes = f.notes.lists }

-- the consumer at cell k of lane p with this claim there
abbrev pub holding : ℕ → ℕ → Claim → ConsumerView → ConsumerView
holding p k claim s = record s { places = slice_set s.places p (At k claim) }

-- the consumer before the link at this cursor of lane p
abbrev pub at_link : ℕ → Cursor → ConsumerView → ConsumerView
at_link p at s = record s { places = slice_set s.places p (Before at) }

-- the consumer stands at a cell of lane p, with a claim there
pub record IsHolding (p : ℕ) (s : ConsumerView) : Type 0 where
  pub cell : ℕ
  pub claim : Claim
  pub place : HasPlace p (At cell claim) s

-- the consumer has a lane p, where its place may be out of date. With its place there set to cell k, and a claim about
-- to make its first access to object o with input v, it is a consumer as `IsConsumer` says
pub record IsBeforeObject (layout : Layout) (p k o v : ℕ) (s : ConsumerView) : Type 0 where
  pub lane : p < length s.places
  pub claim : Claim
  pub standing : IsStanding layout s.seat.consumer o v claim
  pub is : IsConsumer (holding p k claim s)

-- ---- accesses of the claim
-- the consumer after accesses of the claim on cell k, by the stage that the claim has then
abbrev pub competed : ℕ → ℕ → Claim → SeatView → ConsumerView → ConsumerView
competed p k claim seat s =
    moved_to p (place_after k claim (claim_stage claim)) (note_of (claim_stage claim)) s.reader.part
    seat.part s

-- n accesses on lane p led from the consumer `from` to the one that `competed` makes of `s`, of which `IsConsumer`
-- holds. Its claim on cell k came to `claim`, and its seat of the claims to `seat`, the seat of `s` with a new part
pub record HasCompeted (p k n : ℕ) (claim : Claim) (t u : Stream) (from s : ConsumerView)
    (seat : SeatView) : Type 0 where
  pub same : seat ≡ record s.seat { part = seat.part }
  pub steps : AreSteps p n (stage_answer (claim_stage claim)) t u from (competed p k claim seat s)
  pub is : IsConsumer (competed p k claim seat s)

-- ---- the rest of a poll
-- a poll can return this answer after it has held a claim
abbrev pub IsOfClaim : Poll → Type 0
IsOfClaim poll.Nothing = ⊥
IsOfClaim poll.Ended = ⊥
IsOfClaim poll.NoLane = ⊥
IsOfClaim _ = Unit {0}

-- how many accesses a new claim and the load of its item make, by the poll's answer, if cells have a last object alone
abbrev pub claim_takes : Poll → ℕ
claim_takes (poll.Took x) = 2
claim_takes _ = 1

-- after n accesses on lane p, further ones come to this answer of a claim, and leave `left` of a budget of `most`. If
-- the poll is spent, nothing is left, and else each cell met on the lane has a note. `IsConsumer` still holds
pub record IsPursuit (p n most left : ℕ) (answer : Poll) (t u : Stream) (from new : ConsumerView)
    : Type 0 where
  pub made : ℕ
  pub sum : made + left ≡ most
  pub spent : answer ≡ poll.Spent → left ≡ 0
  pub steps : AreSteps p (made + n) (outcome answer) t u from new
  pub kind : IsOfClaim answer
  pub noted : answer ≢ poll.Spent → HasNoteOnEach p new
  pub is : IsConsumer new
