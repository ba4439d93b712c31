-- Steps of a claim from a seat, one after the other, with the random words of a stream.
use Rattle.std.specs.Prelude.{ℕ, zero, suc, ◌≡◌}
use Rattle.rand_core.specs.Stream.{Stream, next_u64}
use Rattle.mb_claim.specs.Vocabulary.{claim_stage, consumer_of, IsClaimIn, part_on}
use Rattle.mb_shared_claims.specs.Types.{Claim, Layout, Going}
use Rattle.mb_shared_claims.specs.Seats.{SeatView}
use Rattle.mb_shared_claims.specs.SeatSteps.{IsSeatStep}

-- from a claim, a seat and a stream, this number of accesses to a cell led to the claim and the seat that follow, and
-- to another stream. Each is the next one of a claim that goes on, with the stream's next word. After it the claim has
-- the same consumer, and has made all that this consumer has done on the cell
abbrev pub AreSeatSteps :
    Layout → ℕ → Claim → SeatView → Stream → ℕ → Claim → SeatView → Stream → Type 0
AreSeatSteps layout cell claim seat s zero follows now t = (follows ≡ claim) × (now ≡ seat) × (t ≡ s)
AreSeatSteps layout cell claim seat s (suc n) follows now t =
    (at : Claim) × (before : SeatView) × (u : Stream) × (word : ℕ)
    × AreSeatSteps layout cell claim seat s n at before u
    × (claim_stage at ≡ Going) × ((word, t) ≡ next_u64 u) × IsSeatStep layout cell word at before follows now
    × (consumer_of follows ≡ consumer_of at) × IsClaimIn layout follows (part_on now.consumer cell now.part)
