-- What came of a claim.
use Rattle.std.specs.Prelude.{◌≡◌, ◌≢◌, ◌⊎◌}
use Rattle.mb_channel.specs.declared.channel.Refused.TheVariants.{Closed, NoMemory}
use Rattle.mb_channel.specs.declared.claiming.Claimed.{Claimed}
use Rattle.mb_channel.specs.declared.claiming.Claiming.{Claiming}
use Rattle.mb_channel.specs.declared.claiming.Claiming.TheVariants as claiming
use Rattle.mb_channel.specs.Answers.{IfClosed}
use Rattle.mb_channel.specs.Ends.{IsBehind, Standing, stand_of}
use Rattle.mb_channel.specs.Halves.{EndsWith, place_in, stand_half, wakes_half}
use Rattle.mb_channel.specs.Receives.{FoundNone, SawEmpty}
use Rattle.mb_channel.specs.Standing.{NoMore, OneGot, got_in}
use Rattle.mb_channel.specs.Wakes.{Wakes, wakes_of}

-- x is what it received last, from the place that it claimed
abbrev pub IsClaimOf : {T : Type 0} → Claimed T → T → Type 0
IsClaimOf c x = EndsWith (place_in c.half) x (got_in (stand_half c.half))

-- a value counts as received, and its place is claimed. Or nothing was received: none was there, that is not known, or the
-- receive is refused, but never for want of memory
abbrev pub OfClaiming : {T : Type 0} → Claiming T → Standing T → Type 0
OfClaiming {T} (claiming.At c) v = (x : T) × OneGot x v (stand_half c.half) × IsClaimOf c x
OfClaiming (claiming.Empty r) v = (SawEmpty v (stand_of r.end) ⊎ FoundNone v (stand_of r.end)) × NoMore v (stand_of r.end)
OfClaiming (claiming.Again r) v = NoMore v (stand_of r.end)
OfClaiming (claiming.Refused r why) v = NoMore v (stand_of r.end) × IfClosed why (IsBehind r.end) × (why ≢ NoMemory)

abbrev pub after_claiming : {T : Type 0} → Claiming T → Wakes
after_claiming (claiming.At c) = wakes_half c.half
after_claiming (claiming.Empty r) = wakes_of r.end
after_claiming (claiming.Again r) = wakes_of r.end
after_claiming (claiming.Refused r why) = wakes_of r.end

-- the claim is refused, since the channel is closed
abbrev pub ClaimClosed : {T : Type 0} → Claiming T → Type 0
ClaimClosed (claiming.At c) = ⊥
ClaimClosed (claiming.Empty r) = ⊥
ClaimClosed (claiming.Again r) = ⊥
ClaimClosed (claiming.Refused r why) = why ≡ Closed
