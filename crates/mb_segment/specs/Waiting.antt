-- What is true of an answer of a call that waits, variant by variant.
use Rattle.mb_segment.specs.declared.waiting.Found.{Found}
use Rattle.mb_segment.specs.declared.waiting.NotSent.{NotSent}
use Rattle.mb_segment.specs.declared.waiting.Received.{Received}
use Rattle.mb_segment.specs.declared.waiting.Found.TheVariants as found
use Rattle.mb_segment.specs.declared.waiting.NotSent.TheVariants as not_sent
use Rattle.mb_segment.specs.declared.waiting.Received.TheVariants as received

-- the value that comes back
abbrev pub value_of : {T : Type 0} → NotSent T → T
value_of (not_sent.Full x) = x
value_of (not_sent.Closed x) = x

-- the segment was full, or it was cut
abbrev pub OfNotSent : {T : Type 0} → NotSent T → Type 0 → Type 0 → Type 0
OfNotSent (not_sent.Full x) full cut = full
OfNotSent (not_sent.Closed x) full cut = cut

-- a value was found, none yet, or none for ever
abbrev pub OfFound : {T : Type 0} → Found T → (T → Type 0) → Type 0 → Type 0 → Type 0
OfFound (found.Value x) some empty over = some x
OfFound found.Empty some empty over = empty
OfFound found.Over some empty over = over

-- a value was received, none can come any more, or the deadline came
abbrev pub OfReceived : {T : Type 0} → Received T → (T → Type 0) → Type 0 → Type 0 → Type 0
OfReceived (received.Value x) some over late = some x
OfReceived received.Over some over late = over
OfReceived received.TimedOut some over late = late
