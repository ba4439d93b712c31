-- What is true of an answer of a call that waits, variant by variant.
use Rattle.std.specs.Prelude.{IfErr, IfOk, Result, ℕ, ⊤}
use Rattle.mb_ring.specs.declared.receives.Found.{Found}
use Rattle.mb_ring.specs.declared.sends.NotSent.{NotSent}
use Rattle.mb_ring.specs.declared.sends.Place.{Place}
use Rattle.mb_ring.specs.declared.receives.Found.TheVariants as found
use Rattle.mb_ring.specs.declared.sends.NotSent.TheVariants as not_sent
use Rattle.mb_ring.specs.declared.sends.Place.TheVariants as place
pub use Rattle.mb_segment.specs.Waiting.{OfReceived}

-- the value that comes back
abbrev pub value_of : {T : Type 0} → NotSent T → T
value_of (not_sent.Full x) = x
value_of (not_sent.Closed x) = x
value_of (not_sent.Worn x) = x

-- the ring was full, or it was cut, or as many positions were drawn as can be
abbrev pub OfNotSent : {T : Type 0} → NotSent T → Type 0 → Type 0 → Type 0 → Type 0
OfNotSent (not_sent.Full x) full cut worn = full
OfNotSent (not_sent.Closed x) full cut worn = cut
OfNotSent (not_sent.Worn x) full cut worn = worn

-- it came back since the ring is cut
abbrev pub IsShutOut : {A T : Type 0} → Result A (NotSent T) → Type 0
IsShutOut r = IfOk r (λ _. ⊥) × IfErr r (λ e. OfNotSent e ⊥ ⊤ ⊥)

-- the same of draws, or a position is drawn
abbrev pub OfPlace : Place → (ℕ → Type 0) → Type 0 → Type 0 → Type 0 → Type 0
OfPlace (place.At k) at full cut worn = at k
OfPlace place.Full at full cut worn = full
OfPlace place.Closed at full cut worn = cut
OfPlace place.Worn at full cut worn = worn

-- a value was found, none yet, or none for ever
abbrev pub OfFound : {T : Type 0} → Found T → (T → Type 0) → Type 0 → Type 0 → Type 0
OfFound (found.Value x) some empty over = some x
OfFound found.Empty some empty over = empty
OfFound found.Over some empty over = over
