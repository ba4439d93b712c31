-- What is true of an answer, variant by variant.
use Rattle.std.specs.Prelude.{ℕ, ◌≡◌}
use Rattle.mb_ring.specs.declared.answers.Draw.{Draw}
use Rattle.mb_ring.specs.declared.answers.Draw.TheVariants as draw
use Rattle.mb_segment.specs.declared.answers.Look.{Look}
use Rattle.mb_segment.specs.declared.answers.Look.TheVariants as look
pub use Rattle.mb_segment.specs.Answers.{OfCut, OfLeave, OfLook, OfRest, OfWake}

-- a draw: of a position; or of none, since the ring is full, cut or worn out, or since another is to go first
abbrev pub OfDraw : Draw → (ℕ → Type 0) → Type 0 → Type 0 → Type 0 → Type 0 → Type 0 → Type 0
OfDraw (draw.At k) at full closed worn busy again = at k
OfDraw draw.Full at full closed worn busy again = full
OfDraw draw.Closed at full closed worn busy again = closed
OfDraw draw.Worn at full closed worn busy again = worn
OfDraw draw.Yield at full closed worn busy again = busy
OfDraw draw.Again at full closed worn busy again = again

abbrev pub IsClosed : Draw → Type 0
IsClosed d = d ≡ draw.Closed

abbrev pub IsOver : Look → Type 0
IsOver l = l ≡ look.Over
