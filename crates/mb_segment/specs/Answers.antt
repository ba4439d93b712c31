-- What is true of an answer, variant by variant.
use Rattle.std.specs.Prelude.{ℕ}
use Rattle.mb_segment.specs.declared.answers.Cut.{Cut}
use Rattle.mb_segment.specs.declared.answers.Draw.{Draw}
use Rattle.mb_segment.specs.declared.answers.Leave.{Leave}
use Rattle.mb_segment.specs.declared.answers.Look.{Look}
use Rattle.mb_segment.specs.declared.answers.Rest.{Rest}
use Rattle.mb_segment.specs.declared.answers.Wake.{Wake}
use Rattle.mb_segment.specs.declared.answers.Cut.TheVariants as cut
use Rattle.mb_segment.specs.declared.answers.Draw.TheVariants as draw
use Rattle.mb_segment.specs.declared.answers.Leave.TheVariants as leave
use Rattle.mb_segment.specs.declared.answers.Look.TheVariants as look
use Rattle.mb_segment.specs.declared.answers.Rest.TheVariants as rest
use Rattle.mb_segment.specs.declared.answers.Wake.TheVariants as wake

-- a draw: of a position, or of none since all are drawn, since the segment is cut, or since another was first
abbrev pub OfDraw : Draw → (ℕ → Type 0) → Type 0 → Type 0 → Type 0 → Type 0
OfDraw (draw.At k) at full closed again = at k
OfDraw draw.Full at full closed again = full
OfDraw draw.Closed at full closed again = closed
OfDraw draw.Again at full closed again = again

-- a wake, of one or of all: nobody waits without a token, a token was given, or another changed the list
abbrev pub OfWake : Wake → Type 0 → Type 0 → Type 0 → Type 0
OfWake wake.Nobody nobody one again = nobody
OfWake wake.One nobody one again = one
OfWake wake.Again nobody one again = again

-- a look: at a position that is marked, at one that is not yet, at none, or at none for ever
abbrev pub OfLook : Look → (ℕ → Type 0) → Type 0 → Type 0 → Type 0 → Type 0
OfLook (look.Ready k) ready unmarked empty over = ready k
OfLook look.Yield ready unmarked empty over = unmarked
OfLook look.Empty ready unmarked empty over = empty
OfLook look.Over ready unmarked empty over = over

-- a sleeper: it took a token, or did not
abbrev pub OfRest : Rest → Type 0 → Type 0 → Type 0
OfRest rest.Woken woken stays = woken
OfRest rest.Sleep woken stays = stays
OfRest rest.Again woken stays = stays

abbrev pub OfLeave : Leave → Type 0 → Type 0 → Type 0 → Type 0
OfLeave leave.Left left owes again = left
OfLeave leave.Owes left owes again = owes
OfLeave leave.Again left owes again = again

-- a cut: by this pass, or by another before, or another pass was first to draw
abbrev pub OfCut : Cut → Type 0 → Type 0 → Type 0 → Type 0
OfCut cut.Done done was again = done
OfCut cut.Was done was again = was
OfCut cut.Again done was again = again
