-- What came of a draw.
use Rattle.std.specs.Prelude.{◌≡◌, true}
use Rattle.mb_channel.specs.declared.channel.Refused.TheVariants.{Closed}
use Rattle.mb_channel.specs.declared.drawing.Drawing.{Drawing}
use Rattle.mb_channel.specs.declared.drawing.Drawing.TheVariants as drawing
use Rattle.mb_channel.specs.declared.drawing.Drawn.{Drawn}
use Rattle.mb_channel.specs.Answers.{IfClosed}
use Rattle.mb_channel.specs.Ends.{IsBehind, Standing, stand_of, view_of}
use Rattle.mb_channel.specs.Halves.{EndsWith, place_in, stand_half, wakes_half}
use Rattle.mb_channel.specs.Standing.{NoMore, OneSent, sent_in}
use Rattle.mb_channel.specs.Wakes.{Wakes, wakes_of}

-- x is what it sent last, to the place that it drew
abbrev pub IsDrawnFor : {T : Type 0} → Drawn T → T → Type 0
IsDrawnFor d x = EndsWith (place_in d.half) x (sent_in (stand_half d.half))

-- the value counts as sent, and its place is drawn. Or nothing was sent: since another was first, or since the send is
-- refused. `Closed` is told only if the list is closed
abbrev pub OfDrawing : {T : Type 0} → Drawing T → T → Standing T → Type 0
OfDrawing (drawing.At d) x v = OneSent x v (stand_half d.half) × IsDrawnFor d x
OfDrawing (drawing.Again s) x v = NoMore v (stand_of s.end)
OfDrawing (drawing.Refused s why) x v = NoMore v (stand_of s.end)
    × IfClosed why (IsBehind s.end × ((view_of s.end).shut ≡ true))

abbrev pub after_drawing : {T : Type 0} → Drawing T → Wakes
after_drawing (drawing.At d) = wakes_half d.half
after_drawing (drawing.Again s) = wakes_of s.end
after_drawing (drawing.Refused s why) = wakes_of s.end

-- the draw is refused, since the channel is closed
abbrev pub DrawClosed : {T : Type 0} → Drawing T → Type 0
DrawClosed (drawing.At d) = ⊥
DrawClosed (drawing.Again s) = ⊥
DrawClosed (drawing.Refused s why) = why ≡ Closed
