-- What an end has of its segment, with what it owes there.
use Rattle.std.specs.Prelude.{Bool, List, None, Option, Some, [], false}
use Rattle.mb_channel.specs.Types.{Arc, Global, Position, Segment, View}
use Rattle.mb_channel.specs.declared.busy.Busy.{Busy}

-- what its pass knows
abbrev pub pass_at : {T : Type 0} → Option (Busy T) → Option (View T)
pass_at None = None
pass_at (Some b) = Some b.pass.seat.me.0

-- its share of that segment
abbrev pub share_at : {T : Type 0} → Option (Busy T) → Option (Arc (Segment T Global) Global)
share_at None = None
share_at (Some b) = Some b.segment

-- what its pass received there
abbrev pub got_at : {T : Type 0} → Option (Busy T) → List (Position T)
got_at None = []
got_at (Some b) = b.pass.seat.me.0.account.got

-- whether it was told that no value can come there any more
abbrev pub told_at : {T : Type 0} → Option (Busy T) → Bool
told_at None = false
told_at (Some b) = b.pass.seat.me.0.over
