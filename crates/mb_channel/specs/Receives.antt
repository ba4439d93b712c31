-- What a receive came to.
use Rattle.std.specs.Prelude.{◌≡◌, ◌<◌, ◌⊎◌, Some, false}
use Rattle.mb_segment.specs.Moves.{SawAllTaken, found_empty}
use Rattle.mb_channel.specs.Types.{View}
use Rattle.mb_channel.specs.declared.tried.Tried.{Tried}
use Rattle.mb_channel.specs.declared.tried.Tried.TheVariants.{Again, Empty, Value}
use Rattle.mb_channel.specs.Ends.{Standing}
use Rattle.mb_channel.specs.Inside.{found_there}

-- since v, it looked in the segment where it is, and counted that none waits there: at that moment nothing waited in the
-- channel. All was claimed that it had sent or seen marked there
abbrev pub SawEmpty : {T : Type 0} → Standing T → Standing T → Type 0
SawEmpty {T} v w = (x : View T) × (w.pass ≡ Some x) × SawAllTaken x
    × (((v.chair.me.0.at < w.chair.me.0.at) × (0 < found_empty x))
    ⊎ ((v.chair.me.0.at ≡ w.chair.me.0.at) × (found_there v.pass < found_empty x)))

-- it is in no segment. Since v, it looked behind the last one, where it may receive: at that moment nothing waited in any
abbrev pub FoundNone : {T : Type 0} → Standing T → Standing T → Type 0
FoundNone v w = (w.chair.me.0.inside ≡ false) × (v.chair.me.0.found < w.chair.me.0.found)

-- a value was received, none was there, or that is not known
abbrev pub OfTried : {T : Type 0} → Tried T → (T → Type 0) → Type 0 → Type 0 → Type 0
OfTried (Value x) some empty again = some x
OfTried Empty some empty again = empty
OfTried Again some empty again = again
