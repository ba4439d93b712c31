-- What is true of an answer, variant by variant.
use Rattle.std.specs.Prelude.{ℕ}
use Rattle.mb_channel.specs.Types.{Arc, Global, Pass, Segment}
use Rattle.mb_channel.specs.declared.answers.Retired.{Retired}
use Rattle.mb_channel.specs.declared.answers.Retired.TheVariants.{Again, Last, One}
use Rattle.mb_channel.specs.declared.channel.Refused.{Refused}
use Rattle.mb_channel.specs.declared.channel.Refused.TheVariants.{NoMemory, Closed as Ended, Crowded as Full}
use Rattle.mb_channel.specs.declared.answers.Came.{Came}
use Rattle.mb_channel.specs.declared.answers.Came.TheVariants.{Added, Closed, Crowded, Gone, Here, Locked, NotYet}

-- if the call was refused since the channel is closed, this is so
abbrev pub IfClosed : Refused → Type 0 → Type 0
IfClosed NoMemory closed = Unit {0}
IfClosed Ended closed = closed
IfClosed Full closed = Unit {0}

-- the call was refused before it made a sender: never for memory, and by `Closed` only if this is so
abbrev pub IfUnmade : Refused → Type 0 → Type 0
IfUnmade NoMemory closed = ⊥
IfUnmade Ended closed = closed
IfUnmade Full closed = Unit {0}

-- an end got a pass, went on, found that no segment was there yet, or ever will be, or nothing changed
abbrev pub OfCame : {T : Type 0} → Came T → (Arc (Segment T Global) Global → Pass T → Type 0) → (ℕ → Type 0)
    → Type 0 → Type 0 → Type 0 → Type 0
OfCame (Here s p) here gone not_yet closed same = here s p
OfCame (Gone k) here gone not_yet closed same = gone k
OfCame NotYet here gone not_yet closed same = not_yet
OfCame Added here gone not_yet closed same = not_yet
OfCame Closed here gone not_yet closed same = closed
OfCame Crowded here gone not_yet closed same = same
OfCame Locked here gone not_yet closed same = same

-- no sender is left, or one is, or nothing changed and there were so many
abbrev pub OfRetired : Retired → Type 0 → Type 0 → (ℕ → Type 0) → Type 0
OfRetired Last last one again = last
OfRetired One last one again = one
OfRetired (Again n) last one again = again n
