-- What a segment that was ended has left.
use Rattle.std.specs.Prelude.{List, length, ◌+◌, ◌≡◌}
use Rattle.std.specs.Mem.Slots.{slots_items}
use Rattle.mb_segment.specs.declared.left.Left.{Left}
use Rattle.mb_segment.specs.Whole.{Stand}

-- these values are left, in the slots from the next one to be given out
abbrev pub HasLeft : {T A : Type 0} → Left T A → List T → Type 0
HasLeft l xs = Stand (slots_items l.closed.slots) l.at xs × (l.at + length xs ≡ l.until)
