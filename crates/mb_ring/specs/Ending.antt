-- What a ring that was ended has left.
use Rattle.std.specs.Prelude.{List, Option, Some, [], length, suc, ℕ, ◌%◌, ◌+◌, ◌∷◌, ◌≡◌}
use mathlib.Core.Option.{some}
use lib.ListN.{get_elem?}
use Rattle.std.specs.Mem.Slots.{slots_items}
use Rattle.mb_ring.specs.declared.left.Left.{Left}

-- the values of the list stand in the n slots from that of position p on
abbrev pub Stand : {T : Type 0} → ℕ → List (Option T) → ℕ → List T → Type 0
Stand n slots p [] = Unit {0}
Stand n slots p (x ∷ xs) = (get_elem? slots (p % n) ≡ some (Some x)) × Stand n slots (suc p) xs

-- these values are left, from the next one to be given out
abbrev pub HasLeft : {T A : Type 0} → Left T A → List T → Type 0
HasLeft l xs = Stand l.size (slots_items l.closed.slots) l.at xs × (l.at + length xs ≡ l.until)
