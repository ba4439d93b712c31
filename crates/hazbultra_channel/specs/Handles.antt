-- The box that is taken out of a handle, and the thing to which the handle led.
use Rattle.std.specs.Prelude.{◌≡◌, Box, Option, None, Some}

-- there is a box exactly if there is a value, and the box has that value in it
abbrev pub holds : {X A : Type 0} → Option (Box X A) → Option X → Type 0
holds None o = o ≡ None
holds (Some b) o = o ≡ Some b.value
