-- What the seats of a table know: parts of consumers. Parts are lists of accesses, the newest first.
use Rattle.std.specs.Prelude.{ℕ, ◌≡◌, ◌⊎◌, Option, Some, None, List, slice_get}
use mathlib.Core.Option.{some}
use lib.ListN.{get_elem?}
use Rattle.mb_claim.specs.Vocabulary.{Claims, claims_in}
use Rattle.mb_shared_claims.specs.Types.{ClaimAccess, TableSize, View, Issuing, Drawing, Standing, Taking, Spent}

-- the claims on the cells of a table of this size
abbrev pub claims_of_size : TableSize → Claims
claims_of_size size = claims_in size.layout size.cells

-- a hub's roll: for each number issued the part of that consumer if its seat was returned, else none
abbrev pub Roll : Type 0
Roll = List (Option (List ClaimAccess))

-- the seat of consumer c was returned, with this part
abbrev pub WasTaken : Roll → ℕ → List ClaimAccess → Type 0
WasTaken roll c xs = slice_get roll c ≡ Some (Some xs)

-- the number c was issued, and its seat is out
abbrev pub IsOut : Roll → ℕ → Type 0
IsOut roll c = slice_get roll c ≡ Some None

-- the view has this part of consumer c: it is the view of c's seat, or the view of the hub, which took that seat back
abbrev pub HasPart : View → ℕ → List ClaimAccess → Type 0
HasPart (Issuing size roll) c xs = WasTaken roll c xs
HasPart (Drawing size roll) c xs = WasTaken roll c xs
HasPart (Standing size own done) c xs = (c ≡ own) × (xs ≡ done)
HasPart (Taking size roll own done) c xs = ((c ≡ own) × (xs ≡ done)) ⊎ WasTaken roll c xs
HasPart Spent c xs = ⊥

-- this seat has this view
abbrev pub IsViewAt : List View → ℕ → View → Type 0
IsViewAt views seat v = get_elem? views seat ≡ some v

-- this seat's view has this part of consumer c
abbrev pub HasPartAt : List View → ℕ → ℕ → List ClaimAccess → Type 0
HasPartAt views seat c xs = (v : View) × IsViewAt views seat v × HasPart v c xs
