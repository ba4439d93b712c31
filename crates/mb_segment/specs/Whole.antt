-- What a segment's whole life was, told at its end.
use Rattle.std.specs.Prelude.{List, Option, Some, [], suc, ℕ, ◌∷◌, ◌≡◌}
use mathlib.Core.Option.{some}
use lib.ListN.{get_elem?}
use Rattle.mb_segment.specs.Types.{Account}
use Rattle.mb_segment.specs.History.{Claim, Entry, History, all_entries, values}
use Rattle.mb_segment.specs.Passes.{Distinct, In, Match}
use Rattle.mb_segment.specs.Heard.{AllHeed}

-- the accounts of all passes, and the values left, are those of one history: the passes have different numbers, each did
-- just what its account says, nobody else sent, received or cut, and what is left is the rest of the list, in order
pub record IsWhole {T : Type 0} (accounts : List (Account T)) (left : List T) : Type 0 where
  pub history : History T
  pub numbers : List ℕ
  pub apart : Distinct numbers
  pub accounts_ : Match history numbers accounts
  pub senders : (k : ℕ) (e : Entry T) → get_elem? (all_entries history) k ≡ some e → In e.by numbers
  pub receivers : (k : ℕ) (c : Claim T) → get_elem? history.claims k ≡ some c → In c.to numbers
  pub closer : (n : ℕ) → history.cutter ≡ Some n → In n numbers
  pub left_is : left ≡ values history.rest
  -- each stands behind all that its pass knew
  pub heeds : AllHeed accounts

-- the values of the list stand in the slots from position p on
abbrev pub Stand : {T : Type 0} → List (Option T) → ℕ → List T → Type 0
Stand slots p [] = Unit {0}
Stand slots p (x ∷ xs) = (get_elem? slots p ≡ some (Some x)) × Stand slots (suc p) xs
