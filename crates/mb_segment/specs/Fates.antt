-- What became of each value of a segment that was ended: who sent it, and who received it.
use Rattle.std.specs.Prelude.{List, None, Option, Some, slice_index, suc, zero, ℕ, ◌%◌, ◌+◌, ◌/◌, ◌≡◌, ◌⊎◌}
use Rattle.std.specs.Mem.Slots.{slots_items}
use mathlib.Core.Option.{some}
use lib.ListN.{get_elem?}
use Rattle.mb_segment.specs.declared.left.Fate.{Fate}
use Rattle.mb_segment.specs.declared.left.Left.{Left}
use Rattle.mb_segment.specs.Types.{Account, Spot}
use Rattle.mb_segment.specs.Laws.{Has}

-- the name, if the pass has one
abbrev pub name_in : ℕ → Option ℕ
name_in zero = None
name_in (suc n) = Some (suc n)

-- what a state tells. 0: nobody marked the position
abbrev pub fate_of : ℕ → Option Fate
fate_of zero = None
fate_of (suc names) =
    Some record { sender = name_in (names % 4294967296); receiver = name_in (names / 4294967296) }

abbrev pub fate_in : {T A : Type 0} → Left T A → ℕ → Option Fate
fate_in l k = fate_of (slice_index (slots_items l.closed.words) (k + 17))

-- one of these accounts has a value at position k, among those that it sent or those that it got
abbrev pub Somebody : {T : Type 0} → (Account T → List (Spot T)) → List (Account T) → ℕ → Type 0
Somebody {T} f accounts k = (i : ℕ) × (a : Account T) × (get_elem? accounts i ≡ some a) × (x : T) × Has k x (f a)

-- this is so of each account that has one there
abbrev pub Each : {T : Type 0} → (Account T → List (Spot T)) → List (Account T) → ℕ → (Account T → Type 0) → Type 0
Each {T} f accounts k is =
    (i : ℕ) (a : Account T) (x : T) → get_elem? accounts i ≡ some a → Has k x (f a) → is a

-- these accounts say that a value was sent at position k. The fate has the name of its sender, and that of its receiver.
-- It has no receiver if nobody got the value
pub record IsFate {T : Type 0} (accounts : List (Account T)) (k : ℕ) (f : Fate) : Type 0 where
  pub sent : Somebody (λ a. a.sent) accounts k
  pub sender : Each (λ a. a.sent) accounts k (λ a. f.sender ≡ name_in a.name)
  pub receiver : Each (λ a. a.got) accounts k (λ a. f.receiver ≡ name_in a.name)
  pub got : (f.receiver ≡ None) ⊎ Somebody (λ a. a.got) accounts k

-- what these accounts say of position k: nobody sent a value there, or its value has this fate
abbrev pub OfFate : {T : Type 0} → List (Account T) → ℕ → Option Fate → Type 0
OfFate accounts k None = Somebody (λ a. a.sent) accounts k → ⊥
OfFate accounts k (Some f) = IsFate accounts k f
