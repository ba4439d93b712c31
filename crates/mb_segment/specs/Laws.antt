-- What the laws of all histories speak of.
use Rattle.std.specs.Prelude.{List, Option, [], length, slice_index, suc, ℕ, ◌%◌, ◌<◌, ◌∷◌, ◌≡◌, ◌≤◌, ◌⊎◌}
use mathlib.Core.Option.{none, some}
use lib.ListN.{get_elem?}
use Rattle.atomic_table.specs.Table.{State, step}
use Rattle.mb_segment.specs.Types.{Account, Duty, Member, Spent, Spot, View}
use Rattle.mb_segment.specs.Moves.{found_empty}
use Rattle.mb_segment.specs.Steps.{Sat, looking}

abbrev pub SegmentState : Type 0 → Type 0
SegmentState T = State (Option T) (View T)

-- the words: how many positions are drawn, and how many are claimed
abbrev pub drawn_in : {T : Type 0} → SegmentState T → ℕ
drawn_in s = slice_index s.words 0 % 9223372036854775808

abbrev pub claimed_in : {T : Type 0} → SegmentState T → ℕ
claimed_in s = slice_index s.words 16

-- how many positions there are
abbrev pub positions_in : {T : Type 0} → SegmentState T → ℕ
positions_in s = length s.homes

-- the first word says that no more positions will be drawn: all are, or the top bit is set
abbrev pub IsOver : {T : Type 0} → SegmentState T → Type 0
IsOver s = positions_in s ≤ slice_index s.words 0

abbrev pub IsCut : {T : Type 0} → SegmentState T → Type 0
IsCut s = 9223372036854775808 ≤ slice_index s.words 0

abbrev pub IsViewOf : {T : Type 0} → SegmentState T → ℕ → View T → Type 0
IsViewOf s n v = get_elem? s.views n ≡ some v

-- it is the view of a pass that is out
abbrev pub IsPassOf : {T : Type 0} → SegmentState T → ℕ → View T → Type 0
IsPassOf s n v = (get_elem? s.views n ≡ some v) × (v.role ≡ Member)

-- in this state a pass loads the first word, and counts that it found nothing
pub record FindsEmpty {T : Type 0} (s : SegmentState T) : Type 0 where
  pub number : ℕ
  pub none_yet : Duty → Duty
  pub none_ever : Duty → Duty
  pub before : Sat T
  pub after : Sat T
  pub here : IsViewOf s number before.0
  pub looks : looking none_yet none_ever (step (positions_in s) 0 0 0 none) before (slice_index s.words 0) after
  pub counts : found_empty before.0 < found_empty after.0

-- it is the number of a pass; and if the pass is out, this is true of its account
abbrev pub IsOfPass : {T : Type 0} → SegmentState T → ℕ → (Account T → Type 0) → Type 0
IsOfPass {T} s n did = (v : View T) × IsViewOf s n v × ((v.role ≡ Spent) ⊎ ((v.role ≡ Member) × did v.account))

-- the list has this value at this position
abbrev pub Has : {T : Type 0} → ℕ → T → List (Spot T) → Type 0
Has p x [] = ⊥
Has p x (s ∷ ss) = ((s.at ≡ p) × (s.value ≡ x)) ⊎ Has p x ss

-- each position is above the one before, and none below b
abbrev pub Rises : {T : Type 0} → ℕ → List (Spot T) → Type 0
Rises b [] = Unit {0}
Rises b (s ∷ ss) = (b ≤ s.at) × Rises (suc s.at) ss
