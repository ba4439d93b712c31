-- What the laws of all histories speak of.
use Rattle.std.specs.Prelude.{Option, length, slice_index, ℕ, ◌%◌, ◌+◌, ◌-◌, ◌<◌, ◌≡◌, ◌≤◌, ◌⊎◌}
use mathlib.Core.Option.{none, some}
use lib.ListN.{get_elem?}
use Rattle.atomic_table.specs.Table.{State, Step, step}
use Rattle.mb_ring.specs.Types.{Account, Member, Spent, View, Want}
use Rattle.mb_ring.specs.Passes.{closing, owed, sleeping, total}
use Rattle.mb_ring.specs.Rule.{Keeps}

abbrev pub RingState : Type 0 → Type 0
RingState T = State (Option T) (View T)

-- the words: how many positions are drawn, and how many are claimed
abbrev pub drawn_in : {T : Type 0} → RingState T → ℕ
drawn_in s = slice_index s.words 0 % 9223372036854775808

abbrev pub claimed_in : {T : Type 0} → RingState T → ℕ
claimed_in s = slice_index s.words 1

-- the first word says that no more positions will be drawn: the top bit is set
abbrev pub IsCut : {T : Type 0} → RingState T → Type 0
IsCut s = 9223372036854775808 ≤ slice_index s.words 0

-- a load of word j
abbrev pub load_in : {T : Type 0} → ℕ → RingState T → Step (Option T)
load_in j s = step (length s.homes) j 0 0 none

abbrev pub IsViewOf : {T : Type 0} → RingState T → ℕ → View T → Type 0
IsViewOf s i v = get_elem? s.views i ≡ some v

-- it is the view of a pass that is out
abbrev pub IsPassOf : {T : Type 0} → RingState T → ℕ → View T → Type 0
IsPassOf s i v = (get_elem? s.views i ≡ some v) × (v.role ≡ Member)

-- how many values wait
abbrev pub waiting_in : {T : Type 0} → RingState T → ℕ
waiting_in s = drawn_in s - claimed_in s

-- who sleeps in a list, and what is owed to them
pub record Sleepers : Type 0 where
  pub asleep : ℕ  -- how many sleep
  pub tokens : ℕ  -- tokens given to them and not taken. Each lets one go on
  pub owed : ℕ  -- looks and wakes that passes owe
  pub owed_to_all : ℕ  -- how often passes owe a token to each that sleeps

abbrev pub sleepers : {T : Type 0} → Want → (s : RingState T) → Keeps s → Sleepers
sleepers q s k = record {
  asleep = total (sleeping q) s.views;
  tokens = k.tokens q;
  owed = total (owed q) s.views;
  owed_to_all = total (closing q) s.views;
}

-- Where one sleeps and has no token: if the ring is open, for each of the `goods` values (or free places) there is a
-- token, or a look or a wake that somebody owes. If not, somebody owes a token to all. A ring is open until it is cut. The
-- theorem of the channel calls this `goes_on`, and also admits an open channel in which somebody owes a token to all
abbrev pub IsAwake : Type 0 → ℕ → Sleepers → Type 0
IsAwake open_ goods s =
    s.tokens < s.asleep → ((open_ → ⊥) × (0 < s.owed_to_all)) ⊎ (open_ × (goods ≤ s.tokens + s.owed))

-- it is the number of a pass; and if the pass is out, this is true of its account
abbrev pub IsOfPass : {T : Type 0} → RingState T → ℕ → (Account T → Type 0) → Type 0
IsOfPass {T} s i did = (v : View T) × IsViewOf s i v × ((v.role ≡ Spent) ⊎ ((v.role ≡ Member) × did v.account))
