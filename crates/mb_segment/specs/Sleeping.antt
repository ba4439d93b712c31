-- Who waits, who owes what, and the two laws of sleep.
use Rattle.std.specs.Prelude.{List, [], suc, zero, ℕ, ◌+◌, ◌<◌, ◌∷◌, ◌≤◌, ◌⊎◌}
use Rattle.mb_segment.specs.Types.{View}

-- the sum of a number over all views
abbrev pub total : {T : Type 0} → (View T → ℕ) → List (View T) → ℕ
total f [] = 0
total f (v ∷ vs) = f v + total f vs

-- in the list, with or without a token
abbrev pub listed : {T : Type 0} → View T → ℕ
listed v = v.duty.fresh + v.duty.asleep + v.duty.leaving

abbrev pub sleeping : {T : Type 0} → View T → ℕ
sleeping v = v.duty.asleep

-- debts: wakes, looks, also of who has just entered, and what closers owe
abbrev pub owed : {T : Type 0} → View T → ℕ
owed v = v.duty.wakes + v.duty.looks + v.duty.fresh + v.duty.closing

abbrev pub closing : {T : Type 0} → View T → ℕ
closing v = v.duty.closing

-- the tokens that it gave, and those that it took
abbrev pub tokens_given : {T : Type 0} → View T → ℕ
tokens_given v = v.tokens.gave

abbrev pub tokens_taken : {T : Type 0} → View T → ℕ
tokens_taken v = v.tokens.took

-- each that sleeps has a token; or no more values wait than there are tokens given and debts owed
abbrev pub Quiet : ℕ → ℕ → ℕ → ℕ → Type 0
Quiet waiting tokens asleep owes = (asleep ≤ tokens) ⊎ (waiting ≤ tokens + owes)

-- each that sleeps has a token; or a position is free to be drawn, or a closer still owes tokens
abbrev pub Shut : ℕ → ℕ → ℕ → ℕ → Type 0
Shut tokens asleep free closes = (asleep ≤ tokens) ⊎ (0 < free + closes)

-- how many positions may still be drawn, of those that were not: all until the segment is cut, then none
abbrev pub free : ℕ → ℕ → ℕ
free zero undrawn = undrawn
free (suc c) undrawn = 0
