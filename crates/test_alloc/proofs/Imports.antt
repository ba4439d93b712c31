-- What holds at each number below n, and at n, holds at each number below n + 1.
use Rattle.std.proofs.Common.{ℕ, ◌<◌, ◌+◌, arith, inl, inr, subst, sym}
use Rattle.std.proofs.lemmas.Bool.{cases_eq}

pub below_next : (P : ℕ → Type 0) (n : ℕ) → ((k : ℕ) → k < n → P k) → P n → (k : ℕ) → k < n + 1 → P k
below_next P n before here k inside = elim (cases_eq k n) [
  | inl same ↦ subst P (sym same) here
  | inr other ↦ before k (omega (arith, inside, other))
]
