-- Two facts: if `nat_le bound n` fails, n is below the bound. If a position has no element, it is not below the length.
use Rattle.std.proofs.Common.{◌≡◌, ℕ, ◌<◌, ◌≤◌, Bool, true, false, nat_lt, nat_le, cond, Some, None, refl, arith}
use Rattle.std.proofs.lemmas.Bool.Decides.{nat_tests}

-- if the test fails whether the bound is at most n, then n is below the bound
pub below_by_test : (bound n : ℕ) → nat_le bound n ≡ false → n < bound
below_by_test bound n e = grind (arith, nat_tests)

-- if there is no element at a position, the position is not below the length
pub none_inside : (at all : ℕ) → None ≡ cond (nat_lt at all) (Some at) None → all ≤ at
none_inside at all e = by_test (nat_lt at all) refl e
  where
    -- whatever the test `at < all` says, the position is not below the length
    by_test : (b : Bool) → nat_lt at all ≡ b → None ≡ cond b (Some at) None → all ≤ at
    by_test true is none = cc
    by_test false is none = grind (arith, nat_tests)
