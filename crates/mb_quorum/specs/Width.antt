-- How many bits tell m values apart: the least width.
use Rattle.std.specs.Prelude.{ℕ, zero, suc, ◌^◌, ◌≤◌, nat_lt, if◌then◌else◌}

-- how many of the powers 2 ^ 0, 2 ^ 1, .., 2 ^ (n - 1) are below m
abbrev pub powers_below : ℕ → ℕ → ℕ
powers_below zero m = 0
powers_below (suc i) m = if nat_lt (2 ^ i) m then suc (powers_below i m) else powers_below i m

-- the least b with m ≤ 2 ^ b, which is how many powers of two are below m
abbrev pub width_of : ℕ → ℕ
width_of m = powers_below m m

-- b is the least number with m ≤ 2 ^ b
pub record IsLeastWidth (m b : ℕ) : Type 0 where
  pub enough : m ≤ 2 ^ b
  pub least : (c : ℕ) → m ≤ 2 ^ c → b ≤ c
