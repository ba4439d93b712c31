-- Masks of registers: register r is the bit of worth 2 ^ r.
use Rattle.std.specs.Prelude.{ℕ, zero, suc, ◌^◌, bit_or}

-- the mask of the registers `register 0`, `register 1`, .., `register (n - 1)`
abbrev pub mask_of : (ℕ → ℕ) → ℕ → ℕ
mask_of register zero = 0
mask_of register (suc i) = bit_or (mask_of register i) (2 ^ register i)
