-- What devices count, and what they give and take, if their bytes are known.
use Rattle.std.specs.Prelude.{◌≡◌, ℕ, ◌+◌, ◌-◌, ◌%◌, ◌^◌, ◌≤◌, min, List, length, take, Some, None}
use Rattle.std.specs.declared.option.Option.{Option}
use Rattle.std.specs.Io.KnownBytes.{Appends, Consumes}

-- the number of failures that is counted after one more, modulo 2^64
abbrev pub one_more : ℕ → ℕ
one_more failures = (failures + 1) % 2 ^ 64

-- a count that stops at 2^64 - 1 grows by n
abbrev pub CountGrows : ℕ → ℕ → ℕ → Type 0
CountGrows n old new = min (2 ^ 64 - 1) new ≡ min (2 ^ 64 - 1) (old + n)

-- a count that stops at 2^64 - 1 grows by at most `most`
abbrev pub CountGrowsUpTo : ℕ → ℕ → ℕ → Type 0
CountGrowsUpTo most old new = (n : ℕ) × (n ≤ most) × CountGrows n old new

-- if the bytes are known, a prefix of the text was added at their end
abbrev pub AppendsFront : Option (List ℕ) → Option (List ℕ) → List ℕ → Type 0
AppendsFront old new text = (n : ℕ) × (n ≤ length text) × Appends old new (take n text)

-- if the bytes are known, the first n of them were taken away
abbrev pub ConsumesCount : ℕ → Option (List ℕ) → Option (List ℕ) → Type 0
ConsumesCount n old new = (bytes : List ℕ) × (length bytes ≡ n) × Consumes old new bytes

-- if the bytes are known, at most `most` of them were taken away, from their beginning
abbrev pub ConsumesUpTo : ℕ → Option (List ℕ) → Option (List ℕ) → Type 0
ConsumesUpTo most old new = (bytes : List ℕ) × (length bytes ≤ most) × Consumes old new bytes

-- these are the bytes that a reader has left, if they are known
abbrev pub Had : Option (List ℕ) → List ℕ → Type 0
Had None bytes = Unit {0}
Had (Some left) bytes = bytes ≡ left
