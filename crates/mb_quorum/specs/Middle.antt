-- The middle table: a write quorum is a set of half of the registers, rounded down, and the read quorum is the rest.
use Rattle.std.specs.Prelude.{ℕ, zero, suc, ◌+◌, ◌-◌, ◌/◌, ◌^◌, ◌≤◌, nat_lt, if◌then◌else◌}
use Rattle.mb_quorum.specs.Quorum.{QuorumTable}

-- how many sets of h registers there are among n: the binomial coefficient
abbrev pub choose : ℕ → ℕ → ℕ
choose n zero = 1
choose zero (suc h) = 0
choose (suc n) (suc h) = choose n (suc h) + choose n h

-- how many sets of half of n registers, rounded down, there are
abbrev pub halves : ℕ → ℕ
halves n = choose n (n / 2)

-- how many of `halves 0`, .., `halves (n - 1)` are below m
abbrev pub halves_below : ℕ → ℕ → ℕ
halves_below zero m = 0
halves_below (suc n) m = if nat_lt (halves n) m then suc (halves_below n m) else halves_below n m

-- the least n with m ≤ halves n. It is how many of `halves 0`, .., `halves (m - 1)` are below m, as halves never fall
abbrev pub breadth_of : ℕ → ℕ
breadth_of m = halves_below m m

-- n is the least number with m ≤ halves n
pub record IsLeastBreadth (m n : ℕ) : Type 0 where
  pub enough : m ≤ halves n
  pub least : (c : ℕ) → m ≤ halves c → n ≤ c

-- the mask of set number v, from 0, of the sets of h registers among n. The masks rise with v, so the sets without the
-- last register come first
abbrev pub set_number : ℕ → ℕ → ℕ → ℕ
set_number zero h v = 0
set_number (suc n) zero v = 0
set_number (suc n) (suc h) v =
    if nat_lt v (choose n (suc h)) then set_number n (suc h) v else 2 ^ n + set_number n h (v - choose n (suc h))

-- the middle table of m values. The write quorum of v is set number v of the sets of half of the registers, rounded
-- down. Its read quorum is all other registers
abbrev pub middle_table : ℕ → QuorumTable
middle_table m =
    record {
      registers = breadth_of m;
      values = m;
      write = set_number (breadth_of m) (breadth_of m / 2);
      read = λ v. 2 ^ breadth_of m - 1 - set_number (breadth_of m) (breadth_of m / 2) v;
    }
