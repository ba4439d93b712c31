-- How many registers a quorum has, and how long a list with an act for each register is.
use Rattle.std.proofs.Common.{◌≡◌, ◌≢◌, ℕ, zero, suc, ◌+◌, ◌*◌, ◌/◌, ◌%◌, ◌^◌, ◌<◌, ◌≤◌, ◌==◌, count_ones, cond, Bool}
use Rattle.std.proofs.Common.{true, false, List, ◌∷◌, length, inl, inr, sym, refl, ap, ◌∙◌, subst, arith}
use Rattle.std.specs.Int.{bit_at}
use Rattle.std.proofs.Math.Nat.{mod-lt, le-max_left, le-max_right}
use Rattle.std.proofs.Math.Numerals.{one-add}
use Rattle.std.proofs.Math.Pow.{pow_pos}
use Rattle.std.proofs.lemmas.Bool.{cases_eq, eqb-true, eqb-false}
use Rattle.std.proofs.lemmas.Nat.{mod-pow-add, div-add-mod', ones_cat, ones_le_self, zero_from_ones}
use Rattle.std.proofs.lemmas.Nat.Bits.{bit_at-lt}
use Rattle.mb_deciding.specs.{Act, acts_below, largest_quorum}

-- the empty quorum has no registers
ones_none : count_ones 0 ≡ 0
ones_none = omega (arith, ones_le_self 0)

-- the mask 1 has one register
ones_single : count_ones 1 ≡ 1
ones_single =
    elim (cases_eq (count_ones 1) 0) [
      | inl e ↦ (let none : ◌≡◌ {A = ℕ} 1 0 = zero_from_ones 1 e in absurd (omega arith))
      | inr some ↦ omega (arith, ones_le_self 1)
    ]

-- a list that gets one act more if a bit is 1 is longer by as many as the bit has ones
cond_size :
    (act : Act) (made : List Act) (bit n : ℕ) → bit < 2 → length made ≡ n → (is : Bool) → (bit == 1) ≡ is
    → length (cond is (act ∷ made) made) ≡ count_ones bit + n
cond_size act made bit n small e true is =
    let one : bit ≡ 1 = eqb-true bit 1 is in
    omega (arith, ap count_ones one, ones_single)
cond_size act made bit n small e false is =
    let other : bit ≢ 1 = eqb-false bit 1 is in
    let none : bit ≡ 0 = omega arith in
    omega (arith, ap count_ones none, ones_none)

-- a quorum has below n + 1 as many registers as below n, and one more if n is one of them
below_next : (n mask : ℕ) → count_ones (mask % 2 ^ suc n) ≡ count_ones (bit_at mask n) + count_ones (mask % 2 ^ n)
below_next n mask =
    let bits : mask % 2 ^ suc n ≡ bit_at mask n * 2 ^ n + mask % 2 ^ n = rw one-add at (mod-pow-add mask 1 n) in
    ap count_ones bits ∙ ones_cat n (bit_at mask n) (mask % 2 ^ n) (mod-lt mask (pow_pos n))

-- a list with an act for each register below a bound has as many acts as there are registers of the mask below it
pub each_exact : (act : ℕ → Act) (n mask : ℕ) → length (acts_below act n mask) ≡ count_ones (mask % 2 ^ n)
each_exact act zero mask =
    let none : mask % 1 ≡ 0 = omega (arith, mod-lt mask (pow_pos 0)) in omega (arith, ap count_ones none, ones_none)
each_exact act (suc n) mask =
    cond_size (act n) (acts_below act n mask) (bit_at mask n) (count_ones (mask % 2 ^ n)) (bit_at-lt mask n)
    (each_exact act n mask) (bit_at mask n == 1) refl
    ∙ sym (below_next n mask)

-- a list with an act for each register below a bound has no more acts than the quorum has registers
pub each_size : (act : ℕ → Act) (n mask : ℕ) → length (acts_below act n mask) ≤ count_ones mask
each_size act n mask =
    let whole : count_ones mask ≡ count_ones (mask / 2 ^ n) + count_ones (mask % 2 ^ n) =
    ap count_ones (sym (div-add-mod' mask (2 ^ n))) ∙ ones_cat n (mask / 2 ^ n) (mask % 2 ^ n)
    (mod-lt mask (pow_pos n)) in
    omega (arith, each_exact act n mask)

-- no quorum of one of the values below n has more registers than `largest_quorum`
pub largest_bound : (quorum : ℕ → ℕ) (n v : ℕ) → v < n → count_ones (quorum v) ≤ largest_quorum quorum n
largest_bound quorum zero v below = absurd (omega arith)
largest_bound quorum (suc n) v below =
    elim (cases_eq v n) [
      | inl e ↦ subst (λ k. count_ones (quorum k) ≤ largest_quorum quorum (suc n)) (sym e)
          (le-max_left (count_ones (quorum n)) (largest_quorum quorum n))
      | inr other ↦ omega (
        arith,
        largest_bound quorum n v (omega arith),
        le-max_right (count_ones (quorum n))
            (largest_quorum quorum n),
      )
    ]
