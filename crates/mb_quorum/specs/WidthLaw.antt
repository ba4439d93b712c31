-- `width_of m` is the least b with m ≤ 2 ^ b.
use Rattle.std.proofs.Common.{◌≡◌, ℕ, zero, suc, ◌*◌, ◌^◌, ◌<◌, ◌≤◌, sym, ◌∙◌, ap, inl, inr, arith, refl}
use Rattle.std.proofs.Math.Numerals.{one-add}
use Rattle.std.proofs.Math.Pow.{pow-lt, pow-add, pow_mono}
use Rattle.std.proofs.lemmas.Bool.{cases_lt, cond_below, cond_above}
use Rattle.mb_quorum.specs.Width.{powers_below, width_of, IsLeastWidth}

-- if 2 ^ i is below m, `powers_below` counts it
counted : (i m : ℕ) → 2 ^ i < m → powers_below (suc i) m ≡ suc (powers_below i m)
counted i m h = sym (cond_below (2 ^ i) m (suc (powers_below i m)) (powers_below i m) h)

-- if 2 ^ i is not below m, `powers_below` does not count it
passed_over : (i m : ℕ) → m ≤ 2 ^ i → powers_below (suc i) m ≡ powers_below i m
passed_over i m h = sym (cond_above (2 ^ i) m (suc (powers_below i m)) (powers_below i m) (powers_below i m) h refl)

-- at most n of the powers 2 ^ 0, .., 2 ^ (n - 1) are below m
powers_below-le : (n m : ℕ) → powers_below n m ≤ n
powers_below-le zero m = omega arith
powers_below-le (suc i) m =
    elim (cases_lt (2 ^ i) m) [
      | inl h ↦ omega (arith, counted i m h, powers_below-le i m)
      | inr h ↦ omega (arith, passed_over i m h, powers_below-le i m)
    ]

-- if 2 ^ n is below m, so are 2 ^ 0, .., 2 ^ (n - 1)
all_below : (n m : ℕ) → 2 ^ n < m → powers_below n m ≡ n
all_below zero m h = refl
all_below (suc i) m h =
    let lower : 2 ^ i < 2 ^ suc i = pow-lt (omega arith) in
    let before : 2 ^ i < m = omega (arith, lower, h) in
    omega (arith, counted i m before, all_below i m before)

-- if m is at most 2 ^ n, it is at most the power of two with the exponent `powers_below n m`
enough_powers : (n m : ℕ) → m ≤ 2 ^ n → m ≤ 2 ^ powers_below n m
enough_powers zero m h = h
enough_powers (suc i) m h =
    elim (cases_lt (2 ^ i) m) [
      | inl below ↦
          (let all : powers_below (suc i) m ≡ suc i = counted i m below ∙ ap suc (all_below i m below) in
          rw all h)
      | inr reached ↦ rw (passed_over i m reached) (enough_powers i m reached)
    ]

-- the lower of two powers of two has the lower exponent
exponent_below : (i c : ℕ) → 2 ^ i < 2 ^ c → i < c
exponent_below i c lower =
    elim (cases_lt i c) [
      | inl less ↦ less
      | inr more ↦ (let higher : 2 ^ c ≤ 2 ^ i = pow_mono more in omega (arith, higher, lower))
    ]

-- if m is at most 2 ^ c, c is at least `powers_below n m`
least_powers : (n m c : ℕ) → m ≤ 2 ^ c → powers_below n m ≤ c
least_powers zero m c h = omega arith
least_powers (suc i) m c h =
    elim (cases_lt (2 ^ i) m) [
      | inl below ↦
          omega (arith, counted i m below, powers_below-le i m, exponent_below i c (omega (arith, below, h)))
      | inr reached ↦ rw (passed_over i m reached) (least_powers i m c h)
    ]

-- m is below 2 ^ m
pub self_below : (m : ℕ) → m < 2 ^ m
self_below zero = omega arith
self_below (suc i) =
    let double : 2 ^ suc i ≡ 2 * 2 ^ i = rw one-add at (pow-add 2 1 i) in
    omega (arith, double, self_below i)

-- the number of powers of two below m is the least b with m ≤ 2 ^ b
pub width_is_least : (m : ℕ) → IsLeastWidth m (width_of m)
width_is_least m =
    record {
      enough = enough_powers m m (omega (arith, self_below m));
      least = least_powers m m;
    }
