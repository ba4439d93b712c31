-- Masks as the code makes them, by shifts and complements.
use Rattle.std.proofs.Common.{◌≡◌, ℕ, zero, suc, ◌+◌, ◌-◌, ◌*◌, ◌/◌, ◌%◌, ◌^◌, ◌<◌, ◌≤◌, bit_and, bit_or}
use Rattle.std.proofs.Common.{◌∙◌, refl, ap, ap₂, w32, arith}
use Rattle.std.specs.Int.{bit_not}
use Rattle.std.proofs.lemmas.Nat.{one_shl}
use Rattle.std.proofs.lemmas.Nat.Bits.{bit_at-lt, bit_at_not, shr_and_one, ones_shr}
use Rattle.mb_quorum.specs.Mask.{mask_of}
use Rattle.mb_quorum.specs.Bits.{named_register, other_register}

-- equal lists of registers make equal masks
mask_of-same : (f g : ℕ → ℕ) (n : ℕ) → ((i : ℕ) → i < n → f i ≡ g i) → mask_of f n ≡ mask_of g n
mask_of-same f g zero each = refl
mask_of-same f g (suc n) each =
    ap₂ bit_or
    (mask_of-same f g n (λ i within. each i (omega (arith, within))))
    (ap (λ r. 2 ^ r) (each n (omega arith)))

-- if i is below 32, 1 shifted left by 2 i + (bit i of n) is the mask of register 2 i + (bit i of n) alone
shifted_to : (n i : ℕ) → i < 32 → 1 * 2 ^ (2 * i + bit_and (n / 2 ^ i) 1) % 2 ^ 64 ≡ 2 ^ named_register n i
shifted_to n i within =
    rw (shr_and_one n i) (one_shl (named_register n i) 64 (omega (arith, within, bit_at-lt n i)))

-- pass i of the loop of `mask_of_bits` adds register 2 i + (bit i of `bits`) to the mask, if i is below 32
pub mask_of-next :
    (bits i mask : ℕ) → i < 32 → mask ≡ mask_of (named_register bits) i
    → bit_or mask (1 * 2 ^ (2 * i + bit_and (bits / 2 ^ i) 1) % 2 ^ 64) ≡ mask_of (named_register bits) (i + 1)
mask_of-next bits i mask within before =
    let next : i + 1 ≡ suc i = omega arith in
    rw next (ap₂ bit_or before (shifted_to bits i within))

-- the first n bits of the 32-bit complement of v name the registers that the first n bits of v do not name
pub mask_of-flipped :
    (v n : ℕ) → v < 2 ^ 32 → n ≤ 32 → mask_of (named_register (bit_not w32 v)) n ≡ mask_of (other_register v) n
mask_of-flipped v n word narrow =
    mask_of-same (named_register (bit_not w32 v)) (other_register v) n
    (λ i within. omega (arith, bit_at_not w32 v i word (omega (arith, within, narrow)), bit_at-lt v i))

-- a word that is all ones, shifted right by 64 - m, is the mask of the first m registers
pub all_registers : (m : ℕ) → m ≤ 64 → (2 ^ 64 - 1) / 2 ^ (64 - m) ≡ 2 ^ m - 1
all_registers m limit =
    let back : 64 - (64 - m) ≡ m = omega arith in
    ones_shr 64 (64 - m) (omega arith) ∙ ap (λ n. 2 ^ n - 1) back
