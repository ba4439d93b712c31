-- The mask of the registers `register 0`, .., `register (n - 1)` holds exactly these registers.
use Rattle.std.proofs.Common.{◌≡◌, ℕ, zero, suc, ◌^◌, ◌<◌, ◌↔◌, sym, subst, inl, inr, arith}
use Rattle.std.specs.Int.{bit_at}
use Rattle.std.proofs.Math.Pow.{pow-lt, pow_pos}
use Rattle.std.proofs.lemmas.Nat.{or_lt}
use Rattle.std.proofs.lemmas.Nat.Bits.{bit_at_or, bit_at-pow_same, bit_at-pow_other, bit_at-lt, bit_at-zero}
use Rattle.std.proofs.lemmas.Bool.{cases_eq}
use Rattle.mb_quorum.specs.Mask.{mask_of}
use Rattle.mb_quorum.specs.Quorum.{IsMember}

-- each of the registers `register 0`, .., `register (n - 1)` is a member of their mask
pub mask_of-has : (register : ℕ → ℕ) (n i : ℕ) → i < n → IsMember (mask_of register n) (register i)
mask_of-has register zero i within = absurd (omega (arith, within))
mask_of-has register (suc n) i within =
    let older : ℕ = mask_of register n in
    let both = bit_at_or older (2 ^ register n) (register i) in
    elim (cases_eq i n) [
      | inl last ↦
          (let here : bit_at (2 ^ register n) (register i) ≡ 1 = rw last (bit_at-pow_same (register n)) in
          omega (arith, both, here, bit_at-lt older (register i)))
      | inr before ↦
          (let there : bit_at older (register i) ≡ 1 = mask_of-has register n i (omega (arith, within, before)) in
          omega (arith, both, there, bit_at-lt (2 ^ register n) (register i)))
    ]

-- each member of the mask of `register 0`, .., `register (n - 1)` is one of these registers
pub mask_of-only :
    (register : ℕ → ℕ) (n r : ℕ) → IsMember (mask_of register n) r → (i : ℕ) × (i < n) × (r ≡ register i)
mask_of-only register zero r member = absurd (omega (arith, bit_at-zero r, member))
mask_of-only register (suc n) r member =
    elim (cases_eq r (register n)) [
      | inl last ↦ (n, omega arith, last)
      | inr other ↦
          (let both = bit_at_or (mask_of register n) (2 ^ register n) r in
          let older : IsMember (mask_of register n) r =
          omega (arith, both, bit_at-pow_other (register n) r other, member) in
          let found = mask_of-only register n r older in
          (found.0, omega (arith, found.1), found.2))
    ]

-- if each of `register 0`, .., `register (n - 1)` is below k, their mask is below 2 ^ k
pub mask_of-lt :
    (register : ℕ → ℕ) (n k : ℕ) → ((i : ℕ) → i < n → register i < k) → mask_of register n < 2 ^ k
mask_of-lt register zero k each = pow_pos k
mask_of-lt register (suc n) k each =
    or_lt k (mask_of register n) (2 ^ register n)
    (mask_of-lt register n k (λ i within. each i (omega (arith, within))))
    (pow-lt (each n (omega arith)))

-- the members of the mask of `register 0`, .., `register (n - 1)` are exactly these registers
pub mask_of-member :
    (register : ℕ → ℕ) (n r : ℕ) → IsMember (mask_of register n) r ↔ ((i : ℕ) × (i < n) × (r ≡ register i))
mask_of-member register n r =
    let back : (i : ℕ) × (i < n) × (r ≡ register i) → IsMember (mask_of register n) r =
    λ found. subst (IsMember (mask_of register n)) (sym found.2) (mask_of-has register n found.0 found.1) in
    (mask_of-only register n r, back)
