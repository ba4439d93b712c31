-- Masks that share no register are numbers that share no bit.
use Rattle.std.proofs.Common.{◌≡◌, ℕ, bit_and, ◌↔◌, ap, ◌∙◌, inl, inr, arith}
use Rattle.std.specs.Int.{bit_at}
use Rattle.std.proofs.lemmas.Bool.{cases_eq}
use Rattle.std.proofs.lemmas.Nat.Bits.{bit_at_and, bit_at-zero, bit_at-lt, same_from_bits}
use Rattle.mb_quorum.specs.Quorum.{AreDisjoint}

-- if two masks share no bit, they share no register
disjoint_from_and : (a b : ℕ) → bit_and a b ≡ 0 → AreDisjoint a b
disjoint_from_and a b none r in_a in_b =
    let bit : bit_at (bit_and a b) r ≡ 0 = ap (λ n. bit_at n r) none ∙ bit_at-zero r in
    omega (arith, bit, bit_at_and a b r, in_a, in_b)

-- if two masks share no register, bit r of their `bit_and` is bit r of 0, which is 0
no_bit : (a b r : ℕ) → AreDisjoint a b → bit_at (bit_and a b) r ≡ bit_at 0 r
no_bit a b r disjoint =
    elim (cases_eq (bit_at a r) 1) [
      | inl in_a ↦ elim (cases_eq (bit_at b r) 1) [
        | inl in_b ↦ absurd (disjoint r in_a in_b)
        | inr out ↦ omega (arith, bit_at_and a b r, bit_at-lt b r, out, bit_at-zero r)
      ]
      | inr out ↦ omega (arith, bit_at_and a b r, bit_at-lt a r, out, bit_at-zero r)
    ]

-- two masks share no bit exactly if they share no register
pub disjoint_as_and : (a b : ℕ) → (bit_and a b ≡ 0) ↔ AreDisjoint a b
disjoint_as_and a b = (disjoint_from_and a b, λ disjoint. same_from_bits (bit_and a b) 0 (λ r. no_bit a b r disjoint))
