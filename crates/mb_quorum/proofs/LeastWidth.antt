-- The least width for m values is how many binary digits m - 1 has. For m of 0 and 1 it is 0.
use Rattle.std.proofs.Common.{◌≡◌, ℕ, suc, ◌-◌, ◌+◌, ◌*◌, ◌^◌, ◌<◌, ◌≤◌, inl, inr, arith}
use Rattle.std.proofs.Math.Numerals.{one-add}
use Rattle.std.proofs.Math.Pow.{pow-add, pow_mono, pow_pos}
use Rattle.std.proofs.lemmas.Bool.{cases_lt}
use Rattle.mb_quorum.specs.Width.{width_of}
use Rattle.mb_quorum.specs.WidthLaw.{width_is_least}

-- the number of binary digits of m - 1 is the least width for m values. Here 0 has no digits, and 0 - 1 is 0
pub digits_are_width : (m a b : ℕ) → a ≡ m - 1 → a < 2 ^ b → 2 ^ b ≤ 2 * a + 1 → b ≡ width_of m
digits_are_width m a b e enough tight =
    let least = width_is_least m in
    let above : width_of m ≤ b = least.least b (omega (arith, enough, e)) in
    let double : 2 ^ suc (width_of m) ≡ 2 * 2 ^ width_of m = rw one-add at (pow-add 2 1 (width_of m)) in
    let some : 0 < 2 ^ width_of m = pow_pos (width_of m) in
    elim (cases_lt (width_of m) b) [
      | inl less ↦
          (let grown : 2 ^ suc (width_of m) ≤ 2 ^ b = pow_mono less in
          absurd (omega (arith, grown, double, tight, some, e, least.enough)))
      | inr same ↦ omega (arith, above, same)
    ]
