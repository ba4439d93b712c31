-- The unary table keeps the law of quorum tables.
use Rattle.std.proofs.Common.{◌≡◌, ◌≢◌, ℕ, suc, ◌+◌, ◌-◌, ◌*◌, ◌^◌, ◌<◌, ◌≤◌, ◌∙◌, subst, inl, inr, arith}
use Rattle.std.specs.Int.{bit_at}
use Rattle.std.proofs.Math.Numerals.{one-add}
use Rattle.std.proofs.Math.Pow.{pow_pos, pow-lt, pow-add, suc_ones}
use Rattle.std.proofs.lemmas.Bool.{cases_eq, cases_lt}
use Rattle.std.proofs.lemmas.Nat.Bits.{bit_at-pow_same, bit_at-pow_other, bit_at_ones, bit_at_ones_above}
use Rattle.std.proofs.lemmas.Nat.Bits.{bit_at_cat_low, bit_at_cat_high, bit_at_above}
use Rattle.mb_quorum.specs.declared.values.TheConstants.{MAX_VALUES}
use Rattle.mb_quorum.specs.Quorum.{IsQuorumTable, IsMember, AreDisjoint}
use Rattle.mb_quorum.specs.Unary.{unary_table}

-- ---- the bits of a read quorum
-- the subtraction that `others_cat` makes, with x, y and z in place of its powers of two, and a for 2 ^ j - 1
cat_numbers : (a x y z : ℕ) → x ≡ suc a * y → y ≡ 2 * z → 0 < z → x - 1 - z ≡ a * y + (z - 1)
cat_numbers a x y z product double low = omega arith

-- a number of j + w + 1 bits, all ones but bit w, is j ones above that bit and w ones below it
pub others_cat : (j w : ℕ) → 2 ^ (j + suc w) - 1 - 2 ^ w ≡ (2 ^ j - 1) * 2 ^ suc w + (2 ^ w - 1)
others_cat j w =
    cat_numbers (2 ^ j - 1) (2 ^ (j + suc w)) (2 ^ suc w) (2 ^ w)
    (rw (suc_ones j) (pow-add 2 j (suc w)))
    (rw one-add at (pow-add 2 1 w))
    (pow_pos w)

-- in a number of j + w + 1 bits, all ones but bit w, bit w is 0
others_same : (j w : ℕ) → bit_at (2 ^ (j + suc w) - 1 - 2 ^ w) w ≡ 0
others_same j w =
    let low = bit_at_cat_low (2 ^ j - 1) (suc w) (2 ^ w - 1) w (omega arith) in
    rw (others_cat j w) (low ∙ bit_at_ones_above w w (omega arith))

-- in a number of j + w + 1 bits, all ones but bit w, each other bit is 1
others_other : (j w i : ℕ) → i < j + suc w → i ≢ w → bit_at (2 ^ (j + suc w) - 1 - 2 ^ w) i ≡ 1
others_other j w i within other =
    let fits : 2 ^ w - 1 < 2 ^ suc w = omega (arith, rw one-add at (pow-add 2 1 w), pow_pos w) in
    elim (cases_lt i w) [
      | inl below ↦
          (let low = bit_at_cat_low (2 ^ j - 1) (suc w) (2 ^ w - 1) i (omega arith) in
          rw (others_cat j w) (low ∙ bit_at_ones w i below))
      | inr past ↦
          (let high = bit_at_cat_high (2 ^ j - 1) (suc w) (2 ^ w - 1) i fits (omega arith) in
          rw (others_cat j w) (high ∙ bit_at_ones j (i - suc w) (omega arith)))
    ]

-- ---- which registers the quorums hold
-- the read quorum of v holds each register but v
pub read_others : (m v r : ℕ) → v < m → r < m → r ≢ v → IsMember ((unary_table m).read v) r
read_others m v r value within other =
    let sum : m - suc v + suc v ≡ m = omega arith in
    subst (λ n. bit_at (2 ^ n - 1 - 2 ^ v) r ≡ 1) sum (others_other (m - suc v) v r (omega arith) other)

-- the read quorum of v does not hold register v
pub read_own : (m v : ℕ) → v < m → IsMember ((unary_table m).read v) v → ⊥
read_own m v value member =
    let sum : m - suc v + suc v ≡ m = omega arith in
    let none : bit_at (2 ^ m - 1 - 2 ^ v) v ≡ 0 =
    subst (λ n. bit_at (2 ^ n - 1 - 2 ^ v) v ≡ 0) sum (others_same (m - suc v) v) in
    omega (arith, none, member)

-- each register in the read quorum of v is below m
pub read_within : (m v r : ℕ) → IsMember ((unary_table m).read v) r → r < m
read_within m v r member =
    let small : 2 ^ m - 1 - 2 ^ v < 2 ^ m = omega (arith, pow_pos m, pow_pos v) in
    elim (cases_lt r m) [
      | inl less ↦ less
      | inr more ↦ absurd (omega (arith, bit_at_above (2 ^ m - 1 - 2 ^ v) m r small more, member))
    ]

-- the write quorum of v holds register v
pub write_own : (m v : ℕ) → IsMember ((unary_table m).write v) v
write_own m v = bit_at-pow_same v

-- the write quorum of v holds no other register than v
pub write_only : (m v r : ℕ) → IsMember ((unary_table m).write v) r → r ≡ v
write_only m v r member =
    elim (cases_eq r v) [
      | inl same ↦ same
      | inr other ↦ absurd (omega (arith, bit_at-pow_other v r other, member))
    ]

-- ---- the table keeps the law of quorum tables
-- the write quorum and the read quorum of one value share no register
apart : (m v w : ℕ) → v < m → v ≡ w → AreDisjoint ((unary_table m).write v) ((unary_table m).read w)
apart m v w value same r in_write in_read =
    let own : r ≡ w = write_only m v r in_write ∙ same in
    read_own m w (omega (arith, value, same)) (subst (IsMember ((unary_table m).read w)) own in_read)

-- if v's write quorum and w's read quorum share no register, v is w
meet : (m v w : ℕ) → v < m → w < m → AreDisjoint ((unary_table m).write v) ((unary_table m).read w) → v ≡ w
meet m v w written seen disjoint =
    elim (cases_eq v w) [
      | inl same ↦ same
      | inr other ↦ absurd (disjoint v (write_own m v) (read_others m w v seen written other))
    ]

-- the unary table of m values keeps the law of quorum tables, if m is at most `MAX_VALUES`
pub unary_lawful : (m : ℕ) → m ≤ MAX_VALUES → IsQuorumTable (unary_table m)
unary_lawful m most =
    let limit : m ≤ 64 = omega (arith, most) in
    record {
      limit = limit;
      few = limit;
      write_within = λ v value. pow-lt value;
      read_within = λ v value. omega (arith, pow_pos m, pow_pos v);
      disjoint = λ v w written seen. (meet m v w written seen, apart m v w written);
    }
