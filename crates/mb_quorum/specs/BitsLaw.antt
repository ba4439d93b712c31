-- The bit table keeps the law of quorum tables.
use Rattle.std.proofs.Common.{◌≡◌, ℕ, ◌*◌, ◌<◌, ◌≤◌, subst, ap₂, inl, inr, arith}
use Rattle.std.specs.Int.{bit_at}
use Rattle.std.proofs.lemmas.Bool.{cases_eq}
use Rattle.std.proofs.lemmas.Nat.Bits.{bit_at-lt, same_from_bits_below}
use Rattle.mb_quorum.specs.declared.values.TheConstants.{MAX_VALUES}
use Rattle.mb_quorum.specs.Quorum.{IsQuorumTable, IsMember, AreDisjoint}
use Rattle.mb_quorum.specs.Width.{width_of}
use Rattle.mb_quorum.specs.WidthLaw.{width_is_least}
use Rattle.mb_quorum.specs.MaskLaw.{mask_of-has, mask_of-only, mask_of-lt}
use Rattle.mb_quorum.specs.Bits.{bits_table, named_register, other_register}

-- the write quorum and the read quorum of one value share no register
apart : (m v w : ℕ) → v ≡ w → AreDisjoint ((bits_table m).write v) ((bits_table m).read w)
apart m v w one r in_write in_read =
    let written = mask_of-only (named_register v) (width_of m) r in_write in
    let seen = mask_of-only (other_register w) (width_of m) r in_read in
    let here = bit_at-lt v written.0 in
    let there = bit_at-lt w seen.0 in
    let place : written.0 ≡ seen.0 = omega (arith, written.2, seen.2, here, there) in
    let bit : bit_at v written.0 ≡ bit_at w seen.0 = ap₂ bit_at one place in
    omega (arith, place, bit, written.2, seen.2, there)

-- if v's write quorum and w's read quorum share no register, bit i of v is bit i of w
same_bit :
    (m v w i : ℕ) → i < width_of m → AreDisjoint ((bits_table m).write v) ((bits_table m).read w)
    → bit_at v i ≡ bit_at w i
same_bit m v w i within disjoint =
    elim (cases_eq (bit_at v i) (bit_at w i)) [
      | inl same ↦ same
      | inr differ ↦
          (let shared : other_register w i ≡ named_register v i =
          omega (arith, differ, bit_at-lt v i, bit_at-lt w i) in
          let written = mask_of-has (named_register v) (width_of m) i within in
          let seen = mask_of-has (other_register w) (width_of m) i within in
          absurd (disjoint (named_register v i) written (subst (IsMember ((bits_table m).read w)) shared seen)))
    ]

-- if v's write quorum and w's read quorum share no register, v is w
meet : (m v w : ℕ) → v < m → w < m → AreDisjoint ((bits_table m).write v) ((bits_table m).read w) → v ≡ w
meet m v w written seen disjoint =
    let enough = (width_is_least m).enough in
    same_from_bits_below (width_of m) v w (omega (arith, enough, written)) (omega (arith, enough, seen))
    (λ i within. same_bit m v w i within disjoint)

-- the bit table of m values keeps the law of quorum tables, if m is at most `MAX_VALUES`
pub bits_lawful : (m : ℕ) → m ≤ MAX_VALUES → IsQuorumTable (bits_table m)
bits_lawful m most =
    let narrow : width_of m ≤ 6 = (width_is_least m).least 6 (omega (arith, most)) in
    let named : (v i : ℕ) → i < width_of m → named_register v i < 2 * width_of m =
    λ v i within. omega (arith, within, bit_at-lt v i) in
    let other : (v i : ℕ) → i < width_of m → other_register v i < 2 * width_of m =
    λ v i within. omega (arith, within) in
    record {
      limit = omega (arith, narrow);
      few = omega (arith, most);
      write_within = λ v value. mask_of-lt (named_register v) (width_of m) (2 * width_of m) (named v);
      read_within = λ v value. mask_of-lt (other_register v) (width_of m) (2 * width_of m) (other v);
      disjoint = λ v w written seen. (meet m v w written seen, apart m v w);
    }
