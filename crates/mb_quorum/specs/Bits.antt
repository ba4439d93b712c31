-- The bit table: two registers for each bit of a value.
use Rattle.std.specs.Prelude.{ℕ, ◌+◌, ◌-◌, ◌*◌}
use Rattle.std.specs.Int.{bit_at}
use Rattle.mb_quorum.specs.Quorum.{QuorumTable}
use Rattle.mb_quorum.specs.Width.{width_of}
use Rattle.mb_quorum.specs.Mask.{mask_of}

-- of the two registers for bit i, 2 i and 2 i + 1, the one that bit i of v names: 2 i + bit i of v
abbrev pub named_register : ℕ → ℕ → ℕ
named_register v i = 2 * i + bit_at v i

-- of the two registers for bit i, 2 i and 2 i + 1, the one that bit i of v does not name
abbrev pub other_register : ℕ → ℕ → ℕ
other_register v i = 2 * i + 1 - bit_at v i

-- the bit table of m values. For each bit of v, the write quorum of v holds the register that the bit names, and its
-- read quorum the other
abbrev pub bits_table : ℕ → QuorumTable
bits_table m =
    record {
      registers = 2 * width_of m;
      values = m;
      write = λ v. mask_of (named_register v) (width_of m);
      read = λ v. mask_of (other_register v) (width_of m);
    }
