-- The tables that have a name.
use Rattle.std.specs.Prelude.{ℕ}
use Rattle.mb_quorum.specs.declared.table.TableName.{TableName}
use Rattle.mb_quorum.specs.declared.table.TableName.TheVariants.{Unary, Bits, Middle}
use Rattle.mb_quorum.specs.Quorum.{QuorumTable}
use Rattle.mb_quorum.specs.Unary.{unary_table}
use Rattle.mb_quorum.specs.Bits.{bits_table}
use Rattle.mb_quorum.specs.Middle.{middle_table}

-- the table of this name with m values
abbrev pub table_of : TableName → ℕ → QuorumTable
table_of Unary m = unary_table m
table_of Bits m = bits_table m
table_of Middle m = middle_table m
