-- Each table that has a name keeps the law of quorum tables.
use Rattle.std.proofs.Common.{◌≡◌, ℕ, ◌≤◌, refl}
use Rattle.mb_quorum.specs.declared.table.Table.{Table}
use Rattle.mb_quorum.specs.declared.table.TableName.{TableName}
use Rattle.mb_quorum.specs.declared.table.TableName.TheVariants.{Unary, Bits, Middle}
use Rattle.mb_quorum.specs.declared.values.TheConstants.{MAX_VALUES}
use Rattle.mb_quorum.specs.Quorum.{IsQuorumTable}
use Rattle.mb_quorum.specs.Tables.{table_of}
use Rattle.mb_quorum.specs.Chosen.{chosen_table}
use Rattle.mb_quorum.specs.UnaryLaw.{unary_lawful}
use Rattle.mb_quorum.specs.BitsLaw.{bits_lawful}
use Rattle.mb_quorum.specs.MiddleLaw.{middle_lawful}

-- the named table of m values keeps the law of quorum tables, if m is at most `MAX_VALUES`
pub named_lawful : (name : TableName) (m : ℕ) → m ≤ MAX_VALUES → IsQuorumTable (table_of name m)
named_lawful Unary m most = unary_lawful m most
named_lawful Bits m most = bits_lawful m most
named_lawful Middle m most = middle_lawful m most

-- the named table of m values has m values
pub named_values : (name : TableName) (m : ℕ) → (table_of name m).values ≡ m
named_values Unary m = refl
named_values Bits m = refl
named_values Middle m = refl

-- each table chosen by name keeps the law of quorum tables
pub chosen_lawful : (table : Table) → IsQuorumTable (chosen_table table)
chosen_lawful table = named_lawful table.name table.values table.most

-- each table chosen by name has at least one value, and at most `MAX_VALUES`
pub chosen_within : (table : Table) → (1 ≤ (chosen_table table).values) × ((chosen_table table).values ≤ MAX_VALUES)
chosen_within table = let same = named_values table.name table.values in (rw same table.least, rw same table.most)
