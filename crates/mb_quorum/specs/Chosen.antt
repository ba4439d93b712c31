-- A table chosen by its name, as plain data.
use Rattle.mb_quorum.specs.declared.table.Table.{Table}
use Rattle.mb_quorum.specs.Quorum.{QuorumTable}
use Rattle.mb_quorum.specs.Tables.{table_of}

-- the chosen table: the table of its name, with its number of values
abbrev pub chosen_table : Table → QuorumTable
chosen_table table = table_of table.name table.values
