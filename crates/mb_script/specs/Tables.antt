-- The names of quorum tables in a script.
use Rattle.std.specs.Prelude.{ℕ, List, codes, Option, Some, None, if◌then◌else◌}
use Rattle.std.specs.Str.{bytes_eq}
use Rattle.mb_quorum.specs.declared.table.TableName.{TableName}
use Rattle.mb_quorum.specs.declared.table.TableName.TheVariants.{Unary, Bits, Middle}

-- the name of a table in bytes
abbrev pub table_name : TableName → List ℕ
table_name Unary = codes "unary"
table_name Bits = codes "bits"
table_name Middle = codes "middle"

-- the table that a word names, if it names one
abbrev pub table_named : List ℕ → Option TableName
table_named word =
    if bytes_eq word (codes "unary") then Some Unary
    else if bytes_eq word (codes "bits") then Some Bits
    else if bytes_eq word (codes "middle") then Some Middle
    else None
