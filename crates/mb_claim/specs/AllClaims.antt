-- The claims on cells that all have the same objects, as plain data.
use Rattle.std.specs.Prelude.{ℕ, List}
use Rattle.mb_quorum.specs.Vocabulary.{QuorumTable, IsQuorumTable}
use Rattle.mb_claim.specs.ObjectTypes.{Kind}

-- the claims: their quorum table, whose values are the consumers' numbers, the kinds of each cell's objects in their
-- order, and the number of cells
pub record Claims : Type 0 where
  pub table : QuorumTable
  pub kinds : List Kind
  pub cells : ℕ

-- the claims with this table, these kinds of objects and this number of cells
abbrev pub claims_of : QuorumTable → List Kind → ℕ → Claims
claims_of t kinds cells = record { table = t; kinds = kinds; cells = cells }

-- the claims' table keeps the law of quorum tables
abbrev pub ClaimsAreSound : Claims → Type 0
ClaimsAreSound cs = IsQuorumTable cs.table
