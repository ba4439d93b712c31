-- What the laws of reports ask of a mailbox and of what was done to its words.
use Rattle.std.specs.Prelude.{ℕ, ◌<◌}
use Rattle.mb_world.specs.Imports.{IsClaimLawful, IsPoolLawful, IsQuorumTable}
use Rattle.mb_world.specs.Plan.{Histories, Plan, consumers_of, size_of}
use Rattle.mb_world.specs.Fitting.{Fits, parts_of}

-- a mailbox's quorum table and each of its two histories are lawful, and each consumer's two parts fit
pub record AreSound (plan : Plan) (hs : Histories) : Type 0 where
  pub table : IsQuorumTable plan.claims.table
  pub claims_lawful : IsClaimLawful plan.claims hs.claims
  pub pool_lawful : IsPoolLawful (size_of plan) hs.pool
  pub fit : (c : ℕ) → c < consumers_of plan → Fits plan.claims c (parts_of c hs)
