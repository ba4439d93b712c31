-- A mailbox: its two tables, and its plan.
use Rattle.std.specs.Prelude.{◌≡◌, ◌≤◌}
use Rattle.mb_mailbox.specs.Imports.{CellsName, Plan, TableView, claims_in}

-- what proofs see of a mailbox: the table of the cells, and the table of the claims on them
pub record MailboxView : Type 0 where
  pub cells : CellsName
  pub claims : TableView

-- the table of the claims is for as many cells as the table of the cells has, and there are at most 16 lanes
pub record IsMailbox (m : MailboxView) : Type 0 where
  pub cells : m.claims.cells ≡ m.cells.size.cells
  pub lanes : m.cells.size.lanes ≤ 16

-- the plan of the mailbox: its claims, and how many lanes it has
abbrev pub plan_at : MailboxView → Plan
plan_at m = record { claims = claims_in m.claims.layout m.claims.cells; lanes = m.cells.size.lanes }
