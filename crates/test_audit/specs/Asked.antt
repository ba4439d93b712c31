-- How large a report has to be.
use Rattle.std.specs.Prelude.{ℕ, ◌≡◌, ◌*◌, length}
use Rattle.mb_world.specs.Theorem.{ReportView}

-- a report has a lane for each producer, and a diary for each consumer and lane
pub record HasAsked (producers consumers : ℕ) (report : ReportView) : Type 0 where
  pub lanes : length report.lanes ≡ producers
  pub diaries : length report.diaries ≡ producers * consumers
