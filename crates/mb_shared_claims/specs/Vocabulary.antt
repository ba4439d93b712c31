-- The definitions that the crates above use in clauses and proofs.
pub use Rattle.mb_shared_claims.specs.Views.{Roll, WasTaken, IsOut}
pub use Rattle.mb_shared_claims.specs.ViewSteps.{ComesAfter}
pub use Rattle.mb_shared_claims.specs.Seats.{ClaimTable, TableView, name_of, claims_at, HubView, SeatView}
pub use Rattle.mb_shared_claims.specs.Seats.{AreOfOneHistory, IsLawfulPart, count_out, taken_part}
pub use Rattle.mb_shared_claims.specs.SeatSteps.{access_of, with_access, IsSeatStep}
pub use Rattle.mb_shared_claims.specs.ManySeatSteps.{AreSeatSteps}
