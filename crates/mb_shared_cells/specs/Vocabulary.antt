-- The names that clauses use, here and in the crates above. The invariants of seats are in `Seats`, for the code of
-- this crate alone.
pub use Rattle.mb_shared_cells.specs.Views.{IsAccessAfter, IsRollOf, KnowsLanes, MayComeNext, PartList, empty_roll}
pub use Rattle.mb_shared_cells.specs.Views.{roll_at, roll_with_lane, roll_with_part, roll_with_reader}
pub use Rattle.mb_shared_cells.specs.Rule.{FitsView, HasPart, HasProcess, IsCellsState, IsEnrolled, IsHub, IsTableState}
pub use Rattle.mb_shared_cells.specs.Rule.{IsViewAt, KnowsTaken, Seating, StandsAt, TellsPart, TellsPartAt, roster_of}
pub use Rattle.mb_shared_cells.specs.Shown.{CellHubView, CellsName, HasHistory, LaneSeatView, ReaderSeatView}
pub use Rattle.mb_shared_cells.specs.Calls.{FinishBy, FinishMakes, ItemMakes, LaneMakes, LookMakes}
pub use Rattle.mb_shared_cells.specs.Calls.{OfferBy, OfferMakes, PushBy, PushMakes, ReaderMakes}
pub use Rattle.mb_shared_cells.specs.declared.views.Roll.{Roll}
pub use Rattle.mb_shared_cells.specs.declared.views.View.{View}
pub use Rattle.mb_shared_cells.specs.Views.{SeatState, hub_after_draw, hub_after_split, newcomer}
pub use Rattle.mb_shared_cells.specs.Rule.{KeepsCells}
