-- The types of desks, ends and views, under the names that definitions and proofs use.
pub use Rattle.std.specs.Arc.{arc_value}
pub use Rattle.std.specs.Global.{Global}
pub use Rattle.atomic_table.specs.declared.shared.Seat.{Seat}
pub use Rattle.mb_segment.specs.declared.view.Account.{Account}
pub use Rattle.mb_ring.specs.declared.ring.Hub.{Hub}
pub use Rattle.mb_ring.specs.declared.ring.Pass.{Pass}
pub use Rattle.mb_ring.specs.declared.ring.Ring.{Ring}
pub use Rattle.mb_ring.specs.declared.view.View.{View}
pub use Rattle.mb_bounded.specs.declared.desk.Desk.{Desk}
pub use Rattle.mb_bounded.specs.declared.view.Knows.{Knows}
