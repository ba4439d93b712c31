-- The types of homes and views, under the names that definitions and proofs use.
pub use Rattle.std.specs.Arc.{arc_value}
pub use Rattle.std.specs.Global.{Global}
pub use Rattle.std.specs.declared.sync.Arc.{Arc}
pub use Rattle.mb_segment.specs.declared.segment.Pass.{Pass}
pub use Rattle.mb_segment.specs.declared.segment.Segment.{Segment}
pub use Rattle.mb_segment.specs.declared.view.Account.{Account}
pub use Rattle.mb_segment.specs.declared.view.Spot.{Spot as Position}
pub use Rattle.mb_segment.specs.declared.view.View.{View}
pub use Rattle.mb_segment.specs.declared.left.Left.{Left}
pub use Rattle.mb_channel.specs.declared.home.Home.{Home}
pub use Rattle.mb_channel.specs.declared.home.Fates.{Fates}
pub use Rattle.mb_channel.specs.declared.home.Homes.{Homes}
pub use Rattle.mb_channel.specs.declared.rest.Ending.{Ending}
pub use Rattle.mb_channel.specs.declared.rest.Rest.{Rest}
pub use Rattle.mb_channel.specs.declared.view.Knows.{Knows}
pub use Rattle.mb_channel.specs.declared.view.Past.{Past}
pub use Rattle.mb_channel.specs.declared.view.Visit.{Visit}
