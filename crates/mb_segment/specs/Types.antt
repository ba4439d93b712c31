-- The types of views, and their variants, under the names that definitions use.
pub use Rattle.mb_segment.specs.declared.view.Account.{Account}
pub use Rattle.mb_segment.specs.declared.view.Duty.{Duty}
pub use Rattle.mb_segment.specs.declared.view.Event.{Event}
pub use Rattle.mb_segment.specs.declared.view.Event.TheVariants.{Claimed, Drew, FoundEmpty, FoundFull}
pub use Rattle.mb_segment.specs.declared.view.Half.{Half}
pub use Rattle.mb_segment.specs.declared.view.Half.TheVariants.{Nothing, Reads, Writes}
pub use Rattle.mb_segment.specs.declared.view.Known.{Known}
pub use Rattle.mb_segment.specs.declared.view.Role.{Role}
pub use Rattle.mb_segment.specs.declared.view.Role.TheVariants.{Issuer, Member, Spent}
pub use Rattle.mb_segment.specs.declared.view.Sight.{Sight}
pub use Rattle.mb_segment.specs.declared.view.Spot.{Spot}
pub use Rattle.mb_segment.specs.declared.view.Tokens.{Tokens}
pub use Rattle.mb_segment.specs.declared.view.View.{View}
