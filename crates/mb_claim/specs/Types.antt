-- The types of this crate, their variants, and its limits, under the names that the other modules use.
pub use Rattle.mb_claim.specs.declared.access.ObjectTurn.{ObjectTurn}
pub use Rattle.mb_claim.specs.declared.access.ClaimAccess.{ClaimAccess}
pub use Rattle.mb_claim.specs.declared.access.ClaimOp.{ClaimOp}
pub use Rattle.mb_claim.specs.declared.access.ClaimStep.{ClaimStep}
pub use Rattle.mb_claim.specs.declared.access.Stage.{Stage}
pub use Rattle.mb_claim.specs.declared.access.Stage.TheVariants.{Going, Won, Lost, Undecided}
pub use Rattle.mb_claim.specs.declared.claim.Claim.{Claim}
pub use Rattle.mb_claim.specs.declared.claim.straight.Stretch.{Stretch}
pub use Rattle.mb_claim.specs.declared.layout.BadLayout.{BadLayout}
pub use Rattle.mb_claim.specs.declared.layout.BadLayout.TheVariants.{BadConsumers, BadRounds}
pub use Rattle.mb_claim.specs.declared.layout.Layout.{Layout}
pub use Rattle.mb_claim.specs.declared.layout.TheConstants.{MAX_CELLS, MAX_LARGE_CELLS, MAX_PAIRS}
pub use Rattle.mb_claim.specs.declared.shape.Shape.{Shape}
pub use Rattle.mb_claim.specs.declared.run.ClaimEntry.{ClaimEntry}
pub use Rattle.mb_claim.specs.declared.run.PlayFault.TheVariants.{NoConsumer, NoMemory}
