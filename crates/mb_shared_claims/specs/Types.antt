-- The types of this crate and of those below, and their variants, under the names that the other modules use.
pub use Rattle.atomic_table.specs.Seated.{TableId}
pub use Rattle.mb_deciding.specs.declared.access.Op.{Op}
pub use Rattle.mb_deciding.specs.declared.access.Reg.{Reg}
pub use Rattle.mb_claim.specs.declared.access.ClaimAccess.{ClaimAccess}
pub use Rattle.mb_claim.specs.declared.access.ClaimOp.{ClaimOp}
pub use Rattle.mb_claim.specs.declared.access.ObjectTurn.{ObjectTurn}
pub use Rattle.mb_claim.specs.declared.access.Stage.{Stage}
pub use Rattle.mb_claim.specs.declared.access.Stage.TheVariants.{Going}
pub use Rattle.mb_claim.specs.declared.claim.Claim.{Claim}
pub use Rattle.mb_claim.specs.declared.layout.Layout.{Layout}
pub use Rattle.mb_claim.specs.declared.layout.TheConstants.{MAX_LARGE_CELLS}
pub use Rattle.mb_shared_claims.specs.declared.view.TableSize.{TableSize}
pub use Rattle.mb_shared_claims.specs.declared.view.View.{View}
pub use Rattle.mb_shared_claims.specs.declared.view.View.TheVariants.{Issuing, Drawing, Standing, Taking, Spent}
