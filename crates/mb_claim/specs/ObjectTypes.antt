-- The types of deciding objects, and their variants, under the names that the other modules use.
pub use Rattle.mb_deciding.specs.declared.access.Reg.{Reg}
pub use Rattle.mb_deciding.specs.declared.access.Reg.TheVariants.{Value, Proposal, Quorum, Last}
pub use Rattle.mb_deciding.specs.declared.access.Act.{Act}
pub use Rattle.mb_deciding.specs.declared.access.Act.TheVariants.{Load, Store, Exchange}
pub use Rattle.mb_deciding.specs.declared.access.Op.{Op}
pub use Rattle.mb_deciding.specs.declared.access.Turn.{Turn}
pub use Rattle.mb_deciding.specs.declared.access.Access.{Access}
pub use Rattle.mb_deciding.specs.declared.memory.Site.{Site}
pub use Rattle.mb_deciding.specs.declared.object.Out.{Out}
pub use Rattle.mb_deciding.specs.declared.object.Kind.{Kind}
pub use Rattle.mb_deciding.specs.declared.object.Kind.TheVariants.{Conciliator, Ratifier, LastObject}
pub use Rattle.mb_deciding.specs.declared.place.pc.Pc.{Pc}
pub use Rattle.mb_deciding.specs.declared.place.pc.Next.{Next}
pub use Rattle.mb_deciding.specs.declared.place.pc.Pc.TheVariants.{InRatifier, InConciliator, InLast}
pub use Rattle.mb_deciding.specs.declared.place.ratifier.RatifierPlace.{RatifierPlace}
pub use Rattle.mb_deciding.specs.declared.place.ratifier.RatifierPlace.TheVariants.{Begin, Announce, Propose, Check}
pub use Rattle.mb_deciding.specs.declared.place.conciliator.ConciliatorPlace.{ConciliatorPlace}
pub use Rattle.mb_deciding.specs.declared.place.conciliator.ConciliatorPlace.TheVariants.{Draw, Put, Look}
