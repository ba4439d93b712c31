-- The types that clauses name, and their variants. If two variants have one name, a clause takes them with a name for
-- their type: `use ..Op.TheVariants as to`, `to.Load reg`.
pub use Rattle.mb_deciding.specs.declared.access.{Reg.Reg, Act.Act, Op.Op, Turn.Turn, Access.Access}
pub use Rattle.mb_deciding.specs.declared.access.Reg.TheVariants.{Value, Proposal, Quorum, Last}
pub use Rattle.mb_deciding.specs.declared.access.Act.TheVariants.{Load, Store, Exchange}
pub use Rattle.mb_deciding.specs.declared.object.{Out.Out, Kind.Kind}
pub use Rattle.mb_deciding.specs.declared.memory.Site.{Site}
pub use Rattle.mb_deciding.specs.declared.object.Kind.TheVariants.{Conciliator, Ratifier, LastObject}
pub use Rattle.mb_deciding.specs.declared.place.pc.{Pc.Pc, Next.Next}
pub use Rattle.mb_deciding.specs.declared.place.pc.Pc.TheVariants.{InRatifier, InConciliator, InLast}
pub use Rattle.mb_deciding.specs.declared.place.last.LastPlace.{LastPlace}
pub use Rattle.mb_deciding.specs.declared.place.ratifier.RatifierPlace.{RatifierPlace}
pub use Rattle.mb_deciding.specs.declared.place.ratifier.RatifierPlace.TheVariants.{Begin, Announce, Propose, Check}
pub use Rattle.mb_deciding.specs.declared.place.conciliator.ConciliatorPlace.{ConciliatorPlace}
pub use Rattle.mb_deciding.specs.declared.place.conciliator.ConciliatorPlace.TheVariants.{Draw, Put, Look}
pub use Rattle.mb_deciding.specs.declared.trace.{Entry.Entry, Fault.Fault}
pub use Rattle.mb_deciding.specs.declared.trace.Fault.TheVariants.{BadValues, BadInput, NoSuchProcess, NoMemory}
pub use Rattle.mb_deciding.specs.declared.run.words.ObjectMemory.{ObjectMemory}
