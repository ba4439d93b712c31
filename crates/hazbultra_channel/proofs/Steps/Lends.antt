-- Names from the kit's libraries: for the end of a function's body, and for a function that lends.
pub use base.Fml.{Fml, GName}
pub use base.Fraction.{full_share}
pub use base.Logic.{sep}
pub use denote.Follow.{Part, follows, lends_Part}
pub use denote.Memory.{cell_at, mem, part_at}
pub use denote.RattleType.{owns}
pub use denote.Ref.{MutRef, mut_Tells, mut_vals}
pub use denote.Signature.{mut_ref_to}
pub use denote.Steps.{opens}
pub use denote.Triple.Walked.{Goes-spent_ref, walked}
pub use mir.Syntax.{named}
pub use prog.Wp.{Env}
pub use types.ByLocal.{sets_last, through}
pub use types.Kit.{await, done, frame, fsplit3, group, keep, suffices}
pub use types.Part.{look_in}
pub use types.Run.{addr, load}
pub use Rattle.std_alloc.proofs.BoxSteps.Form.{handle}
pub use Rattle.std.specs.Prelude.{IsSome, Option, ℕ}
