-- The names of the kit that a statement about a call is made of: values, formulas and memory.
pub use seplogic.Ra.Ura.{Ura}
pub use mir.Syntax.{Ty, Args, Fn, a_type, ty_unit, dnil, dcons}
pub use mir.Val.{Val, vbool, vint, vptr, vunit, has_ty, WT}
pub use mir.MapTy.{inst_fn}
pub use lib.Dec.{T}
pub use base.Logic.{SProp, ent, sep, id⊢, never_e}
pub use base.Fml.{Lft, Share, ftrue, flft, ffalse, froom, fsep}
pub use prog.Memory.{Memory, size, align, capped, up}
pub use prog.Routine.{Routine}
pub use prog.Wp.{Env, Wp, WpFn, Tables, after_seq, at_return}
pub use types.Logic.{Logic, sem}
pub use contract.BorrowLft.{◌⊑◌, ⊑_trans}
pub use contract.Monad.{Fun, fact}
pub use sound.WpLaws.{fm_of, WpFn-mono}
