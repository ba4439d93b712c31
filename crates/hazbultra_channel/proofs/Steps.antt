-- Names from the kit's libraries, for the proofs here that go through a function's body statement by statement.
pub use mathlib.Core.Path.{◌≡◌, refl, sym, subst, ap, ◌∙◌}
pub use mathlib.Core.List.{List, [], ◌∷◌, ◌++◌}
pub use lib.Dec.{T}
pub use seplogic.Ra.Ura.{Ura}
pub use mir.Syntax.{Args, Body, Dict, Fn, a_type, assign, copy, dcons, dnil, place, return, rv_opd, seq, w64}
pub use mir.{MapTy.inst_fn, Val.Val, Val.WT, Val.has_ty, Val.of_list, Val.vcons, Val.vint, Val.vnil, Val.vptr, Val.vstruct}
pub use mir.Raw.{raw as bare}
pub use base.Logic.{SProp, emp, ent, fst∗, id⊢, never}
pub use base.Fml.{flft, fsep, ftrue}
pub use contract.BorrowLft.{◌⊑◌}
pub use contract.Monad.{Fun, fact}
unfoldable pub use contract.Running.{tables, tables_of}
pub use prog.{Memory.Memory, Routine.Routine, Wp.Tables, Wp.WpFn}
pub use sound.WpLaws.{WpFn-mono, fm_of}
pub use types.{Logic.Logic, Logic.sem, Part.agg, Part.sub, Part.whole}
pub use types.Kit.{Item, ⋆, at_ret, ‵, raw, ◌⊛◌, some, later, ◌$◌, ◌∵◌, !, qed, by, move, drop, use1, join, split, split3, pick, rewrite, fsplit, fjoin, fpick, fpack, feq_i, feq_l}
pub use types.Run.{and_then, blocks, enter, exec, first, fld, lit, no_more, of_opd, returns, stop}
pub use types.ByLocal.{alloc_all, env, free_all, get, get_in, lands_as, lands_last, look_at, pass_all, sets}
pub use Lends.*
pub use Triples.*
pub mod Lends
pub mod Triples
