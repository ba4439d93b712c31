-- Names of the kit for proofs that go through a body statement by statement.
pub use types.Kit.{Item, ‵, raw, ◌⊛◌, some, later, given, at_ret, any_q, Post as After}
pub use types.Kit.{◌$◌, ◌∵◌, !, qed, by, move, keep, use0, use1, use2, split, split3, join, pick, learn, fsplit, fjoin, feq_i, suffices, await, done}
pub use types.Match.{vrt}
pub use types.Part.{agg, whole}
pub use types.Run.{stop, fld, addr, lit, of_opd, no_more, and_then, first, branches, switches_on, skips, exec, returns, returns_within, enter, unit_lit}
pub use types.ByLocal.{alloc_all, pass_all, free_all, look_at, get, get_tag, through, sets, lands_as, lands_last, env}
pub use denote.Opens.{shr_dup, unhide}
pub use denote.Steps.{heard, nothing}
pub use denote.Triple.Call.{calls_at, calls_at_last}
