-- The names of the kit that a contract is made of: types, signatures and clauses.
pub use denote.Builtin.{usize, RefOf, RawPtr}
pub use denote.Exit.{yes}
pub use denote.Param.{bounded, param}
pub use denote.Plain.{uint_vals, uint_Tells}
pub use denote.RattleType.{owns}
pub use denote.RawPtr.{block_ptr, Ptr, null_ptr, ptr_val, rawptr_vals, rawptr_Tells}
pub use denote.Ref.{shr_vals}
pub use denote.Signature.{Slot, plain, types_at}
pub use denote.Triple.Clauses.{Ended, Clauses}
pub use denote.Triple.Spec.{triple_of}
pub use denote.Triple.Statement.{Triple}
pub use denote.Triple.Table.{entered, cited}
pub use denote.Triple.Walked.{Stays, stay_dropped, walk_of, ends_at, walked, Goes-dropped, walk_Meets}
