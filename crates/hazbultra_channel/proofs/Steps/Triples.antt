-- Names from the kit's libraries: for a function's meaning and contract, and for boxes taken apart and made again.
pub use denote.Exit.{no, yes}
pub use denote.Param.{bounded}
pub use denote.RattleType.{RattleType, Valss}
pub use denote.RawPtr.{Ptr, RawPtr, block_ptr, in_a_block, null_ptr, ptr_val}
pub use denote.Signature.{Slot, plain, type_at}
pub use denote.Steps.{heard, nothing, only}
pub use denote.Struct.Owning.{shape}
pub use denote.Struct.Struct.{within}
pub use denote.Struct.Tuple.{Tuple}
pub use denote.Triple.Call.{calls_at, calls_at_last}
pub use denote.Triple.Clauses.{Clauses, Ended}
pub use denote.Triple.Spec.{triple_of}
pub use denote.Triple.Statement.{Contract, Triple}
pub use denote.Triple.Table.{entered}
pub use denote.Triple.Walked.{Goes-dropped, Stays, ends_at, says, stay_dropped, walk_Meets, walk_of}
pub use Rattle.std.proofs.Common.{lit<}
pub use Rattle.std.proofs.alloc.Calls.{Goes-blank, handle_tells, token}
pub use Rattle.std.specs.Box.Ownership.{box_owns}
pub use Rattle.std_alloc.proofs.BoxSteps.Form.{B, Bx, D, P, R, args, box_ty, box_typed, owning, word, τ}
pub use Rattle.std_alloc.proofs.BoxSteps.Steps.{box_in, box_out}
