-- The names that most proofs of this crate use.
pub use Rattle.mb_segment.proofs.Base.{Act, Allows, Bool, Joins, List, None, Option, Some, Splits, State, Valid, [], ap, append_assoc, arith, at_last}
pub use Rattle.mb_segment.proofs.Base.{at_longer, at_set, carried_after, dec_le, dec_lt, dite, either, eq-eqb, exchanged, false, get_elem?, gives}
pub use Rattle.mb_segment.proofs.Base.{homes_after, inl, inr, keeps, length, length-append, ne_eqb, none, opening, refl, replicate, rest, set_again}
pub use Rattle.mb_segment.proofs.Base.{set_else, set_here, slice_index, slice_set, some, some-injective, some-ne-none, step, stepped, subst, suc}
pub use Rattle.mb_segment.proofs.Base.{sym, takes, true, true≢false, zero, ℕ, ℕ_discrete, ⊎_elim, ◌%◌, ◌*◌, ◌++◌, ◌+◌, ◌-◌, ◌<◌, ◌==◌, ◌∙◌, ◌∷◌}
pub use Rattle.mb_segment.proofs.Base.{◌≡◌, ◌≢◌, ◌≤◌, ◌⊎◌}
