-- The names that most proofs of this crate use.
pub use Rattle.std.proofs.Common.{Bool, List, [], append_assoc, ap, arith, eq-eqb, false, if◌then◌else◌, inl, inr, length, length-append}
pub use Rattle.std.proofs.Common.{nat_eq, ne_eqb, refl, subst, suc, sym, true, true≢false, zero, ℕ, ⊎_elim}
pub use Rattle.std.proofs.Common.{◌%◌, ◌*◌, ◌+◌, ◌++◌, ◌-◌, ◌<◌, ◌∙◌, ◌∷◌, ◌≡◌, ◌≢◌, ◌≤◌, ◌⊎◌}
pub use Rattle.std.specs.Prelude.{None, Option, Some, map, max, replicate, slice_index, slice_set, ◌==◌}
pub use mathlib.Core.Option.{none, some, some-injective, some-ne-none}
pub use mathlib.Core.Logic.{dite}
pub use native.Mathlib.Decide.{dec_le, dec_lt, ℕ_discrete}
pub use lib.ListN.{get_elem?}
pub use prog.Atomic.{either}
pub use Rattle.atomic_table.specs.Table.{Act, Allows, Joins, Splits, State, Step, Valid, carried_after, gives, homes_after}
pub use Rattle.atomic_table.specs.Table.{keeps, opening, rest, step, stepped, takes}
pub use Rattle.atomic_table.proofs.Lists.{at_last, at_longer, at_set, exchanged, set_again, set_else, set_here, some_there}
