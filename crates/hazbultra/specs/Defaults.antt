-- The plans of mailboxes as plain Rust makes them, by default and by `FastLast`, for any number of producers, consumers
-- and cells.
use Rattle.std.specs.Prelude.{ℕ, false, true}
use Rattle.mb_quorum.specs.declared.table.TableName.TheVariants.{Bits}
use Rattle.mb_world.specs.Vocabulary.{Plan, shaped_plan}

-- what `hz_mailbox_new` makes, by its clause `made`, if asked for these numbers of producers, consumers and cells, and
-- for what plain Rust has by default: a last object alone
abbrev pub by_default : ℕ → ℕ → ℕ → Plan
by_default producers consumers cells =
    shaped_plan (record { fast = false; last = true }) producers consumers cells 0 Bits

-- what `hz_mailbox_new` makes if asked for the shape `FastLast`: a fast path, a last object, four pairs, the bit table
abbrev pub by_fast_last : ℕ → ℕ → ℕ → Plan
by_fast_last producers consumers cells =
    shaped_plan (record { fast = true; last = true }) producers consumers cells 4 Bits
