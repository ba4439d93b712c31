-- A setup for samples.
use Rattle.std.specs.Prelude.{ℕ, Bool}
use Rattle.hazbultra.specs.declared.boundary.SetupIn.{SetupIn}

-- what C asks for with 3 producers, 4 consumers and 8 cells: this table, this number of pairs, a fast path if `fast` is
-- true, and a last object if `last` is true
abbrev pub asked : ℕ → ℕ → Bool → Bool → SetupIn
asked table pairs fast last = record {
  producers = 3;
  consumers = 4;
  cells = 8;
  pairs = pairs;
  table = table;
  fast = fast;
  last = last;
}
