-- How large a pool is.
use Rattle.std.specs.Prelude.{ℕ}
pub use Rattle.mb_cells.specs.declared.size.PoolSize.{PoolSize}

-- the size with these numbers of lanes and cells
abbrev pub pool_size : ℕ → ℕ → PoolSize
pool_size lanes cells = record { lanes = lanes; cells = cells }
