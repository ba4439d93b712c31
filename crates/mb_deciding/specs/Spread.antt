-- The last attempt s of a conciliator for m values.
use Rattle.std.specs.Prelude.{ℕ, suc}
use Rattle.mb_quorum.specs.Width.{width_of}

-- the number s for m values: one more than the least b with m ≤ 2 ^ b
abbrev pub spread : ℕ → ℕ
spread m = suc (width_of m)
