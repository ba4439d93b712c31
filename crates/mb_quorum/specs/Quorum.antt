-- Quorum tables as plain data, and the law of a quorum table.
use Rattle.std.specs.Prelude.{◌≡◌, ℕ, ◌^◌, ◌<◌, ◌≤◌, ◌↔◌}
use Rattle.std.specs.Int.{bit_at}

-- a quorum table: the number of registers, the number of values, and for each value its write quorum and its read
-- quorum as masks
pub record QuorumTable : Type 0 where
  pub registers : ℕ
  pub values : ℕ
  pub write : ℕ → ℕ
  pub read : ℕ → ℕ

-- the register is in the quorum with this mask
abbrev pub IsMember : ℕ → ℕ → Type 0
IsMember mask register = bit_at mask register ≡ 1

-- no register is in both quorums
abbrev pub AreDisjoint : ℕ → ℕ → Type 0
AreDisjoint a b = (register : ℕ) → IsMember a register → IsMember b register → ⊥

-- The table keeps the law of quorum tables. There are at most 64 registers and 64 values. Masks are below
-- 2 ^ registers. A write quorum and a read quorum are disjoint exactly if they belong to one value
pub record IsQuorumTable (t : QuorumTable) : Type 0 where
  pub limit : t.registers ≤ 64
  pub few : t.values ≤ 64
  pub write_within : (v : ℕ) → v < t.values → t.write v < 2 ^ t.registers
  pub read_within : (v : ℕ) → v < t.values → t.read v < 2 ^ t.registers
  pub disjoint : (v w : ℕ) → v < t.values → w < t.values → AreDisjoint (t.write v) (t.read w) ↔ (v ≡ w)
