-- A table of your own, as the tests have it: another table with its values counted from the last.
use Rattle.std.specs.Prelude.{ℕ, ◌-◌, ◌<◌}
use Rattle.std.proofs.Common.{ap, arith}
use Rattle.mb_quorum.specs.Quorum.{QuorumTable, IsQuorumTable}

-- if there are m values, the quorums of v are those of m - 1 - v in the other table
abbrev pub mirrored : QuorumTable → QuorumTable
mirrored t =
    record {
      registers = t.registers;
      values = t.values;
      write = λ v. t.write (t.values - 1 - v);
      read = λ v. t.read (t.values - 1 - v);
    }

-- the mirrored table is a quorum table if the other is one
pub mirrored_lawful : (t : QuorumTable) → IsQuorumTable t → IsQuorumTable (mirrored t)
mirrored_lawful t law =
    let mirror : (v : ℕ) → v < t.values → t.values - 1 - v < t.values = λ v value. omega (arith, value) in
    record {
      limit = law.limit;
      few = law.few;
      write_within = λ v value. law.write_within (t.values - 1 - v) (mirror v value);
      read_within = λ v value. law.read_within (t.values - 1 - v) (mirror v value);
      disjoint = λ v w written seen.
          let rule = law.disjoint (t.values - 1 - v) (t.values - 1 - w) (mirror v written) (mirror w seen) in
          (λ apart. omega (arith, rule.0 apart, written, seen), λ same. rule.1 (ap (λ u. t.values - 1 - u) same));
    }
