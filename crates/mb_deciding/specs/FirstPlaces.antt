-- Where a process begins in an object.
use Rattle.std.specs.Prelude.{ℕ, ◌^◌}
use Rattle.mb_quorum.specs.Quorum.{QuorumTable}
use Rattle.mb_deciding.specs.Types.{Kind, Conciliator, Ratifier, LastObject, Pc, InConciliator, InRatifier, InLast}
use Rattle.mb_deciding.specs.Types.{Draw, Announce}

-- the place of a process with input v before its first access to an object of this kind over the table. In a ratifier
-- its place has the write quorum of v already
abbrev pub first_place : QuorumTable → Kind → ℕ → Pc
first_place t (Conciliator s) v = InConciliator (Draw v 1 (2 ^ s))
first_place t Ratifier v = InRatifier (Announce v (t.write v))
first_place t LastObject v = InLast (record { input = v })
