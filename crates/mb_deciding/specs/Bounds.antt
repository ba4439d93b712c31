-- How many accesses a process can still make, whatever its loads find.
use Rattle.std.specs.Prelude.{ℕ, ◌+◌, ◌-◌, count_ones}
use Rattle.mb_quorum.specs.Quorum.{QuorumTable}
use Rattle.mb_quorum.specs.Width.{width_of}
use Rattle.mb_deciding.specs.Types.{Pc, InRatifier, InConciliator, Begin, Announce, Propose, Check, Draw, Put, Look}
use Rattle.mb_deciding.specs.Types.{Next, InLast}
use Rattle.mb_deciding.specs.declared.place.pc.Next.TheVariants as leads
use Rattle.mb_deciding.specs.Objects.{largest_quorum}

-- the most accesses that are left at a place. In a ratifier these are the registers left to set, a load and a store of
-- the proposal, and the registers left to check: before the check, those of the largest read quorum. In a conciliator
-- they are the attempts left, a store and a last load. In a last object one is left
abbrev pub turns_left : QuorumTable → Pc → ℕ
turns_left t (InRatifier (Begin input)) =
    count_ones (t.write input) + 2 + largest_quorum t.read t.values
turns_left t (InRatifier (Announce input left)) =
    count_ones left + 2 + largest_quorum t.read t.values
turns_left t (InRatifier (Propose input)) = 1 + largest_quorum t.read t.values
turns_left t (InRatifier (Check preference left)) = count_ones left
turns_left t (InConciliator (Draw input limit modulus)) = width_of modulus - width_of limit + 3
turns_left t (InConciliator (Put input)) = 2
turns_left t (InConciliator (Look input)) = 1
turns_left t (InLast place) = 1

-- the most accesses that are left after an access that led here: none after an output
abbrev pub turns_after : QuorumTable → Next → ℕ
turns_after t (leads.Go pc) = turns_left t pc
turns_after t (leads.Out out) = 0
