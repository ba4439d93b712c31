-- What a process does next in the check of a ratifier, by the registers left to load.
use Rattle.std.specs.Prelude.{ℕ, ◌==◌, if◌then◌else◌, true}
use Rattle.mb_deciding.specs.Types.{Next, InRatifier, Check}
use Rattle.mb_deciding.specs.declared.place.pc.Next.TheVariants as leads
use Rattle.mb_deciding.specs.Objects.{answer}

-- what follows if these registers of the read quorum of the preference u are left: the check of them, or the decided
-- output if there are none
abbrev pub checks_of : ℕ → ℕ → Next
checks_of u left =
    if left == 0 then leads.Out (answer true u) else leads.Go (InRatifier (Check u left))
