-- When a schedule is refused, and why.
use Rattle.std.specs.Prelude.{ℕ, ◌≡◌, if◌then◌else◌, nat_lt, nat_le, List, length, position, Option, Some, None, Result}
use Rattle.std.specs.Prelude.{Err, IfErr, MatchOption}
use Rattle.std.specs.Option.{option_map_or}
use Rattle.mb_quorum.specs.declared.values.TheConstants.{MAX_VALUES}
use Rattle.mb_deciding.specs.Types.{Fault, BadValues, BadInput, NoSuchProcess, NoMemory}

-- the position of the first number that is not below the bound, if there is one
abbrev pub first_from : ℕ → List ℕ → Option ℕ
first_from bound numbers = position (λ n. nat_le bound n) numbers

-- if m is in range: the first reason to refuse inputs for m values and the processes of a schedule, if there is one
abbrev pub refusal_in : ℕ → List ℕ → List ℕ → Option Fault
refusal_in m inputs processes =
    option_map_or (λ i. Some (BadInput i))
    (first_from m inputs)
    (option_map_or (λ i. Some (NoSuchProcess i)) (first_from (length inputs) processes) None)

-- the first reason to refuse inputs for m values and the processes of a schedule, if there is one
abbrev pub refusal_of : ℕ → List ℕ → List ℕ → Option Fault
refusal_of m inputs processes =
    if nat_lt m 1 then Some BadValues else
    (if nat_lt MAX_VALUES m then Some BadValues else refusal_in m inputs processes)

-- a call is refused for the reason if there is one, and else only if memory ran out
abbrev pub RefusesOnlyFor : {X : Type 0} → Option Fault → Result X Fault → Type 0
RefusesOnlyFor reason result =
    MatchOption reason (IfErr result (λ e. e ≡ NoMemory)) (λ fault. result ≡ Err fault)
