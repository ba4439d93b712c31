-- When a layout or a run is refused, and why.
use Rattle.std.specs.Prelude.{ℕ, ◌||◌, if◌then◌else◌, nat_lt, nat_le, List, position, Option, Some, None}
use Rattle.mb_quorum.specs.declared.values.TheConstants.{MAX_VALUES}
use Rattle.mb_claim.specs.Types.{MAX_PAIRS, BadLayout, BadConsumers, BadRounds}

-- the first reason to refuse a layout for `consumers` consumers with `pairs` pairs, if there is one
abbrev pub layout_refusal : ℕ → ℕ → Option BadLayout
layout_refusal consumers pairs =
    if nat_lt consumers 1 || nat_lt MAX_VALUES consumers then Some BadConsumers
    else if nat_lt pairs 1 || nat_lt MAX_PAIRS pairs then Some BadRounds
    else None

-- the position of the first step whose consumer is not below the bound, if there is one
abbrev pub stranger_in : ℕ → List (ℕ × ℕ) → Option ℕ
stranger_in consumers steps = position (λ step. nat_le consumers step.0) steps
