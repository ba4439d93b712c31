-- Proof of `samples::readers_go_where_they_are_led`: a reader loads a cell's words only after it loaded a link to it.
use Rattle.std.proofs.Common.{ap, arith, inl, inr, ℕ, ◌+◌, ◌≡◌}
use Rattle.mb_cells.proofs.samples.readers_go_where_they_are_led.Goals as goal
use Rattle.mb_cells.specs.{Load, PoolAccess}

pub returns-clause-not_given : goal.returns-clause-not_given
returns-clause-not_given c = λ path.
    elim path.1 [
      | inl gift ↦ let e : 0 ≡ 0 + 1 = gift.0 in omega arith
      | inr none ↦ none
    ]

-- equal loads found equal values
same_load : (n m : ℕ) → Load n ≡ Load m → n ≡ m
same_load n m e = cc

pub returns-clause-nothing_met : goal.returns-clause-nothing_met
returns-clause-nothing_met c = λ met.
    elim met.0 [
      | inl is ↦ omega (arith, same_load 0 1 (ap (λ (x : PoolAccess). x.act) is))
      | inr none ↦ none
    ]
