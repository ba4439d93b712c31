use Rattle.std.proofs.Common.{ℕ, List, [], ◌∷◌, length, ap, arith}
use Rattle.mb_channel.specs.ChannelTheorem.{Spot}
use Rattle.mb_channel.specs.ChannelSamples.{call}
use Rattle.mb_channel.proofs.samples.sample_lives.Goals as goal

abbrev first_at : List (Spot ℕ) → ℕ
first_at [] = 0
first_at (s ∷ ss) = s.at

pub returns-clause-swapped : goal.returns-clause-swapped
returns-clause-swapped c e = let n = ap first_at (e.order 0) in absurd (omega (arith, n))

pub returns-clause-unheeded : goal.returns-clause-unheeded
returns-clause-unheeded c e = let n = e.after 1 0 (call 0 20 2) (omega arith) in absurd (omega (arith, n))

pub returns-clause-twice : goal.returns-clause-twice
returns-clause-twice c e = let n = ap length (e.takers 3) in absurd (omega (arith, n))

pub returns-clause-forgotten : goal.returns-clause-forgotten
returns-clause-forgotten c e = let n = ap length (e.takers 2) in absurd (omega (arith, n))

pub returns-clause-unheeded_take : goal.returns-clause-unheeded_take
returns-clause-unheeded_take c e = let n = e.later 3 0 (call 0 10 2) (omega arith) in absurd (omega (arith, n))
