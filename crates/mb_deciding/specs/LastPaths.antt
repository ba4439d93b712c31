-- The paths of one process through a last object.
use Rattle.std.specs.Prelude.{◌≡◌, ℕ, ◌+◌, List, [], ◌∷◌, ◌⊎◌}
use Rattle.mb_deciding.specs.Types.{Last, Exchange, Turn}

-- the turns are a whole path of input v with the value u: one exchange for v + 1. Either the exchange found 0, and u is
-- v, or it found u + 1
abbrev pub IsLastPath : ℕ → List Turn → ℕ → Type 0
IsLastPath v [] u = ⊥
IsLastPath v (turn ∷ []) u =
    ((u ≡ v) × (turn.act ≡ Exchange Last (v + 1) 0)) ⊎ (turn.act ≡ Exchange Last (v + 1) (u + 1))
IsLastPath v (turn ∷ other ∷ older) u = ⊥
