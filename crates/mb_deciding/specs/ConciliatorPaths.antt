-- The paths of one process through a conciliator. Turns are the newest first.
use Rattle.std.specs.Prelude.{◌≡◌, ℕ, zero, suc, ◌+◌, ◌<◌, ◌≤◌, ◌%◌, ◌^◌, List, [], ◌∷◌, ◌⊎◌}
use Rattle.mb_deciding.specs.Types.{Value, Load, Store, Turn}

-- the random word *stores* on attempt k: a process that has it and loads 0 stores next. The last attempt is s
abbrev pub StoresOn : ℕ → ℕ → ℕ → Type 0
StoresOn s k word = word % 2 ^ s < 2 ^ k

-- the turns are those of the attempts below k, of which none stores: a load of 0 for each
abbrev pub IsMissing : ℕ → ℕ → List Turn → Type 0
IsMissing s zero [] = Unit {0}
IsMissing s zero (turn ∷ older) = ⊥
IsMissing s (suc k) [] = ⊥
IsMissing s (suc k) (turn ∷ older) =
    (turn.act ≡ Load Value 0) × (StoresOn s k turn.word → ⊥) × IsMissing s k older

-- the turns are those of the attempts below k, of which none stores, then a load of 0 whose random word stores on k
abbrev pub IsDrawn : ℕ → ℕ → List Turn → Type 0
IsDrawn s k [] = ⊥
IsDrawn s k (turn ∷ older) =
    (turn.act ≡ Load Value 0) × StoresOn s k turn.word × IsMissing s k older

-- the turns are those of the attempts up to k, of which only the last stores, and then its store of v + 1
abbrev pub IsPut : ℕ → ℕ → ℕ → List Turn → Type 0
IsPut s v k [] = ⊥
IsPut s v k (turn ∷ older) = (turn.act ≡ Store Value (v + 1)) × IsDrawn s k older

-- the turns are a whole path of input v with the value u: for a k of at most s, u + 1 was loaded last, on attempt k or
-- after the store of attempt k
abbrev pub IsConciliatorPath : ℕ → ℕ → List Turn → ℕ → Type 0
IsConciliatorPath s v [] u = ⊥
IsConciliatorPath s v (turn ∷ older) u =
    (turn.act ≡ Load Value (u + 1))
    × ((k : ℕ) × (k ≤ s) × (IsMissing s k older ⊎ IsPut s v k older))
