-- Steps of reading that may fail.
use Rattle.std.specs.Prelude.{◌≡◌, ◌≢◌, Result, Ok, Err, MatchResult}

infixl 10 ◌>>=◌
-- two steps of reading: f goes on with the value of the first. If the first failed, its fault is that of both
abbrev pub ◌>>=◌ : {A B E : Type 0} → Result A E → (A → Result B E) → Result B E
(Ok x) >>= f = f x
(Err e) >>= f = Err e

-- What the call returned, seen by `view`, is what was to be read (`read`), unless memory ran out. The call has no
-- device, so it returns neither of the two faults of devices.
abbrev pub GivesUnless : {X Y E : Type 0} → E → E → E → (X → Y) → Result X E → Result Y E → Type 0
GivesUnless no_memory read_fault write_fault view result read =
    MatchResult result (λ x. read ≡ Ok (view x))
    (λ e. (e ≢ no_memory → read ≡ Err e) × (e ≢ read_fault) × (e ≢ write_fault))
