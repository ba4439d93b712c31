-- A walk: all draws, claims, and looks that found nothing or, in a ring, no room, in the order in which they happened, the
-- newest first.
use Rattle.std.specs.Prelude.{List, [], if◌then◌else◌, nat_eq, ℕ, ◌+◌, ◌++◌, ◌-◌, ◌<◌, ◌∷◌, ◌≡◌}
use Rattle.mb_segment.specs.Types.{Claimed, Drew, Event, FoundEmpty, FoundFull}

-- how many positions were drawn
abbrev pub draws : List Event → ℕ
draws [] = 0
draws (Drew ∷ w) = draws w + 1
draws (Claimed ∷ w) = draws w
draws (FoundEmpty n ∷ w) = draws w
draws (FoundFull n ∷ w) = draws w

-- how many of them are not claimed
abbrev pub waiting_after : List Event → ℕ
waiting_after [] = 0
waiting_after (Drew ∷ w) = waiting_after w + 1
waiting_after (Claimed ∷ w) = waiting_after w - 1
waiting_after (FoundEmpty n ∷ w) = waiting_after w
waiting_after (FoundFull n ∷ w) = waiting_after w

-- each event stands on a walk that allows it: a claim takes one that waits, a look that found nothing stands where
-- nothing waits, and one that found no room where as many wait as there are positions
abbrev pub AreTrue : ℕ → List Event → Type 0
AreTrue size [] = Unit {0}
AreTrue size (Drew ∷ w) = AreTrue size w
AreTrue size (Claimed ∷ w) = (0 < waiting_after w) × AreTrue size w
AreTrue size (FoundEmpty n ∷ w) = (waiting_after w ≡ 0) × AreTrue size w
AreTrue size (FoundFull n ∷ w) = (waiting_after w ≡ size) × AreTrue size w

-- how often pass n found nothing, and how often no room
abbrev pub times_empty : ℕ → List Event → ℕ
times_empty n [] = 0
times_empty n (Drew ∷ w) = times_empty n w
times_empty n (Claimed ∷ w) = times_empty n w
times_empty n (FoundEmpty m ∷ w) = if nat_eq m n then times_empty n w + 1 else times_empty n w
times_empty n (FoundFull m ∷ w) = times_empty n w

abbrev pub times_full : ℕ → List Event → ℕ
times_full n [] = 0
times_full n (Drew ∷ w) = times_full n w
times_full n (Claimed ∷ w) = times_full n w
times_full n (FoundEmpty m ∷ w) = times_full n w
times_full n (FoundFull m ∷ w) = if nat_eq m n then times_full n w + 1 else times_full n w

-- the walk went on from an earlier one
abbrev pub GoesOn : List Event → List Event → Type 0
GoesOn earlier walk = (newer : List Event) × (walk ≡ newer ++ earlier)
