-- What each segment keeps, what their list keeps, and what the ends' logs are made of. A channel's theorem follows.
use Rattle.std.specs.Prelude.{ℕ, ◌≡◌, ◌<◌, ◌≤◌, ◌⊎◌, ◌+◌, ◌++◌, true, false, All, List, [], ◌∷◌, length, map}
use Rattle.mb_channel.specs.ChannelTheorem.{End, History, IsOver, Moment, Segment, Spot, entries, left, spots_by, spots_to}

-- a segment's own rule
pub record Keeps {T : Type 0} (s : Segment T) : Type 0 where
  pub unvisited : s.is_visited ≡ false → (s.history.claims ≡ []) × (s.sleepers.asleep ≡ 0)
  pub quiet : (s.sleepers.asleep ≤ s.sleepers.tokens)
      ⊎ (length s.history.rest ≤ s.sleepers.tokens + s.sleepers.owed + s.sleepers.owed_to_all)
  pub shut : s.is_over ≡ true → (s.sleepers.asleep ≤ s.sleepers.tokens) ⊎ (0 < s.sleepers.owed_to_all)

abbrev pub EachKeeps : {T : Type 0} → List (Segment T) → Type 0
EachKeeps [] = Unit {0}
EachKeeps (s ∷ ss) = Keeps s × EachKeeps ss

-- a segment is followed by one only once it is over. A receiver comes to that only from this one, once nothing waits here
abbrev pub Leads : {T : Type 0} → Segment T → List (Segment T) → Type 0
Leads s [] = Unit {0}
Leads s (t ∷ ss) = (s.is_over ≡ true) × (t.is_visited ≡ true → (s.is_visited ≡ true) × (s.history.rest ≡ []))

abbrev pub InTurn : {T : Type 0} → List (Segment T) → Type 0
InTurn [] = Unit {0}
InTurn (s ∷ ss) = Leads s ss × InTurn ss

-- the words of the channel itself
pub record KeepsEnd {T : Type 0} (m : Moment T) : Type 0 where
  pub told : m.is_told ≡ true → IsOver m × All (λ s. s.history.rest ≡ []) m.segments
  pub refused : m.is_refused ≡ true → (m.is_closed ≡ true) ⊎ (m.receivers ≡ 0)
  pub ended : (m.is_closed ≡ true) ⊎ (m.senders ≡ 0) → (0 < m.closers) ⊎ All (λ s. s.is_over ≡ true) m.segments

-- ---- a whole life
abbrev pub drawn : {T : Type 0} → History T → ℕ
drawn h = length (entries h.claims ++ h.rest)

-- what end n sent and took in each segment, one behind the other, where the first segment begins at place p
abbrev pub logs_by : {T : Type 0} → ℕ → ℕ → List (History T) → List (Spot T)
logs_by n p [] = []
logs_by n p (h ∷ hs) = spots_by n p (entries h.claims ++ h.rest) ++ logs_by n (p + drawn h) hs

abbrev pub logs_to : {T : Type 0} → ℕ → ℕ → List (History T) → List (Spot T)
logs_to n p [] = []
logs_to n p (h ∷ hs) = spots_to n p h.claims ++ logs_to n (p + drawn h) hs

-- segment by segment: what the ends did is what the segments tell of them
pub record AreLogs {T : Type 0} (hs : List (History T)) (ends : ℕ → End T) (back : List T) : Type 0 where
  pub sends : (n : ℕ) → map (λ c. c.spot) (ends n).sends ≡ logs_by n 0 hs
  pub after : (n : ℕ) → All (λ c. c.knew ≤ c.spot.at) (ends n).sends
  pub takes : (n : ℕ) → map (λ c. c.spot) (ends n).takes ≡ logs_to n 0 hs
  pub later : (n : ℕ) → All (λ c. c.knew ≤ c.spot.at) (ends n).takes
  pub rest : back ≡ map (λ e. e.value) (left hs)
