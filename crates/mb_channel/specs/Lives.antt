-- The whole life of a channel, read off what its last end and its segments tell in the end.
use Rattle.std.specs.Prelude.{ℕ, zero, suc, ◌≡◌, ◌+◌, ◌++◌, List, [], ◌∷◌, length, flat_map, nat_eq, if◌then◌else◌}
use Rattle.mb_segment.specs.Whole.{IsWhole as IsToldWhole}
use Rattle.mb_channel.specs.Types.{Account, Home, Knows, Past, Position, Visit}
use Rattle.mb_channel.specs.ChannelTheorem.{Call, End, Spot, WholeLife}
use Rattle.mb_channel.specs.Homes.{IsDone, came_back}
use Rattle.mb_channel.specs.Stays.{AreStays, Told, life_of}

-- ---- the segments
-- each was ended, and had these values left. What its hub knows and what is left are one history. Nothing is left where a
-- pass saw that no value can come any more
abbrev pub HaveEnded : {T : Type 0} → List (Home T) → List (List T) → Type 0
HaveEnded [] [] = Unit {0}
HaveEnded [] (l ∷ ls) = ⊥
HaveEnded (h ∷ hs) [] = ⊥
HaveEnded (h ∷ hs) (l ∷ ls) = IsToldWhole (came_back h) l × (IsDone h → l ≡ []) × HaveEnded hs ls

abbrev pub all_left : {T : Type 0} → List (List T) → List T
all_left = flat_map (λ l. l)

-- ---- places
-- how many values were sent in a segment
abbrev pub count_sent : {T : Type 0} → List (Account T) → ℕ
count_sent [] = 0
count_sent (a ∷ rest) = length a.sent + count_sent rest

-- the place of the first position of segment k
abbrev pub start : {T : Type 0} → List (Home T) → ℕ → ℕ
start [] k = 0
start (h ∷ hs) zero = 0
start (h ∷ hs) (suc k) = count_sent (came_back h) + start hs k

-- a position of a segment that starts at place p
abbrev pub placed : {T : Type 0} → ℕ → Position T → Spot T
placed p s = record { at = p + s.at; value = s.value }

-- ---- the ends
-- the visits of end n, the newest first: of one that was given back, and of any
abbrev pub past_visits : {T : Type 0} → ℕ → List (Past T) → List (Visit T)
past_visits n [] = []
past_visits n (p ∷ ps) = if nat_eq p.number n then p.visits else past_visits n ps

abbrev pub visits_of : {T : Type 0} → ℕ → Knows T → List (Visit T)
visits_of n v = if nat_eq v.number n then v.visits else past_visits n v.ended

-- the calls at these positions, each by a pass that knew of so many positions
abbrev pub calls_at : {T : Type 0} → ℕ → List (Position T) → List ℕ → List (Call T)
calls_at p [] ks = []
calls_at p (s ∷ ss) [] = []
calls_at p (s ∷ ss) (k ∷ ks) = record { spot = placed p s; knew = p + k } ∷ calls_at p ss ks

-- what the accounts of the visits list, by its places, the oldest first
abbrev pub calls_in : {T : Type 0} → (Account T → List (Position T)) → (Account T → List ℕ) → List (Home T)
    → List (Visit T) → List (Call T)
calls_in f g hs [] = []
calls_in f g hs (v ∷ vs) = calls_in f g hs vs ++ calls_at (start hs v.segment) (f v.account) (g v.account)

-- what end n did
abbrev pub end_in : {T : Type 0} → Knows T → List (Home T) → ℕ → End T
end_in v hs n = record {
  sends = calls_in (λ a. a.sent) (λ a. a.sent_knew) hs (visits_of n v);
  takes = calls_in (λ a. a.got) (λ a. a.got_knew) hs (visits_of n v);
}

-- what the segments tell of the ends' passes is a whole life of these ends
abbrev pub HaveLived : {T : Type 0} → (ℕ → End T) → List T → Type 0
HaveLived {T} ends back = (ts : List (Told T)) × AreStays ts ends back × WholeLife (life_of ts) ends back
