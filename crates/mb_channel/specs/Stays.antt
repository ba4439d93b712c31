-- Passes and ends. In each segment an end has a pass, which has a number there. What the segment tells of its passes
-- becomes what the channel tells of its ends.
use Rattle.std.specs.Prelude.{ℕ, ◌≡◌, ◌≤◌, ◌⊎◌, ◌+◌, ◌++◌, All, List, [], ◌∷◌, map, nat_eq, if◌then◌else◌}
use Rattle.mb_channel.specs.ChannelTheorem.{Claim, End, Entry, History, Spot, TakenInTurn, entries, left, spots_by, spots_to}
use Rattle.mb_channel.specs.Segments.{drawn}

-- one end in one segment: the number of its pass, its own, and what it sent and took there, by places in the segment
pub record Stay (T : Type 0) : Type 0 where
  pub pass : ℕ
  pub end : ℕ
  pub sent : List (Spot T)
  pub got : List (Spot T)

abbrev pub IsPass : {T : Type 0} → ℕ → List (Stay T) → Type 0
IsPass m [] = ⊥
IsPass m (s ∷ ss) = (m ≡ s.pass) ⊎ IsPass m ss

abbrev pub IsEnd : {T : Type 0} → ℕ → List (Stay T) → Type 0
IsEnd n [] = ⊥
IsEnd n (s ∷ ss) = (n ≡ s.end) ⊎ IsEnd n ss

-- no two have the same pass or the same end
abbrev pub AreApart : {T : Type 0} → List (Stay T) → Type 0
AreApart [] = Unit {0}
AreApart (s ∷ ss) = (IsPass s.pass ss → ⊥) × (IsEnd s.end ss → ⊥) × AreApart ss

abbrev pub DidSo : {T : Type 0} → History T → List (Stay T) → Type 0
DidSo h [] = Unit {0}
DidSo h (s ∷ ss) = (s.sent ≡ spots_by s.pass 0 (entries h.claims ++ h.rest)) × (s.got ≡ spots_to s.pass 0 h.claims) × DidSo h ss

abbrev pub AllBy : {T : Type 0} → List (Stay T) → List (Entry T) → Type 0
AllBy ss [] = Unit {0}
AllBy ss (e ∷ es) = IsPass e.by ss × AllBy ss es

abbrev pub AllTo : {T : Type 0} → List (Stay T) → List (Claim T) → Type 0
AllTo ss [] = Unit {0}
AllTo ss (c ∷ cs) = IsPass c.to ss × AllTo ss cs

-- what a segment tells when it ends: each of these did what it says, and there was nobody else
pub record Told (T : Type 0) : Type 0 where
  pub history : History T  -- by the numbers of passes
  pub stays : List (Stay T)
  pub apart : AreApart stays
  pub did : DidSo history stays
  pub senders : AllBy stays (entries history.claims ++ history.rest)
  pub receivers : AllTo stays history.claims

-- the end that had pass m
abbrev pub end_of : {T : Type 0} → List (Stay T) → ℕ → ℕ
end_of [] m = 0
end_of (s ∷ ss) m = if nat_eq s.pass m then s.end else end_of ss m

abbrev pub named : {T : Type 0} → List (Stay T) → Entry T → Entry T
named ss e = record { by = end_of ss e.by; value = e.value }

abbrev pub named_claim : {T : Type 0} → List (Stay T) → Claim T → Claim T
named_claim ss c = record { entry = named ss c.entry; to = end_of ss c.to }

-- the history by the numbers of ends
abbrev pub by_ends : {T : Type 0} → Told T → History T
by_ends t = record { claims = map (named_claim t.stays) t.history.claims; rest = map (named t.stays) t.history.rest }

abbrev pub life_of : {T : Type 0} → List (Told T) → List (History T)
life_of = map by_ends

-- what these logs say that end n did in one segment
abbrev pub log_of : {T : Type 0} → (Stay T → List (Spot T)) → ℕ → List (Stay T) → List (Spot T)
log_of f n [] = []
log_of f n (s ∷ ss) = if nat_eq s.end n then f s else log_of f n ss

abbrev pub moved_by : {T : Type 0} → ℕ → Spot T → Spot T
moved_by p s = record { at = p + s.at; value = s.value }

-- and in all, where the first segment begins at place p
abbrev pub logs_of : {T : Type 0} → (Stay T → List (Spot T)) → ℕ → ℕ → List (Told T) → List (Spot T)
logs_of f n p [] = []
logs_of f n p (t ∷ ts) = map (moved_by p) (log_of f n t.stays) ++ logs_of f n (p + drawn t.history) ts

-- the ends say what their stays were, and what is given back is what the segments had left
pub record AreStays {T : Type 0} (ts : List (Told T)) (ends : ℕ → End T) (back : List T) : Type 0 where
  pub sends : (n : ℕ) → map (λ c. c.spot) (ends n).sends ≡ logs_of (λ s. s.sent) n 0 ts
  pub after : (n : ℕ) → All (λ c. c.knew ≤ c.spot.at) (ends n).sends
  pub takes : (n : ℕ) → map (λ c. c.spot) (ends n).takes ≡ logs_of (λ s. s.got) n 0 ts
  pub later : (n : ℕ) → All (λ c. c.knew ≤ c.spot.at) (ends n).takes
  pub rest : back ≡ map (λ e. e.value) (left (map (λ t. t.history) ts))
  pub turn : TakenInTurn (map (λ t. t.history) ts)
