-- What passes have learned of, and had learned of when they sent and received.
use Rattle.std.specs.Prelude.{List, [], ℕ, ◌<◌, ◌∷◌, ◌≤◌}
use Rattle.mb_segment.specs.Types.{Account, Known, Spot, View}
use Rattle.mb_segment.specs.History.{History, drawn, taken}

-- each position of the list is below n
abbrev pub Below : {T : Type 0} → ℕ → List (Spot T) → Type 0
Below n [] = Unit {0}
Below n (s ∷ ss) = (s.at < n) × Below n ss

-- it knows that what it sent is drawn, and that what it received is drawn and claimed
abbrev pub IsAware : {T : Type 0} → Known → Account T → Type 0
IsAware k a = Below k.drawn a.sent × Below k.drawn a.got × Below k.taken a.got

-- no position is below what the pass knew, call by call
abbrev pub Heeds : {T : Type 0} → List (Spot T) → List ℕ → Type 0
Heeds [] [] = Unit {0}
Heeds [] (k ∷ ks) = ⊥
Heeds (s ∷ ss) [] = ⊥
Heeds (s ∷ ss) (k ∷ ks) = (k ≤ s.at) × Heeds ss ks

abbrev pub AllHeed : {T : Type 0} → List (Account T) → Type 0
AllHeed [] = Unit {0}
AllHeed (a ∷ rest) = Heeds a.sent a.sent_knew × Heeds a.got a.got_knew × AllHeed rest

-- what the view's pass has learned of is so, and no less than what it did. Each account that the view has heeds what was
-- known
abbrev pub Heard : {T : Type 0} → History T → View T → Type 0
Heard h v = (v.known.drawn ≤ drawn h) × (v.known.taken ≤ taken h) × IsAware v.known v.account
    × AllHeed (v.account ∷ v.ends)
