-- The visits of ends to segments, the names under which they were made, and the fates that a segment has of them.
use Rattle.std.specs.Prelude.{ℕ, ◌≡◌, ◌<◌, nat_eq, if◌then◌else◌, List, [], ◌∷◌, Option, Some, None}
use Rattle.mb_segment.specs.Vocabulary.{OfFate, fate_in}
use Rattle.mb_channel.specs.Types.{Account, Global, Knows, Left, Past, View, Visit}

-- ---- the visits of all ends, the newest first
pub record Made (T : Type 0) : Type 0 where
  pub by : ℕ
  pub visit : Visit T

-- of one end
abbrev pub made_by : {T : Type 0} → ℕ → List (Made T) → List (Visit T)
made_by n [] = []
made_by n (m ∷ ms) = if nat_eq m.by n then m.visit ∷ made_by n ms else made_by n ms

-- in one segment
abbrev pub made_in : {T : Type 0} → ℕ → List (Made T) → List (Account T)
made_in k [] = []
made_in k (m ∷ ms) = if nat_eq m.visit.segment k then m.visit.account ∷ made_in k ms else made_in k ms

abbrev pub AllMade : {T : Type 0} → (Made T → Type 0) → List (Made T) → Type 0
AllMade P [] = Unit {0}
AllMade P (m ∷ ms) = P m × AllMade P ms

-- the segments of the visits fall, from below b on: so each end visits a segment once
abbrev pub Falls : {T : Type 0} → ℕ → List (Visit T) → Type 0
Falls b [] = Unit {0}
Falls b (v ∷ vs) = (v.segment < b) × Falls v.segment vs

abbrev pub AllPast : {T : Type 0} → (Past T → Type 0) → List (Past T) → Type 0
AllPast P [] = Unit {0}
AllPast P (p ∷ ps) = P p × AllPast P ps

-- ---- names
-- the name of the pass, if there is one
abbrev pub name_there : {T : Type 0} → Option (View T) → ℕ
name_there None = 0
name_there (Some v) = v.account.name

-- all these visits were made under this name
abbrev pub AreNamed : {T : Type 0} → ℕ → List (Visit T) → Type 0
AreNamed n [] = Unit {0}
AreNamed n (v ∷ vs) = (v.account.name ≡ n) × AreNamed n vs

-- each visit that the end knows of was made under its end's name
abbrev pub HasNames : {T : Type 0} → Knows T → Type 0
HasNames v = AreNamed v.name v.visits × AllPast (λ p. AreNamed p.name p.visits) v.ended

-- these are the fates of what the passes with these accounts sent and received in a segment
abbrev pub TellsFates : {T : Type 0} → Left T Global → List (Account T) → Type 0
TellsFates l accounts = (at : ℕ) → OfFate accounts at (fate_in l at)
