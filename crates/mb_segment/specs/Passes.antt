-- Which passes are out, and what those that came back had done.
use Rattle.std.specs.Prelude.{List, None, [], ℕ, ◌∷◌, ◌≡◌, ◌⊎◌, false}
use Rattle.mb_segment.specs.Types.{Account, Duty, Issuer, Known, Member, Nothing, Role, Sight, Spent, Tokens, View}
use Rattle.mb_segment.specs.History.{History, got_by, has_cut, sent_by}

abbrev pub In : ℕ → List ℕ → Type 0
In n [] = ⊥
In n (m ∷ ms) = (n ≡ m) ⊎ In n ms

abbrev pub Distinct : List ℕ → Type 0
Distinct [] = Unit {0}
Distinct (n ∷ ns) = (In n ns → ⊥) × Distinct ns

-- the passes of these numbers did what these accounts say
abbrev pub Match : {T : Type 0} → History T → List ℕ → List (Account T) → Type 0
Match h [] [] = Unit {0}
Match h [] (a ∷ rest) = ⊥
Match h (n ∷ ns) [] = ⊥
Match h (n ∷ ns) (a ∷ rest) =
    (a.sent ≡ sent_by n h) × (a.got ≡ got_by n h) × (a.cut ≡ has_cut n h) × Match h ns rest

-- these accounts have the names of the passes of these numbers
abbrev pub Called : {T : Type 0} → (ℕ → ℕ) → List ℕ → List (Account T) → Type 0
Called names [] [] = Unit {0}
Called names [] (a ∷ rest) = ⊥
Called names (n ∷ ns) [] = ⊥
Called names (n ∷ ns) (a ∷ rest) = (a.name ≡ names n) × Called names ns rest

-- a pass that is out counts as one, and the hub knows how many are out
abbrev pub one_if_member : Role → ℕ
one_if_member Issuer = 0
one_if_member Member = 1
one_if_member Spent = 0

abbrev pub if_hub : Role → ℕ → ℕ
if_hub Issuer n = n
if_hub Member n = 0
if_hub Spent n = 0

abbrev pub member : {T : Type 0} → View T → ℕ
member v = one_if_member v.role

abbrev pub out : {T : Type 0} → View T → ℕ
out v = if_hub v.role v.out

-- ---- the first views
abbrev pub no_duty : Duty
no_duty = record { wakes = 0; looks = 0; fresh = 0; asleep = 0; leaving = 0; closing = 0 }

abbrev pub no_tokens : Tokens
no_tokens = record { gave = 0; took = 0 }

abbrev pub blind : Sight
blind = record { low = 0; ripe = None; full = false; cut = false; empty = 0; found = 0; walk = [] }

abbrev pub nothing_done : {T : Type 0} → Account T
nothing_done = record { name = 0; sent = []; got = []; cut = false; sent_knew = []; got_knew = [] }

abbrev pub ignorant : Known
ignorant = record { drawn = 0; taken = 0 }

-- a pass that did nothing, saw nothing and owes nothing
abbrev pub blank : {T : Type 0} → View T
blank = record {
  role = Member;
  account = nothing_done;
  known = ignorant;
  half = Nothing;
  duty = no_duty;
  tokens = no_tokens;
  sight = blind;
  over = false;
  out = 0;
  ends = [];
}

-- the same, with a name
abbrev pub named : {T : Type 0} → ℕ → View T
named name = record blank { account = record nothing_done { name = name } }

-- the hub of a new segment
abbrev pub new_hub : {T : Type 0} → View T
new_hub = record blank { role = Issuer }

abbrev pub spent : {T : Type 0} → View T
spent = record blank { role = Spent }
