-- The history of a segment, as plain data: all positions drawn, in one order. The first of them were claimed.
use Rattle.std.specs.Prelude.{Bool, List, None, Option, Some, [], false, length, nat_eq, suc, ℕ, ◌+◌, ◌++◌, ◌∷◌, if◌then◌else◌}
use Rattle.mb_segment.specs.Types.{Spot}

-- a value, and the number of the pass that drew its position
pub record Entry (T : Type 0) : Type 0 where
  pub by : ℕ
  pub value : T

-- an entry, and the number of the pass that claimed its position
pub record Claim (T : Type 0) : Type 0 where
  pub entry : Entry T
  pub to : ℕ

-- position k has the k-th entry: first those that were claimed, then those that wait. And the pass that cut the segment
pub record History (T : Type 0) : Type 0 where
  pub claims : List (Claim T)
  pub rest : List (Entry T)
  pub cutter : Option ℕ

abbrev pub entries : {T : Type 0} → List (Claim T) → List (Entry T)
entries [] = []
entries (c ∷ cs) = c.entry ∷ entries cs

-- the whole list
abbrev pub all_entries : {T : Type 0} → History T → List (Entry T)
all_entries h = entries h.claims ++ h.rest

-- how many positions are claimed, and how many are drawn
abbrev pub taken : {T : Type 0} → History T → ℕ
taken h = length h.claims

abbrev pub drawn : {T : Type 0} → History T → ℕ
drawn h = length h.claims + length h.rest

abbrev pub values : {T : Type 0} → List (Entry T) → List T
values [] = []
values (e ∷ es) = e.value ∷ values es

abbrev pub spot : {T : Type 0} → ℕ → T → Spot T
spot p x = record { at = p; value = x }

-- the entries of pass n, where the list begins at position p
abbrev pub spots_by : {T : Type 0} → ℕ → ℕ → List (Entry T) → List (Spot T)
spots_by n p [] = []
spots_by n p (e ∷ es) =
    if nat_eq e.by n then spot p e.value ∷ spots_by n (suc p) es else spots_by n (suc p) es

-- the claims of pass n, where the list begins at position p
abbrev pub spots_to : {T : Type 0} → ℕ → ℕ → List (Claim T) → List (Spot T)
spots_to n p [] = []
spots_to n p (c ∷ cs) =
    if nat_eq c.to n then spot p c.entry.value ∷ spots_to n (suc p) cs else spots_to n (suc p) cs

-- what pass n sent, and what it received, in the order of the history
abbrev pub sent_by : {T : Type 0} → ℕ → History T → List (Spot T)
sent_by n h = spots_by n 0 (all_entries h)

abbrev pub got_by : {T : Type 0} → ℕ → History T → List (Spot T)
got_by n h = spots_to n 0 h.claims

-- whether pass n cut the segment, and how often that was done
abbrev pub is_of : ℕ → Option ℕ → Bool
is_of n None = false
is_of n (Some m) = nat_eq m n

abbrev pub has_cut : {T : Type 0} → ℕ → History T → Bool
has_cut n h = is_of n h.cutter

abbrev pub cuts_by : Option ℕ → ℕ
cuts_by None = 0
cuts_by (Some n) = 1
