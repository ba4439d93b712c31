-- What an end has of the segment where it is, and what its visits and its pass there list.
use Rattle.std.specs.Prelude.{ℕ, ◌<◌, ◌++◌, Bool, true, false, List, [], ◌∷◌, Option, Some, None}
use Rattle.mb_segment.specs.Moves.{SawAllTaken, found_empty}
use Rattle.mb_channel.specs.Types.{Account, Arc, Global, Knows, Pass, Past, Position, Segment, View, Visit}
use Rattle.mb_channel.specs.Deeds.{Deed, deeds_at}
use Rattle.mb_channel.specs.declared.inside.Inside.{Inside}

-- the pass, at work
abbrev pub pass_in : {T : Type 0} → Inside T → Pass T
pass_in i = record { seat = i.pass.seat }

-- what it did there
abbrev pub account_in : {T : Type 0} → Inside T → Account T
account_in i = i.pass.seat.me.0.account

-- whether it was told that no value can come there any more
abbrev pub told_in : {T : Type 0} → Inside T → Bool
told_in i = i.pass.seat.me.0.over

-- it looked, and found more than n times that none waits there. When it did so last, all was claimed that it has sent
-- there by now, and the position that it saw marked last
abbrev pub SawNothing : {T : Type 0} → ℕ → View T → Type 0
SawNothing n v = SawAllTaken v × (n < found_empty v)

-- ---- of an end that may be in a segment
abbrev pub told_there : {T : Type 0} → Option (Inside T) → Bool
told_there None = false
told_there (Some i) = told_in i

-- its share of that segment
abbrev pub share_in : {T : Type 0} → Option (Inside T) → Option (Arc (Segment T Global) Global)
share_in None = None
share_in (Some i) = Some i.segment

-- what its pass received there
abbrev pub got_there : {T : Type 0} → Option (Inside T) → List (Position T)
got_there None = []
got_there (Some i) = (account_in i).got

-- what its pass knows
abbrev pub pass_there : {T : Type 0} → Option (Inside T) → Option (View T)
pass_there None = None
pass_there (Some i) = Some i.pass.seat.me.0

-- how often its pass looked there, and found that none waits
abbrev pub found_there : {T : Type 0} → Option (View T) → ℕ
found_there None = 0
found_there (Some v) = found_empty v

-- how many positions its pass knows to be drawn there, or, if b is true, to be claimed
abbrev pub known_there : {T : Type 0} → Bool → Option (View T) → ℕ
known_there b None = 0
known_there false (Some v) = v.known.drawn
known_there true (Some v) = v.known.taken

-- ---- logs
-- what the accounts of these visits list, the oldest first
abbrev pub in_visits : {T : Type 0} → (Account T → List (Position T)) → List (Visit T) → List (Deed T)
in_visits f [] = []
in_visits f (v ∷ vs) = in_visits f vs ++ deeds_at v.segment (f v.account)

-- and then the account of the pass that the end has
abbrev pub log_in : {T : Type 0} → (Account T → List (Position T)) → Knows T → Option (View T) → List (Deed T)
log_in f k None = in_visits f k.visits
log_in f k (Some v) = in_visits f k.visits ++ deeds_at k.at (f v.account)

-- ---- an end that was given back
pub record Log (T : Type 0) : Type 0 where
  pub number : ℕ
  pub name : ℕ
  pub sent : List (Deed T)
  pub got : List (Deed T)

abbrev pub log_of_past : {T : Type 0} → Past T → Log T
log_of_past p = record {
  number = p.number;
  name = p.name;
  sent = in_visits (λ a. a.sent) p.visits;
  got = in_visits (λ a. a.got) p.visits;
}
