-- The first views, and how many passes are out.
use Rattle.std.specs.Prelude.{List, None, [], false, ℕ, ◌+◌, ◌∷◌}
use Rattle.mb_segment.specs.Passes.{if_hub, ignorant, no_duty, no_tokens, nothing_done, one_if_member}
use Rattle.mb_ring.specs.Types.{Duties, Duty, Issuer, Member, Nothing, Room, Sight, Spent, Tallies, Tokens, Values, View, Want}

-- the sum of a number over all views
abbrev pub total : {T : Type 0} → (View T → ℕ) → List (View T) → ℕ
total f [] = 0
total f (v ∷ vs) = f v + total f vs

abbrev pub member : {T : Type 0} → View T → ℕ
member v = one_if_member v.role

abbrev pub out : {T : Type 0} → View T → ℕ
out v = if_hub v.role v.out

-- the part of what is owed that is about one list
abbrev pub part : Want → Duties → Duty
part Values d = d.values
part Room d = d.room

-- how often it stands in the list, with or without a token; and how many wakes and looks it owes. One that has just
-- entered owes a look
abbrev pub in_list : Duty → ℕ
in_list d = d.fresh + d.asleep + d.leaving

abbrev pub debts : Duty → ℕ
debts d = d.wakes + d.looks + d.fresh

abbrev pub listed : {T : Type 0} → Want → View T → ℕ
listed q v = in_list (part q v.duty)

abbrev pub sleeping : {T : Type 0} → Want → View T → ℕ
sleeping q v = (part q v.duty).asleep

abbrev pub owed : {T : Type 0} → Want → View T → ℕ
owed q v = debts (part q v.duty)

-- it owes a token to each that sleeps
abbrev pub closing : {T : Type 0} → Want → View T → ℕ
closing q v = (part q v.duty).closing

-- the part of the tokens given and taken that is about one list
abbrev pub tally : Want → Tallies → Tokens
tally Values t = t.values
tally Room t = t.room

abbrev pub tokens_given : {T : Type 0} → Want → View T → ℕ
tokens_given q v = (tally q v.tokens).gave

abbrev pub tokens_taken : {T : Type 0} → Want → View T → ℕ
tokens_taken q v = (tally q v.tokens).took

abbrev pub blind : Sight
blind = record {
  low = 0;
  top = 0;
  room = None;
  ripe = None;
  cut = false;
  empty = 0;
  empty_looks = 0;
  empty_walk = [];
  full = None;
  full_looks = 0;
  full_walk = [];
}

abbrev pub no_duties : Duties
no_duties = record { values = no_duty; room = no_duty }

abbrev pub no_tallies : Tallies
no_tallies = record { values = no_tokens; room = no_tokens }

-- a pass that did nothing, saw nothing and owes nothing
abbrev pub blank : {T : Type 0} → View T
blank = record {
  role = Member;
  account = nothing_done;
  known = ignorant;
  half = Nothing;
  duty = no_duties;
  tokens = no_tallies;
  sight = blind;
  over = false;
  out = 0;
  ends = [];
}

-- the hub of a new ring
abbrev pub new_hub : {T : Type 0} → View T
new_hub = record blank { role = Issuer }

abbrev pub spent : {T : Type 0} → View T
spent = record blank { role = Spent }
