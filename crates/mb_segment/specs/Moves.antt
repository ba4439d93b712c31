-- How a step changes a view.
use Rattle.std.specs.Prelude.{Bool, List, None, Option, Some, [], false, max, suc, true, ℕ, ◌+◌, ◌++◌, ◌-◌, ◌<◌, ◌∷◌, ◌||◌, ◌≡◌, ◌≤◌}
use Rattle.mb_segment.specs.Types.{Duty, Event, Nothing, Reads, View, Writes}
use Rattle.mb_segment.specs.History.{spot}
use Rattle.mb_segment.specs.Passes.{blank, blind, no_tokens}
use Rattle.mb_segment.specs.Heard.{Below}

abbrev pub with_duty : {T : Type 0} → (Duty → Duty) → View T → View T
with_duty f v = record v { duty = f v.duty }

-- ---- positions
-- it drew position p for the value x, which counts as sent
abbrev pub drew : {T : Type 0} → ℕ → T → View T → View T
drew p x v = record v {
  account = record v.account {
    sent = v.account.sent ++ spot p x ∷ [];
    sent_knew = v.account.sent_knew ++ v.known.drawn ∷ [];
  };
  known = record v.known { drawn = suc p };
  half = Writes (spot p x);
}

abbrev pub took : {T : Type 0} → ℕ → T → View T → View T
took p x v = record v {
  account = record v.account {
    got = v.account.got ++ spot p x ∷ [];
    got_knew = v.account.got_knew ++ v.known.taken ∷ [];
  };
  known = record { drawn = max v.known.drawn (suc p); taken = suc p };
  half = Reads (spot p x);
}

-- it has marked the position, or read it
abbrev pub ended : {T : Type 0} → View T → View T
ended v = record v { half = Nothing }

-- ---- what is owed
-- a wake for the position drawn
abbrev pub owes_wake : Duty → Duty
owes_wake d = record d { wakes = d.wakes + 1 }

-- for the last position: tokens for all
abbrev pub owes_all : Duty → Duty
owes_all d = record d { closing = d.closing + 1 }

abbrev pub has_woken : Duty → Duty
has_woken d = record d { wakes = d.wakes - 1 }

abbrev pub has_closed : Duty → Duty
has_closed d = record d { closing = d.closing - 1 }

abbrev pub same : Duty → Duty
same d = d

-- it has looked, and owes one look less if it owed one
abbrev pub looked : Duty → Duty
looked d = record d { looks = d.looks - 1 }

-- in place of a look it owes a wake
abbrev pub hands_on : Duty → Duty
hands_on d = record d { looks = d.looks - 1; wakes = d.wakes + 1 }

-- ---- the list
abbrev pub enters : Duty → Duty
enters d = record d { fresh = d.fresh + 1 }

-- it has looked, and is about to leave
abbrev pub done : Duty → Duty
done d = record d { fresh = d.fresh - 1; leaving = d.leaving + 1 }

abbrev pub falls_asleep : Duty → Duty
falls_asleep d = record d { fresh = d.fresh - 1; asleep = d.asleep + 1 }

-- it takes a token, for which it owes a look
abbrev pub wakes_up : Duty → Duty
wakes_up d = record d { looks = d.looks + 1; asleep = d.asleep - 1 }

-- a sleeper stops waiting
abbrev pub gives_up : Duty → Duty
gives_up d = record d { asleep = d.asleep - 1; leaving = d.leaving + 1 }

-- one that owes a look goes without it: it owes a wake in its place
abbrev pub goes_unseen : Duty → Duty
goes_unseen d = record d { fresh = d.fresh - 1; leaving = d.leaving + 1; wakes = d.wakes + 1 }

abbrev pub leaves : Duty → Duty
leaves d = record d { leaving = d.leaving - 1 }

-- it takes a token with it, and owes a wake in its place
abbrev pub leaves_with_token : Duty → Duty
leaves_with_token d = record d { wakes = d.wakes + 1; leaving = d.leaving - 1 }

-- ---- tokens
abbrev pub gives_tokens : {T : Type 0} → ℕ → View T → View T
gives_tokens n v = record v { tokens = record v.tokens { gave = v.tokens.gave + n } }

abbrev pub gives_token : {T : Type 0} → View T → View T
gives_token v = gives_tokens 1 v

abbrev pub takes_token : {T : Type 0} → View T → View T
takes_token v = record v { tokens = record v.tokens { took = v.tokens.took + 1 } }

-- ---- what was seen
abbrev pub sees_taken : {T : Type 0} → ℕ → View T → View T
sees_taken r v = record v { sight = record v.sight { low = r } }

-- how far it saw marks: one more than the position seen marked last, or 0
abbrev pub mark_in : Option ℕ → ℕ
mark_in None = 0
mark_in (Some k) = suc k

abbrev pub marked_to : {T : Type 0} → View T → ℕ
marked_to v = mark_in v.sight.ripe

abbrev pub sees_mark : {T : Type 0} → ℕ → View T → View T
sees_mark k v = record v { sight = record v.sight { ripe = Some k } }

abbrev pub sees_full : {T : Type 0} → View T → View T
sees_full v = record v { sight = record v.sight { full = true } }

abbrev pub sees_cut : {T : Type 0} → View T → View T
sees_cut v = record v { sight = record v.sight { cut = true } }

-- it cut the segment
abbrev pub did_cut : {T : Type 0} → View T → View T
did_cut v = record v { account = record v.account { cut = true }; sight = record v.sight { cut = true } }

-- it saw, after this walk, that all positions were claimed when n were drawn
abbrev pub sees_empty : {T : Type 0} → ℕ → List Event → View T → View T
sees_empty n w v = record v { sight = record v.sight { empty = n; found = v.sight.found + 1; walk = w } }

-- how often it saw that
abbrev pub found_empty : {T : Type 0} → View T → ℕ
found_empty v = v.sight.found

-- when it saw that, all was claimed that it had sent, and the mark that it saw last
abbrev pub SawAllTaken : {T : Type 0} → View T → Type 0
SawAllTaken v = Below v.sight.empty v.account.sent
    × ((p : ℕ) → v.sight.ripe ≡ Some p → p < v.sight.empty)

-- it is told that no value can come any more
abbrev pub told : {T : Type 0} → View T → View T
told v = record v { over = true }

-- position p is behind all that it has learned of, and what it was told rules out no claim, and no draw
abbrev pub MayTake : {T : Type 0} → ℕ → View T → Type 0
MayTake p v = (v.known.taken ≤ p) × (v.over ≡ false)

abbrev pub MaySend : {T : Type 0} → ℕ → View T → Type 0
MaySend p v = (v.known.drawn ≤ p) × (v.sight.full ≡ false) × (v.sight.cut ≡ false) × (v.account.cut ≡ false)
    × (v.over ≡ false)

-- it learned that so many positions are drawn, or claimed
abbrev pub learns_drawn : {T : Type 0} → ℕ → View T → View T
learns_drawn n v = record v { known = record v.known { drawn = n } }

abbrev pub learns_taken : {T : Type 0} → ℕ → View T → View T
learns_taken n v = record v { known = record v.known { taken = n } }

-- ---- the hub
abbrev pub issued : {T : Type 0} → View T → View T
issued v = record v { out = v.out + 1 }

abbrev pub or : Bool → Bool → Bool
or true b = true
or false b = b

-- the hub takes a pass back: it has its account, counts its tokens, and knows whether it was told that no value can come
-- any more, or none can be sent
abbrev pub took_back : {T : Type 0} → View T → View T → View T
took_back v w = record v {
  out = v.out - 1;
  ends = w.account ∷ v.ends;
  tokens = record { gave = v.tokens.gave + w.tokens.gave; took = v.tokens.took + w.tokens.took };
  over = or v.over w.over;
  sight = record v.sight { full = or v.sight.full w.sight.full; cut = or v.sight.cut w.sight.cut };
}

-- whether it was told that the segment is over: all positions are drawn, or it was cut
abbrev pub is_over : {T : Type 0} → View T → Bool
is_over v = v.over || v.sight.full || v.sight.cut

-- ---- a view without its tokens and what it saw, and one that owes nothing
abbrev pub bare : {T : Type 0} → View T → View T
bare v = record v { sight = blind; tokens = no_tokens }

abbrev pub calm : {T : Type 0} → View T → View T
calm v = record blank { account = v.account; known = v.known; over = v.over }

-- the view is a pass's, which owes nothing, has nothing begun and is not in the list
abbrev pub IsCalm : {T : Type 0} → View T → Type 0
IsCalm v = bare v ≡ calm v

-- it sent x at position p, or received it there
abbrev pub sent_at : {T : Type 0} → ℕ → T → View T → View T
sent_at p x v = ended (drew p x v)

abbrev pub got_at : {T : Type 0} → ℕ → T → View T → View T
got_at p x v = ended (took p x v)
