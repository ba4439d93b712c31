-- How a step changes a view.
use Rattle.std.specs.Prelude.{List, None, Some, [], false, max, suc, true, ℕ, ◌+◌, ◌++◌, ◌-◌, ◌<◌, ◌∷◌, ◌≡◌, ◌≤◌, ◌⊎◌}
use Rattle.mb_segment.specs.History.{spot}
use Rattle.mb_segment.specs.Heard.{Below}
use Rattle.mb_segment.specs.Moves.{mark_in, or, owes_all}
use Rattle.mb_ring.specs.Types.{Duties, Duty, Event, Member, Nothing, Reads, Room, Tallies, Tokens, Values, View, Want, Writes}
use Rattle.mb_ring.specs.Passes.{blank, blind, no_tallies}

-- what is owed for one list changes. What a step does to a duty is told for a segment
abbrev pub on : Want → (Duty → Duty) → Duties → Duties
on Values f d = record d { values = f d.values }
on Room f d = record d { room = f d.room }

abbrev pub with_duty : {T : Type 0} → Want → (Duty → Duty) → View T → View T
with_duty q f v = record v { duty = on q f v.duty }

-- it owes a token to each that waits, for values and for room
abbrev pub owes_both : {T : Type 0} → View T → View T
owes_both v = with_duty Room owes_all (with_duty Values owes_all v)

-- a sender that found the ring full sleeps, and has still to look whether it is cut
abbrev pub dozes : Duty → Duty
dozes d = record d { fresh = d.fresh - 1; asleep = d.asleep + 1; closing = d.closing + 1 }

-- one in the list is about to leave a ring that is cut, and owes a token to each that waits
abbrev pub done_with_all : Duty → Duty
done_with_all d = record d { fresh = d.fresh - 1; leaving = d.leaving + 1; closing = d.closing + 1 }

-- ---- tokens
abbrev pub tallied : Want → (Tokens → Tokens) → Tallies → Tallies
tallied Values f t = record t { values = f t.values }
tallied Room f t = record t { room = f t.room }

abbrev pub gives_tokens : {T : Type 0} → Want → ℕ → View T → View T
gives_tokens q n v = record v { tokens = tallied q (λ t. record t { gave = t.gave + n }) v.tokens }

abbrev pub gives_token : {T : Type 0} → Want → View T → View T
gives_token q v = gives_tokens q 1 v

abbrev pub takes_token : {T : Type 0} → Want → View T → View T
takes_token q v = record v { tokens = tallied q (λ t. record t { took = t.took + 1 }) v.tokens }

-- ---- positions
-- it drew position p for the value x, which counts as sent
abbrev pub drew : {T : Type 0} → ℕ → T → View T → View T
drew p x v = record v {
  account = record v.account {
    sent = v.account.sent ++ spot p x ∷ [];
    sent_knew = v.account.sent_knew ++ v.known.drawn ∷ [];
  };
  known = record v.known { drawn = suc p };
  half = Writes (spot p x);
}

abbrev pub took : {T : Type 0} → ℕ → T → View T → View T
took p x v = record v {
  account = record v.account {
    got = v.account.got ++ spot p x ∷ [];
    got_knew = v.account.got_knew ++ v.known.taken ∷ [];
  };
  known = record { drawn = max v.known.drawn (suc p); taken = suc p };
  half = Reads (spot p x);
}

-- it has marked the position, or read it
abbrev pub ended : {T : Type 0} → View T → View T
ended v = record v { half = Nothing }

-- ---- what was seen
-- a view without the numbers that it loaded last
abbrev pub bare : {T : Type 0} → View T → View T
bare v = record v { sight = record v.sight { low = 0; top = 0; room = None } }

abbrev pub sees_drawn : {T : Type 0} → ℕ → View T → View T
sees_drawn r v = record v { sight = record v.sight { top = r } }

abbrev pub sees_taken : {T : Type 0} → ℕ → View T → View T
sees_taken r v = record v { sight = record v.sight { low = r } }

-- the slot of position k was free for it
abbrev pub sees_room : {T : Type 0} → ℕ → View T → View T
sees_room k v = record v { sight = record v.sight { room = Some k } }

abbrev pub sees_mark : {T : Type 0} → ℕ → View T → View T
sees_mark k v = record v { sight = record v.sight { ripe = Some k } }

-- how far it saw marks: one more than the position seen marked last, or 0
abbrev pub marked_to : {T : Type 0} → View T → ℕ
marked_to v = mark_in v.sight.ripe

abbrev pub sees_cut : {T : Type 0} → View T → View T
sees_cut v = record v { sight = record v.sight { cut = true } }

-- it cut the ring
abbrev pub did_cut : {T : Type 0} → View T → View T
did_cut v = record v { account = record v.account { cut = true }; sight = record v.sight { cut = true } }

-- it saw, after this walk, that all positions were claimed when n were drawn
abbrev pub sees_empty : {T : Type 0} → ℕ → List Event → View T → View T
sees_empty n w v =
    record v { sight = record v.sight { empty = n; empty_looks = v.sight.empty_looks + 1; empty_walk = w } }

-- how often it saw that
abbrev pub found_empty : {T : Type 0} → View T → ℕ
found_empty v = v.sight.empty_looks

-- it saw, after this walk, that all slots had values that wait when t positions were claimed
abbrev pub sees_full : {T : Type 0} → ℕ → List Event → View T → View T
sees_full t w v =
    record v { sight = record v.sight { full = Some t; full_looks = v.sight.full_looks + 1; full_walk = w } }

abbrev pub found_full : {T : Type 0} → View T → ℕ
found_full v = v.sight.full_looks

-- when it saw the ring empty, all was claimed that it had sent, and the mark that it saw last. True of a pass that sent
-- nothing and saw no mark
abbrev pub SawAllTaken : {T : Type 0} → View T → Type 0
SawAllTaken v = Below v.sight.empty v.account.sent
    × ((p : ℕ) → v.sight.ripe ≡ Some p → p < v.sight.empty)

-- when it saw the ring full, all was counted as claimed that it had received. True of a pass that received nothing
abbrev pub SawAllGot : {T : Type 0} → View T → Type 0
SawAllGot v = (t : ℕ) → v.sight.full ≡ Some t → Below t v.account.got

-- a call began with view v and has view w now. In it the pass saw the ring empty, and then at least as many were drawn as
-- it had known of
abbrev pub SawEmpty : {T : Type 0} → View T → View T → Type 0
SawEmpty v w = SawAllTaken w × (v.known.drawn ≤ w.sight.empty) × (found_empty v < found_empty w)

-- in it the pass saw the ring of n slots full, and then at least as many were claimed and drawn as it had known of
abbrev pub SawFull : {T : Type 0} → ℕ → View T → View T → Type 0
SawFull n v w = (t : ℕ) × (w.sight.full ≡ Some t) × SawAllGot w × (v.known.taken ≤ t) × (v.known.drawn ≤ t + n)
    × (found_full v < found_full w)

-- it found the ring of n slots cut, at once or after it had seen the ring full
abbrev pub FoundCut : {T : Type 0} → ℕ → View T → View T → Type 0
FoundCut n v w = (bare w ≡ bare (sees_cut v))
    ⊎ ((t : ℕ) × (walk : List Event) × (bare w ≡ bare (sees_cut (sees_full t walk v))) × SawAllGot w
    × (v.known.taken ≤ t) × (v.known.drawn ≤ t + n))

-- it is told that no value can come any more
abbrev pub told : {T : Type 0} → View T → View T
told v = record v { over = true }

-- it was told that the ring is cut, or that no value can come any more; or it is a pass's, which cut the ring
abbrev pub KnowsCut : {T : Type 0} → View T → Type 0
KnowsCut v = (v.sight.cut ≡ true) ⊎ (v.over ≡ true) ⊎ ((v.role ≡ Member) × (v.account.cut ≡ true))

-- the view is a pass's, which was told that no value can come any more
abbrev pub KnowsOver : {T : Type 0} → View T → Type 0
KnowsOver v = (v.role ≡ Member) × (v.over ≡ true)

-- what it was told rules out no claim, and no draw
abbrev pub MayTake : {T : Type 0} → View T → Type 0
MayTake v = v.over ≡ false

abbrev pub MaySend : {T : Type 0} → View T → Type 0
MaySend v = (v.sight.cut ≡ false) × (v.account.cut ≡ false) × (v.over ≡ false)

-- ---- the hub
abbrev pub issued : {T : Type 0} → View T → View T
issued v = record v { out = v.out + 1 }

-- the tokens of two
abbrev pub counted : Tokens → Tokens → Tokens
counted t u = record { gave = t.gave + u.gave; took = t.took + u.took }

-- the hub takes a pass back: it has its account, counts its tokens, and knows whether it was told that no value can
-- come any more
abbrev pub took_back : {T : Type 0} → View T → View T → View T
took_back v w = record v {
  out = v.out - 1;
  ends = w.account ∷ v.ends;
  tokens = record { values = counted v.tokens.values w.tokens.values; room = counted v.tokens.room w.tokens.room };
  over = or v.over w.over;
}

-- ---- a view without its tokens, one also without all that it saw, and a view at rest
abbrev pub uncounted : {T : Type 0} → View T → View T
uncounted v = record v { tokens = no_tallies }

abbrev pub calm : {T : Type 0} → View T → View T
calm v = record blank { account = v.account; known = v.known; over = v.over }

abbrev pub blinded : {T : Type 0} → View T → View T
blinded v = record v { sight = blind; tokens = no_tallies }

-- the view is a pass's, which owes nothing, has nothing begun and is not in the list
abbrev pub IsCalm : {T : Type 0} → View T → Type 0
IsCalm v = blinded v ≡ calm v

-- it sent x at position p, or received it there
abbrev pub sent_at : {T : Type 0} → ℕ → T → View T → View T
sent_at p x v = ended (drew p x v)

abbrev pub got_at : {T : Type 0} → ℕ → T → View T → View T
got_at p x v = ended (took p x v)
