-- The moment that a state of the list and a state of each segment are. Senders and takers have the numbers of their
-- passes there: an end has at most one in each. `laws::passes_make_ends` tells a whole life by the numbers of ends.
use Rattle.std.specs.Prelude.{ℕ, suc, ◌≡◌, ◌+◌, ◌<◌, ◌⊎◌, ◌&&◌, ◌||◌, Bool, true, false, nat_eq, nat_le, nat_lt, if◌then◌else◌}
use Rattle.std.specs.Prelude.{List, [], ◌∷◌, length, map, is_some, slice_index}
use mathlib.Core.Path.{refl}
use mathlib.Core.Option.{some}
use lib.ListN.{get_elem?}
use Rattle.mb_segment.specs.History as seg
use Rattle.mb_segment.specs.Vocabulary.{IsPassOf, IsViewOf, Keeps as SegmentKeeps, SegmentState, claimed_in}
use Rattle.mb_segment.specs.Vocabulary.{closing, hub_view, positions_in, sleeping, total as total_there}
use Rattle.mb_segment.specs.declared.view.Role.{TheVariants.Issuer}
use Rattle.mb_channel.specs.Types.{Account, Home, Knows, View}
use Rattle.mb_channel.specs.ChannelTheorem.{Claim, Entry, History, Moment, Segment, Sleepers}
use Rattle.mb_channel.specs.Homes.{Keeps, came_back, receives, sends, total}
use Rattle.mb_channel.specs.Remembers.{SomeView}
use Rattle.mb_channel.specs.Closing.{AreStates, ListState}

-- ---- a segment
abbrev pub entry_of : {T : Type 0} → seg.Entry T → Entry T
entry_of e = record { by = e.by; value = e.value }

abbrev pub claim_of : {T : Type 0} → seg.Claim T → Claim T
claim_of c = record { entry = entry_of c.entry; to = c.to }

abbrev pub history_of : {T : Type 0} → seg.History T → History T
history_of h = record { claims = map claim_of h.claims; rest = map entry_of h.rest }

-- whoever has just entered the list of sleepers owes a look
abbrev pub looks_and_wakes : {T : Type 0} → View T → ℕ
looks_and_wakes v = v.duty.wakes + v.duty.looks + v.duty.fresh

abbrev pub sleepers_in : {T : Type 0} (s : SegmentState T) → SegmentKeeps s → Sleepers
sleepers_in s k = record {
  asleep = total_there sleeping s.views;
  tokens = k.tokens;
  owed = total_there looks_and_wakes s.views;
  owed_to_all = total_there closing s.views;
}

-- one that may receive there has come, or a value was taken, or somebody sleeps there
abbrev pub is_seen : {T : Type 0} → Bool → SegmentState T → Bool
is_seen came s = came || nat_lt 0 (claimed_in s + total_there sleeping s.views)

abbrev pub starts_visited : {T : Type 0} → List (Segment T) → Bool
starts_visited [] = false
starts_visited (s ∷ ss) = s.is_visited

-- the segment in this state, before those behind it. A receiver comes to one of those only once nothing waits here
abbrev pub segment_in : {T : Type 0} → Bool → (s : SegmentState T) → SegmentKeeps s → List (Segment T) → Segment T
segment_in came s k behind = record {
  history = history_of k.history;
  is_over = nat_le (positions_in s) (slice_index s.words 0);
  is_visited = is_seen came s || starts_visited behind;
  sleepers = sleepers_in s k;
}

-- `came j` says whether one that may receive there has come to segment j
abbrev pub segments_in : {T : Type 0} (hs : List (Home T)) → (ℕ → Bool) → (now : ℕ → SegmentState T)
    → AreStates now hs → List (Segment T)
segments_in [] came now a = []
segments_in (h ∷ hs) came now a =
    segment_in (came 0) (now 0) (a 0 h refl).0 (segments_in hs (λ j. came (suc j)) (λ j. now (suc j)) (λ j. a (suc j)))
    ∷ segments_in hs (λ j. came (suc j)) (λ j. now (suc j)) (λ j. a (suc j))

-- ---- the ends
abbrev pub some_view : {T : Type 0} → (Knows T → Bool) → List (Knows T) → Bool
some_view p [] = false
some_view p (v ∷ vs) = p v || some_view p vs

-- it may receive where it is, and that is segment j or behind it. (An end that has no pass there yet counts too)
abbrev pub has_come : {T : Type 0} → ℕ → Knows T → Bool
has_come j v = v.takes && nat_le j v.at

-- it was told how many segments there are, for ever
abbrev pub knows_last : {T : Type 0} → Knows T → Bool
knows_last v = is_some v.last

-- it knows that the list is closed, or that no sender is left
abbrev pub knows_shut : {T : Type 0} → Knows T → Bool
knows_shut v = v.shut || v.alone

-- in each segment, some pass was told that no value can come there any more
abbrev pub all_done : {T : Type 0} → List (Home T) → Bool
all_done [] = true
all_done (h ∷ hs) = (hub_view h.hub).over && all_done hs

-- Whoever closes the list or takes the last sender away knows it. Unless it is dropped, it cuts the last segment, and is
-- then told how many segments there are. Until an end is told that, `closers` counts all ends that know that the list is
-- closed or has no sender. Those that only saw it count too, and those that were dropped since. A receive answers "closed"
-- only to an end that was told so, behind segments that are done. A send answers it only to an end that knows that the list
-- is closed. So both may be said here before any call answered it. Neither is forgotten when that end is given back
abbrev pub moment_of : {T : Type 0} (c : ListState T) (k : Keeps c) (now : ℕ → SegmentState T)
    → AreStates now k.homes → Moment T
moment_of c k now a = record {
  segments = segments_in k.homes (λ j. some_view (has_come j) c.views) now a;
  senders = total sends c.views;
  receivers = total receives c.views;
  is_closed = nat_eq k.mark 0;
  closers = if some_view knows_last c.views then 0 else total (λ v. if knows_shut v then 1 else 0) c.views;
  is_told = some_view knows_last c.views && all_done k.homes;
  is_refused = some_view (λ v. v.shut) c.views;
}

-- ---- what the types of ends keep, and no rule can see
abbrev pub TookNothing : {T : Type 0} → View T → Type 0
TookNothing v = (v.account.got ≡ []) × (v.duty.asleep ≡ 0)

-- an end is at segment j, and may receive there
abbrev pub HasReceiver : {T : Type 0} → List (Knows T) → ℕ → Type 0
HasReceiver views j = SomeView (λ v. (v.takes ≡ true) × (v.at ≡ j)) views

-- Only ends that may receive in a segment take values there, or sleep. The types of ends say so: an end's pass is of the
-- segment where it is (`inside_` and `place` of `End` and `KeptSender`, `inside` and `place` of `Debtor`). If it may not
-- receive there, its pass took nothing (`poor`), and only calls that require `takes` sleep
pub record OnlyReceiversTake {T : Type 0} (views : List (Knows T)) (now : ℕ → SegmentState T) (hs : List (Home T)) : Type 0 where
  -- of passes that are out
  pub out : (j n : ℕ) (v : View T) → j < length hs → IsPassOf (now j) n v → TookNothing v ⊎ HasReceiver views j
  -- of passes that came back: the home knows of each, or of all but the one that an end with the lock just gave back
  pub back : (j : ℕ) (h : Home T) → get_elem? hs j ≡ some h → (n : ℕ) × (w : View T) × IsViewOf (now j) n w
      × (w.role ≡ Issuer) × ((w.ends ≡ came_back h)
      ⊎ ((a : Account T) × (w.ends ≡ a ∷ came_back h) × ((a.got ≡ []) ⊎ HasReceiver views j)))
