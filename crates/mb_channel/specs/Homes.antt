-- The list of segments under the channel's lock, and which end did what in which segment.
-- Words: 0 the lock, 1 to 3 how many ends, senders and receivers the ends count, 4 the mark: 0 once closed. Slot 0: segments.
use Rattle.std.specs.Prelude.{ℕ, suc, ◌≡◌, ◌≢◌, ◌+◌, ◌-◌, ◌<◌, ◌≤◌, ◌⊎◌, ◌++◌, ◌&&◌, ◌||◌, Bool, true, false, nat_eq, if◌then◌else◌}
use Rattle.std.specs.Prelude.{List, [], ◌∷◌, length, slice_set, Option, Some, None}
use mathlib.Core.Option.{some, none}
use lib.ListN.{get_elem?}
use Rattle.atomic_table.specs.Table.{Allows, Me, State, Step, step}
use Rattle.atomic_table.specs.declared.shared.Seat.{Seat}
use Rattle.mb_channel.specs.Types.{Account, Arc, Global, Home, Homes, Knows, Pass, Past, Segment, View, arc_value}
use Rattle.mb_channel.specs.Remembers.{Remembers}
pub use Rattle.mb_channel.specs.Visits.{AllMade, AllPast, AreNamed, Falls, HasNames, Made, TellsFates, made_by, made_in}
use Rattle.mb_segment.specs.Vocabulary.{IsWhole as SegmentIsWhole, hub_view, is_over, issued, new_hub, took_back}

-- ---- the segments
-- what the segment's hub knows of the passes that came back, and whether one of them saw that no value can come any more
abbrev pub came_back : {T : Type 0} → Home T → List (Account T)
came_back h = (hub_view h.hub).ends

abbrev pub IsDone : {T : Type 0} → Home T → Type 0
IsDone h = (hub_view h.hub).over ≡ true

-- the hub knows that the segment is over: nothing can be sent there any more
abbrev pub IsOver : {T : Type 0} → Home T → Type 0
IsOver h = is_over (hub_view h.hub) ≡ true

-- how many of its passes are out
abbrev pub out_of : {T : Type 0} → Home T → ℕ
out_of h = (hub_view h.hub).out

-- its segment could be freed: no value can come any more, no pass is out, and nothing was left. `came_back h` stays known
pub record IsFreed {T : Type 0} (h : Home T) : Type 0 where
  pub done : IsDone h
  pub back : out_of h ≡ 0
  pub whole : SegmentIsWhole (came_back h) []

abbrev pub AllHomes : {T : Type 0} → (Home T → Type 0) → List (Home T) → Type 0
AllHomes P [] = Unit {0}
AllHomes P (h ∷ hs) = P h × AllHomes P hs

-- of all segments that there ever were, the oldest are freed, and the others are in the list
pub record Stands {T : Type 0} (hs : List (Home T)) (l : Homes T) : Type 0 where
  pub gone : List (Home T)
  pub all : hs ≡ gone ++ l.list.items
  pub number : length gone ≡ l.first
  pub freed : AllHomes IsFreed gone

-- segment k is there, and P holds of it
abbrev pub At : {T : Type 0} → List (Home T) → ℕ → (Home T → Type 0) → Type 0
At {T} hs k P = (h : Home T) × (get_elem? hs k ≡ some h) × P h

-- each segment before k is done: nothing waits there, for ever
abbrev pub IsNext : {T : Type 0} → List (Home T) → ℕ → Type 0
IsNext hs k = (j : ℕ) → j < k → At hs j IsDone

-- each segment before k is over
abbrev pub AreOver : {T : Type 0} → List (Home T) → ℕ → Type 0
AreOver hs k = (j : ℕ) → j < k → At hs j IsOver

-- nothing can be sent in any segment but the last
abbrev pub AreLed : {T : Type 0} → List (Home T) → Type 0
AreLed hs = (j : ℕ) → suc j < length hs → At hs j IsOver

-- segment k is there, or it may be the next one
abbrev pub IsNear : {T : Type 0} → List (Home T) → ℕ → Type 0
IsNear {T} hs k = (k ≡ 0) ⊎ ((j : ℕ) × (suc j ≡ k) × At hs j (λ _. Unit {0}))

-- the later list has the same segments, and what was done or over still is
abbrev pub Grows : {T : Type 0} → List (Home T) → List (Home T) → Type 0
Grows {T} hs gs = (k : ℕ) (h : Home T) → get_elem? hs k ≡ some h
    → At gs k (λ g. (g.segment ≡ h.segment) × (IsDone h → IsDone g) × (IsOver h → IsOver g))

-- the hubs know just the visits
pub record Agrees {T : Type 0} (hs : List (Home T)) (all : List (Made T)) : Type 0 where
  pub here : (k : ℕ) (h : Home T) → get_elem? hs k ≡ some h → came_back h ≡ made_in k all
  pub none_behind : (k : ℕ) → length hs ≤ k → made_in k all ≡ []
  pub turn : AllMade (λ m. (m.visit.account.got ≡ []) ⊎ IsNext hs m.visit.segment) all

-- ---- the views
abbrev pub first_view : {T : Type 0} → Knows T
first_view = record {
  rights = 1;
  sends = 1;
  receives = 1;
  live = false;
  number = 0;
  name = 0;
  visits = [];
  gave = 0;
  inside = false;
  at = 0;
  place = None;
  takes = true;
  orderly = true;
  ended = [];
  holds = false;
  before = [];
  is_open = false;
  may_add = false;
  alone = false;
  shut = false;
  last = None;
  found = 0;
  lengths = [];
  fates = [];
}

abbrev pub spent_view : {T : Type 0} → Knows T
spent_view = record first_view { rights = 0; sends = 0; receives = 0 }

abbrev pub total : {T : Type 0} → (Knows T → ℕ) → List (Knows T) → ℕ
total f [] = 0
total f (v ∷ vs) = f v + total f vs

abbrev pub rights : {T : Type 0} → Knows T → ℕ
rights v = v.rights

abbrev pub sends : {T : Type 0} → Knows T → ℕ
sends v = v.sends

abbrev pub receives : {T : Type 0} → Knows T → ℕ
receives v = v.receives

-- the words but the lock
abbrev pub tallies : {T : Type 0} → List (Knows T) → ℕ → List ℕ
tallies views mark = total rights views ∷ total sends views ∷ total receives views ∷ mark ∷ []

-- the list is closed, or no sender is left
abbrev pub IsShut : {T : Type 0} → ℕ → List (Knows T) → Type 0
IsShut mark views = (mark ≡ 0) ⊎ (total sends views ≡ 0)

-- no end was told that the list never grows any more
abbrev pub NobodyTold : {T : Type 0} → List (Knows T) → Type 0
NobodyTold {T} views = (id : ℕ) (v : Knows T) → get_elem? views id ≡ some v → v.last ≡ None

-- what a view says of the senders, the mark, and the segments, is so
pub record FitsEnd {T : Type 0} (hs : List (Home T)) (mark : ℕ) (views : List (Knows T)) (v : Knows T) : Type 0 where
  pub is_open : v.is_open ≡ true → (v.holds ≡ true) × (0 < mark)
  pub may_add : v.may_add ≡ true → (v.is_open ≡ true) × NobodyTold views
  pub alone : v.alone ≡ true → total sends views ≡ 0
  pub shut : v.shut ≡ true → mark ≡ 0
  pub over : v.orderly ≡ true → AreOver hs v.at
  pub last : (n : ℕ) → v.last ≡ Some n → (length hs ≡ n) × IsShut mark views × AreOver hs n

-- 1 for an end that has a pass of segment k
abbrev pub is_in : {T : Type 0} → ℕ → Knows T → ℕ
is_in k v = if v.inside then (if nat_eq v.at k then 1 else 0) else 0

-- the visits that an end knows of, its own and those of the ends given back to it. One of end n counts f n
abbrev pub times : {A : Type 0} → ℕ → List A → ℕ
times n [] = 0
times n (x ∷ xs) = n + times n xs

abbrev pub past_count : {T : Type 0} → (ℕ → ℕ) → List (Past T) → ℕ
past_count f [] = 0
past_count f (p ∷ ps) = times (f p.number) p.visits + past_count f ps

-- how many of them have this number
abbrev pub how_many : {T : Type 0} → ℕ → List (Past T) → ℕ
how_many n [] = 0
how_many n (p ∷ ps) = (if nat_eq p.number n then 1 else 0) + how_many n ps

abbrev pub count : {T : Type 0} → (ℕ → ℕ) → Knows T → ℕ
count f v = times (f v.number) v.visits + past_count f v.ended

abbrev pub made_count : {T : Type 0} → (ℕ → ℕ) → List (Made T) → ℕ
made_count f [] = 0
made_count f (m ∷ ms) = f m.by + made_count f ms

-- the end was given back
abbrev pub IsSpent : {T : Type 0} → List (Knows T) → ℕ → Type 0
IsSpent {T} views n = (w : Knows T) × (get_elem? views n ≡ some w) × (w.rights ≡ 0)

abbrev pub PastFits : {T : Type 0} → List (Made T) → List (Knows T) → Past T → Type 0
PastFits all views p = (p.visits ≡ made_by p.number all) × ((b : ℕ) × Falls b p.visits) × IsSpent views p.number

-- a share of this segment
abbrev pub IsShare : {T : Type 0} → Option (Arc (Segment T Global) Global) → Home T → Type 0
IsShare {T} place h = (s : Arc (Segment T Global) Global) × (place ≡ Some s) × (arc_value s ≡ arc_value h.segment)

-- where an end is: it has a share of that segment
abbrev pub IsIn : {T : Type 0} → List (Home T) → Knows T → Type 0
IsIn hs v = At hs v.at (IsShare v.place)

-- number id's view
pub record Fits {T : Type 0} (hs : List (Home T)) (all : List (Made T)) (views : List (Knows T)) (id : ℕ)
    (v : Knows T) : Type 0 where
  pub named : v.live ≡ true → (v.number ≡ id) × (v.visits ≡ made_by id all)
  pub falls : Falls v.at v.visits
  pub names : HasNames v
  pub near : IsNear hs v.at
  pub inside : v.inside ≡ true → IsIn hs v
  pub takes : v.takes ≡ true → IsNext hs v.at
  pub newborn : v.live ≡ false → (v.visits ≡ []) × (v.ended ≡ []) × (v.inside ≡ false) × (0 < v.rights
      → made_by id all ≡ [])
  pub idle : v.rights ≡ 0 → v ≡ spent_view
  pub ended : AllPast (PastFits all views) v.ended

abbrev pub NobodyHolds : {T : Type 0} → List (Knows T) → Type 0
NobodyHolds {T} views = (id : ℕ) (v : Knows T) → get_elem? views id ≡ some v → v.holds ≡ false

-- only this end has the lock, and it knows the list
abbrev pub OneHolds : {T : Type 0} → List (Knows T) → List (Home T) → ℕ → Type 0
OneHolds {T} views hs holder = (id : ℕ) (v : Knows T) → get_elem? views id ≡ some v → v.holds ≡ true
    → (id ≡ holder) × (v.before ≡ hs)

abbrev pub IsFree : {T : Type 0} → State (Homes T) (Knows T) → List (Home T) → ℕ → Type 0
IsFree {T} s hs mark = (l : Homes T) × (s.words ≡ 0 ∷ tallies s.views mark) × (s.homes ≡ some l ∷ []) × Stands hs l
    × NobodyHolds s.views

abbrev pub IsHeld : {T : Type 0} → State (Homes T) (Knows T) → List (Home T) → ℕ → Type 0
IsHeld s hs mark = (holder : ℕ) × (s.words ≡ 1 ∷ tallies s.views mark) × (s.homes ≡ none ∷ []) × OneHolds s.views hs holder

pub record Keeps {T : Type 0} (s : State (Homes T) (Knows T)) : Type 0 where
  pub homes : List (Home T)
  pub all : List (Made T)
  pub mark : ℕ
  pub lock : IsFree s homes mark ⊎ IsHeld s homes mark
  pub leads : AreLed homes
  pub agrees : Agrees homes all
  pub crowd : (k : ℕ) (h : Home T) → get_elem? homes k ≡ some h → out_of h ≡ total (is_in k) s.views
  pub balance : (f : ℕ → ℕ) → total (count f) s.views ≡ made_count f all
  pub once : (n : ℕ) → total (λ v. how_many n v.ended) s.views ≤ 1
  pub fresh : (n : ℕ) → length s.views ≤ n → made_by n all ≡ []
  pub fits : (id : ℕ) (v : Knows T) → get_elem? s.views id ≡ some v → Fits homes all s.views id v
  pub told : (id : ℕ) (v : Knows T) → get_elem? s.views id ≡ some v → FitsEnd homes mark s.views v
  pub known : Remembers mark (total sends s.views) s.views

-- ---- what a step does to a view
abbrev pub view_in : {T : Type 0} → Seat (Homes T) (Knows T) → Knows T
view_in p = p.me.0

abbrev pub Sat : Type 0 → Type 0
Sat T = Me (Homes T) (Knows T)

abbrev pub locked : {T : Type 0} → List (Home T) → Knows T → Knows T
locked hs v = record v { holds = true; before = hs }

abbrev pub unlocked : {T : Type 0} → Knows T → Knows T
unlocked v = record v { holds = false; before = []; is_open = false; may_add = false }

abbrev pub past_of : {T : Type 0} → Knows T → Past T
past_of v = record { number = v.number; name = v.name; visits = v.visits }

abbrev pub told_or : Option ℕ → Option ℕ → Option ℕ
told_or None b = b
told_or (Some n) b = Some n

abbrev pub both : {T : Type 0} → Knows T → Knows T → Knows T
both v w = record v {
  rights = v.rights + w.rights;
  sends = v.sends + w.sends;
  receives = v.receives + w.receives;
  ended = v.ended ++ (past_of w ∷ w.ended);
  alone = v.alone || w.alone;
  shut = v.shut || w.shut;
  last = told_or v.last w.last;
}

-- a new end begins where its maker is, counts for so many senders and receivers, and knows as much of the list's end
abbrev pub newborn_view : {T : Type 0} → ℕ → ℕ → Knows T → Knows T
newborn_view a b v = record first_view {
  at = v.at;
  takes = v.takes;
  orderly = v.orderly;
  sends = a;
  receives = b;
  alone = v.alone;
  shut = v.shut;
  last = v.last;
}

-- the maker of one that counts for them in its place
abbrev pub splits_off : {T : Type 0} → ℕ → ℕ → Knows T → Knows T
splits_off a b v = record v { rights = v.rights - 1; sends = v.sends - a; receives = v.receives - b }

-- it has left its segment. If that is done, it may receive in the next one if it could in that. It was orderly only if the
-- pass was told that the segment is over
abbrev pub left_segment : {T : Type 0} → View T → Bool → Knows T → Knows T
left_segment x done v = record v {
  visits = record { segment = v.at; account = x.account } ∷ v.visits;
  gave = v.gave + x.tokens.gave;
  inside = false;
  at = suc v.at;
  takes = v.takes && done;
  orderly = v.orderly && is_over x;
}

-- it goes on to segment k (`GoesOnTo`), and may receive there or not
abbrev pub went_on : {T : Type 0} → ℕ → Bool → Knows T → Knows T
went_on k b v = record v { at = k; takes = b }

-- it has come to its segment, of which this is its share, and may receive there or not
abbrev pub came_to : {T : Type 0} → Arc (Segment T Global) Global → Bool → Knows T → Knows T
came_to s b v = record v { inside = true; place = Some s; takes = b }

-- a pass of segment k is out
abbrev pub IsBusy : {T : Type 0} → List (Home T) → ℕ → Type 0
IsBusy hs k = At hs k (λ h. 0 < out_of h)

-- what an end finds in the list. While it has a pass of a segment, that is not freed
abbrev pub Finds : {T : Type 0} → List (Home T) → Knows T → Type 0
Finds hs v = IsNear hs v.at × (v.inside ≡ true → IsIn hs v × IsBusy hs v.at) × (v.takes ≡ true → IsNext hs v.at)

-- ---- what a step tells
abbrev pub takes_lock : {T : Type 0} → Step (Homes T) → Sat T → ℕ → Sat T → Type 0
takes_lock {T} st m r n = (r ≡ 0 → (l : Homes T) × (hs : List (Home T)) × Stands hs l
    × (n ≡ (locked hs m.0, (0, l) ∷ m.1)) × Finds hs m.0)
    × (r ≢ 0 → n ≡ m)

abbrev pub gives_lock : {T : Type 0} → (Knows T → Knows T) → Step (Homes T) → Sat T → ℕ → Sat T → Type 0
gives_lock f st m r n = (n.0 ≡ f (unlocked m.0)) × (n.1 ≡ []) × (n.0.found ≡ m.0.found) × (n.0.lengths ≡ m.0.lengths)
    × (n.0.fates ≡ m.0.fates)

-- giving the lock back keeps the rule, whatever the other ends do
abbrev pub MayGive : {T : Type 0} → (Knows T → Knows T) → ℕ → ℕ → Sat T → Type 0
MayGive f slots id me = Allows Keeps slots id me 0 (λ _. 0) (λ _. gives_lock f (step slots 0 0 0 none) me 0)

-- ---- what a hub did under the lock
-- it took back a pass with this view, and knows that much more
abbrev pub HasTakenBack : {T : Type 0} → Home T → Home T → View T → Type 0
HasTakenBack h g v = (g.segment ≡ h.segment) × (hub_view g.hub ≡ took_back (hub_view h.hub) v)

-- it issued this pass, with a share of the segment, and knows no more than before
abbrev pub HasIssued : {T : Type 0} → Home T → Home T → Arc (Segment T Global) Global → Pass T → Type 0
HasIssued h g s p = (g.segment ≡ h.segment) × (hub_view g.hub ≡ issued (hub_view h.hub))
    × (arc_value s ≡ arc_value g.segment) × (p.seat.table_id ≡ g.hub.seat.table_id)

-- the home at k has changed so
abbrev pub Changes : {T : Type 0} → List (Home T) → List (Home T) → ℕ → (Home T → Home T → Type 0) → Type 0
Changes {T} hs gs k P = (h : Home T) × (g : Home T) × (get_elem? hs k ≡ some h) × (gs ≡ slice_set hs k g) × P h g

abbrev pub IsNew : {T : Type 0} → Home T → Type 0
IsNew h = hub_view h.hub ≡ new_hub

-- the list, with a new segment at place k
abbrev pub Longer : {T : Type 0} → ℕ → List (Home T) → List (Home T) → Type 0
Longer {T} k hs gs = (h : Home T) × IsNew h × (gs ≡ hs ++ h ∷ []) × (length hs ≡ k)

-- an end that has the lock may leave the list as it was, or, if it may add and was orderly, longer by one at its place
abbrev pub MayLeave : {T : Type 0} → Knows T → List (Home T) → Type 0
MayLeave v hs = (hs ≡ v.before) ⊎ ((v.may_add ≡ true) × (v.orderly ≡ true) × Longer v.at v.before hs)

-- the pass is of this segment
abbrev pub IsPassOf : {T : Type 0} → Option (Arc (Segment T Global) Global) → Pass T → Type 0
IsPassOf {T} place p = (s : Arc (Segment T Global) Global) × (place ≡ Some s) × (p.seat.table_id ≡
    (arc_value s).table.shared.table_id)

-- the view of an end that has done nothing
abbrev pub IsFirst : {T : Type 0} → Knows T → Type 0
IsFirst v = (v.rights ≡ 1) × (v.visits ≡ []) × (v.ended ≡ []) × (v.inside ≡ false)

-- ---- at the end
abbrev pub IsNone : {T : Type 0} → ℕ → List (Past T) → Type 0
IsNone n [] = Unit {0}
IsNone n (p ∷ ps) = (p.number ≢ n) × IsNone n ps

-- once an end has taken back all others: what each did in which segment is what the hubs know, and nobody else did
-- anything. No two of the ends have the same number. Nothing could be sent in any segment but the last. If the last end
-- has left its own, no pass is out
pub record IsWhole {T : Type 0} (v : Knows T) (hs : List (Home T)) : Type 0 where
  pub all : List (Made T)
  pub leads : AreLed hs
  pub agrees : Agrees hs all
  pub own : (v.visits ≡ made_by v.number all) × Falls v.at v.visits
  pub others : AllPast (λ p. (p.visits ≡ made_by p.number all) × ((b : ℕ) × Falls b p.visits)) v.ended
  pub once : (n : ℕ) → how_many n (past_of v ∷ v.ended) ≤ 1
  pub nobody : (n : ℕ) → v.number ≢ n → IsNone n v.ended → made_by n all ≡ []
  pub empty : v.inside ≡ false → AllHomes (λ h. out_of h ≡ 0) hs

-- the seat has the list, of which this holds
abbrev pub HoldsHomes : {T : Type 0} → Sat T → (List (Home T) → Type 0) → Type 0
HoldsHomes {T} m P = (l : Homes T) × (m.1 ≡ (0, l) ∷ []) × (hs : List (Home T)) × Stands hs l × P hs

-- the end has a number, and not the lock
abbrev pub IsReady : {T : Type 0} → Sat T → Type 0
IsReady m = (m.0.live ≡ true) × (m.0.holds ≡ false) × (m.0.before ≡ []) × (m.1 ≡ []) × (m.0.is_open ≡ false)
    × (m.0.may_add ≡ false)
