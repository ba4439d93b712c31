-- The rule of a ring: its words, slots and views agree with one history.
-- Words: 0 how many positions are drawn, with the top bit once the ring is cut; 1 how many are claimed; 2 the list of
-- those that wait for values, and 3 of those that wait for room: in its low half the tokens that were given and not
-- taken, in its high half those without a token; then one of each slot.
use Rattle.std.specs.Prelude.{List, Option, Some, [], false, length, true, ℕ, ◌+◌, ◌-◌, ◌*◌, ◌<◌, ◌∷◌, ◌≡◌, ◌≢◌, ◌≤◌}
use mathlib.Core.Option.{some}
use lib.ListN.{get_elem?}
use Rattle.atomic_table.specs.Table.{State}
use Rattle.mb_segment.specs.History.{History, cuts_by, drawn, got_by, has_cut, sent_by, taken}
use Rattle.mb_segment.specs.Walk.{AreTrue, GoesOn, draws, times_empty, times_full, waiting_after}
use Rattle.mb_segment.specs.Heard.{AllHeed}
use Rattle.mb_segment.specs.Passes.{Distinct, In, Match}
use Rattle.mb_segment.specs.Sleeping.{Quiet, Shut, free}
use Rattle.mb_ring.specs.Types.{Event, FoundEmpty, FoundFull, Issuer, Member, Nothing, Room, Sight, Spent, Values, View, Want}
use Rattle.mb_ring.specs.Passes.{closing, listed, member, no_duties, out, owed, sleeping, tokens_given, tokens_taken, total}
use Rattle.mb_ring.specs.Slots.{HalfFits, Taken, Undrawn, Waiting, turn}

-- the view of a pass that is out: its account is the history's, and it is neither the hub nor one that came back
pub record IsMember {T : Type 0} (h : History T) (hub : ℕ) (roll : List ℕ) (i : ℕ) (v : View T) : Type 0 where
  pub sent : v.account.sent ≡ sent_by i h
  pub got : v.account.got ≡ got_by i h
  pub cut : v.account.cut ≡ has_cut i h
  pub no_hub : i ≢ hub
  pub not_back : In i roll → ⊥

-- the hub's view: it has the accounts of those that came back
pub record IsHub {T : Type 0} (h : History T) (hub : ℕ) (roll : List ℕ) (i : ℕ) (v : View T) : Type 0 where
  pub here : i ≡ hub
  pub ends : Match h roll v.ends
  pub nothing : v.half ≡ Nothing
  pub idle : (v.account.sent ≡ []) × (v.account.got ≡ [])

-- what the view's pass has learned of is so, and each account that the view has heeds what was known
abbrev pub Heard : {T : Type 0} → History T → View T → Type 0
Heard h v = (v.known.drawn ≤ drawn h) × (v.known.taken ≤ taken h) × AllHeed (v.account ∷ v.ends)

-- what a pass saw is so. `n` is the number of slots, and `cut` is not 0 once the ring is cut
pub record SightFits {T : Type 0} (h : History T) (n : ℕ) (states : List ℕ) (cut : ℕ) (x : Sight) : Type 0 where
  pub low : x.low ≤ taken h
  pub top : x.top ≤ drawn h
  pub room : (k : ℕ) → x.room ≡ Some k → 2 * k ≤ turn n states k
  pub ripe : (k : ℕ) → x.ripe ≡ Some k → (k ≤ taken h) × (2 * k < turn n states k)
  pub cut_ : x.cut ≡ true → 0 < cut
  pub empty : x.empty ≤ taken h
  pub full : (t : ℕ) → x.full ≡ Some t → (t ≤ taken h) × (t + n ≤ drawn h)

-- the looks of pass i that found nothing are as many as it counted. The last of them stands on the walk that it saw
abbrev pub CountsEmpty : List Event → ℕ → Sight → Type 0
CountsEmpty walk i x = (x.empty_looks ≡ times_empty i walk)
    × (0 < x.empty_looks → GoesOn (FoundEmpty i ∷ x.empty_walk) walk × (x.empty_looks ≡ times_empty i x.empty_walk + 1)
    × (draws x.empty_walk ≡ x.empty))

-- so are its looks that found no room, of n slots
abbrev pub CountsFull : ℕ → List Event → ℕ → Sight → Type 0
CountsFull n walk i x = (x.full_looks ≡ times_full i walk)
    × (0 < x.full_looks → GoesOn (FoundFull i ∷ x.full_walk) walk × (x.full_looks ≡ times_full i x.full_walk + 1)
    × ((t : ℕ) × (x.full ≡ Some t) × (draws x.full_walk ≡ t + n)))

-- what the view of number i says is true, and only a pass that is out owes anything
pub record Fits {T : Type 0} (h : History T) (n : ℕ) (states : List ℕ) (cut hub : ℕ) (roll : List ℕ) (i : ℕ) (v : View T) : Type 0 where
  pub member : v.role ≡ Member → IsMember h hub roll i v
  pub hub_ : v.role ≡ Issuer → IsHub h hub roll i v
  pub back : v.role ≡ Spent → In i roll × (v.half ≡ Nothing) × (v.account.sent ≡ []) × (v.account.got ≡ [])
  pub debt : (v.role ≡ Member → ⊥) → v.duty ≡ no_duties
  pub half : HalfFits h n states i v.half
  pub sight : SightFits h n states cut v.sight
  pub heard : Heard h v
  pub over : v.over ≡ true → (0 < cut) × (h.rest ≡ [])
  -- a pass that was told so has loaded how many positions are claimed for good
  pub last : v.role ≡ Member → v.over ≡ true → drawn h ≤ v.sight.low

-- as many values wait, or as many positions may be drawn before another is claimed: none once the ring is cut
abbrev pub ready : {T : Type 0} → Want → History T → ℕ → ℕ → ℕ
ready Values h n cut = length h.rest
ready Room h n cut = free cut (n - length h.rest)

-- the list counts its members, and both laws of sleep hold for it
pub record IsAwaited {T : Type 0} (views : List (View T)) (q : Want) (goods open_ tokens waiting : ℕ) : Type 0 where
  pub narrow : tokens < 4294967296
  pub counted : total (listed q) views ≡ tokens + waiting
  -- each token that was given is still there, or was taken
  pub given : total (tokens_given q) views ≡ tokens + total (tokens_taken q) views
  pub quiet : Quiet goods tokens (total (sleeping q) views) (total (owed q) views)
  pub shut : Shut tokens (total (sleeping q) views) open_ (total (closing q) views)

pub record Keeps {T : Type 0} (s : State (Option T) (View T)) : Type 0 where
  pub history : History T
  pub states : List ℕ
  pub size : ℕ
  pub tokens : Want → ℕ
  pub waiting : Want → ℕ
  pub cut : ℕ
  pub words : s.words ≡ (drawn history + 9223372036854775808 * cut) ∷ taken history
      ∷ (tokens Values + 4294967296 * waiting Values) ∷ (tokens Room + 4294967296 * waiting Room) ∷ states
  pub sized : (length states ≡ size) × (length s.homes ≡ size) × (0 < size)
  pub small : drawn history ≤ 4611686018427387904
  pub cutter : cut ≡ cuts_by history.cutter
  -- the walk that led here, and the looks of the passes that are out
  pub walk : List Event
  pub walked : (draws walk ≡ drawn history) × (waiting_after walk ≡ length history.rest)
  pub true_ : AreTrue size walk
  pub looks : (i : ℕ) (v : View T) → get_elem? s.views i ≡ some v → v.role ≡ Member
      → CountsEmpty walk i v.sight × CountsFull size walk i v.sight
  -- no more values wait than there are slots
  pub within : drawn history ≤ taken history + size
  -- what each slot holds
  pub undrawn : Undrawn history size states s.homes
  pub waits : Waiting history s.views size states s.homes
  pub taken_ : Taken history s.views size states
  pub lists : (q : Want) → IsAwaited s.views q (ready q history size cut) (free cut 1) (tokens q) (waiting q)
  -- the number of the hub, which does nothing itself, and the numbers of the passes that came back
  pub hub : ℕ
  pub roll : List ℕ
  pub idle : (sent_by hub history ≡ []) × (got_by hub history ≡ []) × (has_cut hub history ≡ false)
  pub apart : Distinct roll
  pub rolled : (i : ℕ) → In i roll → i < length s.views
  pub known : hub < length s.views
  pub out_ : total member s.views ≡ total out s.views
  -- a number that no pass has yet is in no entry, and looked at nothing
  pub newborn : (i : ℕ) → length s.views ≤ i
      → (sent_by i history ≡ []) × (got_by i history ≡ []) × (has_cut i history ≡ false)
      × (times_empty i walk ≡ 0) × (times_full i walk ≡ 0)
  pub fits : (i : ℕ) (v : View T) → get_elem? s.views i ≡ some v → Fits history size states cut hub roll i v
