-- The rule of a segment: its words, slots and views agree with one history.
-- Words: 0 how many positions are drawn, with the top bit once the segment is cut; 8 the list of those that wait: in its
-- low half the tokens that were given and not taken, in its high half those without a token; 16 how many positions are
-- claimed; then the state of each position. Those between stay 0, so that no two of the three share a line of memory.
use Rattle.std.specs.Prelude.{List, Option, Some, [], false, length, true, ℕ, ◌+◌, ◌*◌, ◌-◌, ◌<◌, ◌∷◌, ◌≡◌, ◌≢◌, ◌≤◌}
use mathlib.Core.Option.{some}
use lib.ListN.{get_elem?}
use Rattle.atomic_table.specs.Table.{State}
use Rattle.mb_segment.specs.Types.{Event, FoundEmpty, Issuer, Member, Nothing, Sight, Spent, View}
use Rattle.mb_segment.specs.History.{History, cuts_by, drawn, got_by, has_cut, sent_by, taken}
use Rattle.mb_segment.specs.Walk.{AreTrue, GoesOn, draws, times_empty, waiting_after}
use Rattle.mb_segment.specs.Passes.{Called, Distinct, In, Match, member, no_duty, out}
use Rattle.mb_segment.specs.Heard.{Heard}
use Rattle.mb_segment.specs.Sleeping.{Quiet, Shut, closing, free, listed, owed, sleeping, tokens_given, tokens_taken, total}
use Rattle.mb_segment.specs.Slots.{HalfFits, Taken, Undrawn, Waiting, row}

-- the view of a pass that is out: its account is the history's, and it is neither the hub nor one that came back
pub record IsMember {T : Type 0} (h : History T) (hub : ℕ) (roll : List ℕ) (n : ℕ) (v : View T) : Type 0 where
  pub sent : v.account.sent ≡ sent_by n h
  pub got : v.account.got ≡ got_by n h
  pub cut : v.account.cut ≡ has_cut n h
  pub no_hub : n ≢ hub
  pub not_back : In n roll → ⊥

-- the hub's view: it has the accounts of those that came back
pub record IsHub {T : Type 0} (h : History T) (hub : ℕ) (roll : List ℕ) (n : ℕ) (v : View T) : Type 0 where
  pub here : n ≡ hub
  pub ends : Match h roll v.ends
  pub nothing : v.half ≡ Nothing
  pub idle : v.account.sent ≡ []

-- a pass that is out has its name, and the hub has those of the passes that came back
abbrev pub IsCalled : {T : Type 0} → (ℕ → ℕ) → List ℕ → ℕ → View T → Type 0
IsCalled names roll n v = (v.role ≡ Member → v.account.name ≡ names n) × (v.role ≡ Issuer → Called names roll v.ends)

-- the looks of pass n in the walk are as many as it counted. The last of them stands on the walk that it saw
abbrev pub HasLooked : List Event → ℕ → Sight → Type 0
HasLooked walk n x = (x.found ≡ times_empty n walk)
    × (0 < x.found → GoesOn (FoundEmpty n ∷ x.walk) walk × (x.found ≡ times_empty n x.walk + 1)
    × (draws x.walk ≡ x.empty))

-- what the view of number n says is true, and only a pass that is out owes anything. `cut` is not 0 once the segment is
-- cut
pub record Fits {T : Type 0} (h : History T) (states : List ℕ) (cut hub : ℕ) (roll : List ℕ) (n : ℕ) (v : View T) : Type 0 where
  pub member : v.role ≡ Member → IsMember h hub roll n v
  pub hub_ : v.role ≡ Issuer → IsHub h hub roll n v
  pub back : v.role ≡ Spent → In n roll × (v.half ≡ Nothing) × (v.account.sent ≡ [])
  pub debt : (v.role ≡ Member → ⊥) → v.duty ≡ no_duty
  pub half : HalfFits h states n v.half
  pub low : v.sight.low ≤ taken h
  pub ripe : (k : ℕ) → v.sight.ripe ≡ Some k → (k < length states) × (get_elem? states k ≢ some 0) × (k ≤ taken h)
  pub full : v.sight.full ≡ true → drawn h ≡ length states
  pub cut_ : v.sight.cut ≡ true → 0 < cut
  pub empty : v.sight.empty ≤ taken h
  pub heard : Heard h v
  pub over : v.over ≡ true → (free cut (length states - drawn h) ≡ 0) × (h.rest ≡ [])

pub record Keeps {T : Type 0} (s : State (Option T) (View T)) : Type 0 where
  pub history : History T
  pub states : List ℕ
  pub tokens : ℕ
  pub waiting : ℕ
  pub cut : ℕ
  pub words : s.words ≡ row (drawn history + 9223372036854775808 * cut) (taken history) (tokens + 4294967296 * waiting) states
  pub narrow : tokens < 4294967296
  pub sized : length states ≡ length s.homes
  pub small : length states < 9223372036854775808
  pub within : drawn history ≤ length states
  pub cutter : cut ≡ cuts_by history.cutter
  -- the walk that led here, and the looks of the passes that are out
  pub walk : List Event
  pub walked : (draws walk ≡ drawn history) × (waiting_after walk ≡ length history.rest)
  pub true_ : AreTrue (length states) walk
  pub looked : (n : ℕ) (v : View T) → get_elem? s.views n ≡ some v → v.role ≡ Member → HasLooked walk n v.sight
  -- the name of each pass, 0 if it has none, and what each position holds
  pub names : ℕ → ℕ
  pub short : (n : ℕ) → names n < 4294967295
  pub undrawn : Undrawn history states s.homes
  pub waits : Waiting names history s.views states s.homes
  pub taken_ : Taken names history s.views states s.homes
  -- the list counts its members, and both laws of sleep hold
  pub counted : total listed s.views ≡ tokens + waiting
  -- each token that was given is still there, or was taken
  pub given : total tokens_given s.views ≡ tokens + total tokens_taken s.views
  pub quiet : Quiet (length history.rest) tokens (total sleeping s.views) (total owed s.views)
  pub shut : Shut tokens (total sleeping s.views) (free cut (length states - drawn history)) (total closing s.views)
  -- the number of the hub, which does nothing itself, and the numbers of the passes that came back
  pub hub : ℕ
  pub roll : List ℕ
  pub idle : (sent_by hub history ≡ []) × (got_by hub history ≡ []) × (has_cut hub history ≡ false)
  pub apart : Distinct roll
  pub rolled : (n : ℕ) → In n roll → n < length s.views
  pub known : hub < length s.views
  pub out_ : total member s.views ≡ total out s.views
  -- a number that no pass has yet is in no entry, and looked at nothing
  pub newborn : (n : ℕ) → length s.views ≤ n
      → (sent_by n history ≡ []) × (got_by n history ≡ []) × (has_cut n history ≡ false)
      × (times_empty n walk ≡ 0)
  pub called : (n : ℕ) (v : View T) → get_elem? s.views n ≡ some v → IsCalled names roll n v
  pub fits : (n : ℕ) (v : View T) → get_elem? s.views n ≡ some v → Fits history states cut hub roll n v
