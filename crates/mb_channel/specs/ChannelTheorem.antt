-- The theorem of the channel. All values sent stand in one list. A value's index in it is its *place*. The list lies in
-- *segments*, one behind the other. Senders and receivers are *ends*, each with a number of its own.
-- Points 1 to 3 are of a *whole life*: all that the ends did, until the last was given back. A *moment* lies between
-- any two steps of any threads. Points 4 and 5 hold at each, and `turn` too.
-- `n : K` says of what kind n is, the line `n .. = e` below it what n means. `f x y` is f of x and y, `λ x. e` the
-- function from x to e. All statements of a record hold. ℕ: numbers. T: the values' type. Skip `pub`, `{T : Type 0}`.
--     A → B    if A then B; a function from A to B      (x : A) → B    for all x of A: B     A ⊎ B    A or B
--     A × B    A and B                    nat_eq        whether =      Contains xs x         x is an element of xs
--     xs ++ ys first xs, then ys          x ∷ xs        first x, then xs                     All P xs P of each element
--     suc p    p + 1     length xs   how many     map f xs   f of each, in order    flat_map f xs   these lists, joined
use Rattle.std.specs.Prelude.{ℕ, suc, ◌≡◌, ◌<◌, ◌≤◌, ◌⊎◌, ◌+◌, ◌-◌, ◌++◌, Bool, true, false, nat_eq, if◌then◌else◌}
use Rattle.std.specs.Prelude.{List, [], ◌∷◌, length, All, Contains, map, flat_map}

pub record Entry (T : Type 0) : Type 0 where  -- a value that was sent
  pub by : ℕ  -- the number of its sender
  pub value : T

pub record Claim (T : Type 0) : Type 0 where  -- a value that was taken
  pub entry : Entry T
  pub to : ℕ  -- the number of its receiver

pub record History (T : Type 0) : Type 0 where  -- what happened in a segment. A channel has many, oldest first
  pub claims : List (Claim T)  -- its values that were taken, in order
  pub rest : List (Entry T)  -- its values behind those, in order

abbrev pub entries : {T : Type 0} → List (Claim T) → List (Entry T)
entries = map (λ c. c.entry)

abbrev pub sent : {T : Type 0} → List (History T) → List (Entry T)  -- all values sent, in the one order
sent = flat_map (λ h. entries h.claims ++ h.rest)

abbrev pub taken : {T : Type 0} → List (History T) → List (Claim T)  -- those that were taken
taken = flat_map (λ h. h.claims)

abbrev pub left : {T : Type 0} → List (History T) → List (Entry T)  -- and those that were not
left = flat_map (λ h. h.rest)

-- Nobody overtakes: each segment of which something is left has nothing taken behind it. `Unit` says nothing
abbrev pub TakenInTurn : {T : Type 0} → List (History T) → Type 0
TakenInTurn [] = Unit {0}
TakenInTurn (h ∷ hs) = ((h.rest ≡ []) ⊎ (taken hs ≡ [])) × TakenInTurn hs

-- ---- a whole life
pub record Spot (T : Type 0) : Type 0 where  -- a value at its place
  pub at : ℕ
  pub value : T

pub record Call (T : Type 0) : Type 0 where  -- a call that sent a value, or that received one
  pub spot : Spot T
  pub knew : ℕ  -- when it began, all calls of its kind that its end had learned of were at places below `knew`

pub record End (T : Type 0) : Type 0 where  -- what an end did, in the order of its calls
  pub sends : List (Call T)  -- what it sent
  pub takes : List (Call T)  -- what it received

-- of a list that begins at place p: the values sent by end n, and the values that end n took
abbrev pub spots_by : {T : Type 0} → ℕ → ℕ → List (Entry T) → List (Spot T)
spots_by n p [] = []
spots_by n p (e ∷ es) = (if nat_eq e.by n then record { at = p; value = e.value } ∷ [] else []) ++ spots_by n (suc p) es

abbrev pub spots_to : {T : Type 0} → ℕ → ℕ → List (Claim T) → List (Spot T)
spots_to n p cs = spots_by n p (map (λ c. record { by = c.to; value = c.entry.value }) cs)

-- `ends n` is what end n did (nothing, if there was none), and `back` what the channel gives back when it ends
pub record WholeLife {T : Type 0} (life : List (History T)) (ends : ℕ → End T) (back : List T) : Type 0 where
  -- Point 1, one order: what n sent stands in the list in n's order, each value behind all that n had learned of
  pub order : (n : ℕ) → map (λ c. c.spot) (ends n).sends ≡ spots_by n 0 (sent life)
  pub after : (n : ℕ) → All (λ c. c.knew ≤ c.spot.at) (ends n).sends
  -- Point 2, one taker: what n received is what n took, in the list's order, each behind all takes that n had learned of.
  -- The list's first values were taken
  pub takers : (n : ℕ) → map (λ c. c.spot) (ends n).takes ≡ spots_to n 0 (taken life)
  pub later : (n : ℕ) → All (λ c. c.knew ≤ c.spot.at) (ends n).takes
  pub turn : TakenInTurn life
  -- Point 3, nothing is lost: what is given back is the rest of the list, in order
  pub rest : back ≡ map (λ e. e.value) (left life)

-- ---- a moment
pub record Sleepers : Type 0 where
  pub asleep : ℕ  -- how many ends sleep
  pub tokens : ℕ  -- tokens given to them and not taken. Each lets one go on
  pub owed : ℕ  -- looks and wakes that threads owe
  pub owed_to_all : ℕ  -- threads that owe a token to each that sleeps

pub record Segment (T : Type 0) : Type 0 where
  pub history : History T
  pub is_over : Bool  -- nothing more can be sent in it: it is full, or was cut
  pub is_visited : Bool  -- a receiver has come to it
  pub sleepers : Sleepers  -- the receivers that sleep in it

pub record Moment (T : Type 0) : Type 0 where
  pub segments : List (Segment T)
  pub senders : ℕ  -- how many ends may send, and how many may receive
  pub receivers : ℕ
  pub is_closed : Bool  -- `close` was called
  pub closers : ℕ  -- ends that know it is closed or has no sender, until one is told that all segments are over
  pub is_told : Bool  -- a receive has answered "closed", now or before
  pub is_refused : Bool  -- a send has answered "closed", now or before

abbrev pub life : {T : Type 0} → Moment T → List (History T)
life m = map (λ s. s.history) m.segments

abbrev pub waiting : {T : Type 0} → Moment T → ℕ  -- how many values were sent and not taken
waiting m = length (left (life m))

abbrev pub IsOver : {T : Type 0} → Moment T → Type 0  -- nothing can be sent any more
IsOver m = ((m.is_closed ≡ true) ⊎ (m.senders ≡ 0)) × All (λ s. s.is_over ≡ true) m.segments

-- Where one sleeps and has no token, somebody owes a token to all. Or `goes_on` holds, and for each of the `ready` values
-- (or free places) there is a token, or a look or a wake that somebody owes
abbrev pub IsAwake : Type 0 → ℕ → Sleepers → Type 0
IsAwake goes_on ready s = s.tokens < s.asleep → (0 < s.owed_to_all) ⊎ (goes_on × (ready ≤ s.tokens + s.owed))

pub record EachMoment {T : Type 0} (m : Moment T) : Type 0 where
  pub turn : TakenInTurn (life m)
  -- Point 4, answers are true. "Empty" is told where a receiver's own segment is empty and not over: then nothing waits
  pub empty : (s : Segment T) → Contains m.segments s → s.is_visited ≡ true → s.is_over ≡ false
      → s.history.rest ≡ [] → waiting m ≡ 0
  -- Once a receive told "closed", nothing can be sent and nothing waits. Once a send told it, one side is closed
  pub closed : m.is_told ≡ true → IsOver m × (waiting m ≡ 0)
  pub refused : m.is_refused ≡ true → (m.is_closed ≡ true) ⊎ (m.receivers ≡ 0)
  -- Point 5, no wake-up is lost: with nothing owed and no token out, nobody sleeps beside a value or after the end
  pub awake : (s : Segment T) → Contains m.segments s → IsAwake (s.is_over ≡ false) (waiting m) s.sleepers
  pub ended : (m.is_closed ≡ true) ⊎ (m.senders ≡ 0) → (0 < m.closers) ⊎ All (λ s. s.is_over ≡ true) m.segments

-- More of a channel with a bound b. `returned` values came back by `give_back`, `s` are the senders that sleep, and if
-- `is_full`, a send tells "full" at this moment
pub record EachBounded {T : Type 0} (b returned : ℕ) (s : Sleepers) (is_full : Bool) (m : Moment T) : Type 0 where
  pub within : waiting m ≤ b + returned
  pub full : is_full ≡ true → b ≤ waiting m
  pub room : IsAwake ((m.is_closed ≡ false) × (0 < m.receivers)) (b - waiting m) s
