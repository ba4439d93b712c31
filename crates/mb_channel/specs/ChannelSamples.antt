-- Lives and moments of channels of numbers: some that the theorem admits, and some that it refuses.
use Rattle.std.specs.Prelude.{ℕ, zero, suc, Bool, true, false, List, [], ◌∷◌}
use Rattle.mb_channel.specs.ChannelTheorem.{Call, Claim, End, Entry, History, Moment, Segment, Sleepers, Spot}

abbrev pub entry : ℕ → ℕ → Entry ℕ
entry n x = record { by = n; value = x }

-- value x of end n, taken by end r
abbrev pub claim : ℕ → ℕ → ℕ → Claim ℕ
claim n x r = record { entry = entry n x; to = r }

abbrev pub history : List (Claim ℕ) → List (Entry ℕ) → History ℕ
history cs es = record { claims = cs; rest = es }

abbrev pub spot : ℕ → ℕ → Spot ℕ
spot p x = record { at = p; value = x }

-- x was sent to place p, or taken from there, by one that knew of those below k
abbrev pub call : ℕ → ℕ → ℕ → Call ℕ
call p x k = record { spot = spot p x; knew = k }

abbrev pub sender : List (Call ℕ) → End ℕ
sender l = record { sends = l; takes = [] }

abbrev pub receiver : List (Call ℕ) → End ℕ
receiver l = record { sends = []; takes = l }

-- ends 0 to 3, and no other
abbrev pub four : End ℕ → End ℕ → End ℕ → End ℕ → ℕ → End ℕ
four a b c d zero = a
four a b c d (suc zero) = b
four a b c d (suc (suc zero)) = c
four a b c d (suc (suc (suc zero))) = d
four a b c d (suc (suc (suc (suc n)))) = record { sends = []; takes = [] }

-- ---- whole lives. Ends 0 and 1 send, ends 2 and 3 receive
-- end 0 sent 10, end 1 sent 20 and knew of that, end 0 sent 11 in the next segment. End 2 took 10, and end 3 took 20
abbrev pub two_segments : List (History ℕ)
two_segments = history (claim 0 10 2 ∷ claim 1 20 3 ∷ []) [] ∷ history [] (entry 0 11 ∷ []) ∷ []

abbrev pub two_and_two : ℕ → End ℕ
two_and_two = four (sender (call 0 10 0 ∷ call 2 11 1 ∷ [])) (sender (call 1 20 1 ∷ []))
    (receiver (call 0 10 0 ∷ [])) (receiver (call 1 20 1 ∷ []))

-- end 0 sent 10 before 11, and they stand the other way round
abbrev pub swapped_life : List (History ℕ)
swapped_life = history [] (entry 0 11 ∷ entry 0 10 ∷ []) ∷ []

abbrev pub one_sender : ℕ → End ℕ
one_sender = four (sender (call 1 10 0 ∷ call 0 11 0 ∷ [])) (sender []) (receiver []) (receiver [])

-- end 1 knew of the value at place 1, and its own stands before that
abbrev pub unheeded_life : List (History ℕ)
unheeded_life = history [] (entry 1 20 ∷ entry 0 10 ∷ []) ∷ []

abbrev pub unheeded : ℕ → End ℕ
unheeded = four (sender (call 1 10 0 ∷ [])) (sender (call 0 20 2 ∷ [])) (receiver []) (receiver [])

-- both receivers got the value 10
abbrev pub taken_twice : ℕ → End ℕ
taken_twice = four (sender (call 0 10 0 ∷ [])) (sender []) (receiver (call 0 10 0 ∷ [])) (receiver (call 0 10 0 ∷ []))

abbrev pub one_taken : List (History ℕ)
one_taken = history (claim 0 10 2 ∷ []) [] ∷ []

-- end 3 knew that the value at place 1 was taken, and then took the one at place 0
abbrev pub two_taken : List (History ℕ)
two_taken = history (claim 0 10 3 ∷ claim 0 11 2 ∷ []) [] ∷ []

abbrev pub unheeded_take : ℕ → End ℕ
unheeded_take = four (sender (call 0 10 0 ∷ call 1 11 1 ∷ [])) (sender []) (receiver (call 1 11 0 ∷ []))
    (receiver (call 0 10 2 ∷ []))

-- the value of the second segment was taken before that of the first, which is the same number of the same sender
abbrev pub overtaken_life : List (History ℕ)
overtaken_life = history [] (entry 0 10 ∷ []) ∷ history (claim 0 10 2 ∷ []) [] ∷ []

abbrev pub overtaken : ℕ → End ℕ
overtaken = four (sender (call 0 10 0 ∷ call 1 10 1 ∷ [])) (sender []) (receiver (call 0 10 0 ∷ [])) (receiver [])

-- end 2 claimed a value, and none of its calls returned it
abbrev pub forgotten : ℕ → End ℕ
forgotten = four (sender (call 0 10 0 ∷ [])) (sender []) (receiver []) (receiver [])

-- ---- moments
abbrev pub sleepers : ℕ → ℕ → ℕ → ℕ → Sleepers
sleepers a t o c = record { asleep = a; tokens = t; owed = o; owed_to_all = c }

-- a segment of which all was taken, with this many tokens
abbrev pub passed : ℕ → Segment ℕ
passed t = record { history = history (claim 0 10 2 ∷ []) []; is_over = true; is_visited = true; sleepers = sleepers 0 t 0 0 }

-- a segment to which a receiver came, with these values, over or not
abbrev pub last : List (Entry ℕ) → Bool → Sleepers → Segment ℕ
last es b s = record { history = history [] es; is_over = b; is_visited = true; sleepers = s }

-- with so many senders, one receiver, and whether a receive or a send has told "closed"
abbrev pub moment : ℕ → Bool → Bool → List (Segment ℕ) → Moment ℕ
moment n told refused ss = record {
  segments = ss;
  senders = n;
  receivers = 1;
  is_closed = false;
  closers = 0;
  is_told = told;
  is_refused = refused;
}

-- one sleeps, a value waits, and its sender owes a look
abbrev pub looked_for : Moment ℕ
looked_for = moment 1 false false (passed 0 ∷ last (entry 0 11 ∷ []) false (sleepers 1 0 1 0) ∷ [])

-- the same, and nobody owes a look
abbrev pub overslept : Moment ℕ
overslept = moment 1 false false (passed 0 ∷ last (entry 0 11 ∷ []) false (sleepers 1 0 0 0) ∷ [])

-- the same, and a token is there, but in the segment before
abbrev pub token_elsewhere : Moment ℕ
token_elsewhere = moment 1 false false (passed 1 ∷ last (entry 0 11 ∷ []) false (sleepers 1 0 0 0) ∷ [])

-- the last position of the segment was drawn: one sleeps, and the sender owes a token to each that does
abbrev pub last_drawn : Moment ℕ
last_drawn = moment 1 false false (passed 0 ∷ last (entry 0 11 ∷ []) true (sleepers 1 0 0 1) ∷ [])

-- the same, and the sender owes one wake alone
abbrev pub last_forgotten : Moment ℕ
last_forgotten = moment 1 false false (passed 0 ∷ last (entry 0 11 ∷ []) true (sleepers 1 0 1 0) ∷ [])

-- one sleeps in a segment that is over, and nobody owes anything
abbrev pub slept_past_the_end : Moment ℕ
slept_past_the_end = moment 0 false false (last [] true (sleepers 1 0 0 0) ∷ [])

-- the last sender has gone, one sleeps in a segment that nobody cut, and nobody is still to cut it
abbrev pub slept_through_the_end : Moment ℕ
slept_through_the_end = moment 0 false false (last [] false (sleepers 1 0 0 0) ∷ [])

-- the last sender has gone, all is taken, and a receive told "closed"
abbrev pub ended : Moment ℕ
ended = moment 0 true false (passed 0 ∷ last [] true (sleepers 0 0 0 0) ∷ [])

-- "closed" was told while a value waits, and while a sender is left
abbrev pub told_too_soon : Moment ℕ
told_too_soon = moment 0 true false (last (entry 0 11 ∷ []) true (sleepers 0 0 0 0) ∷ [])

abbrev pub told_beside_a_sender : Moment ℕ
told_beside_a_sender = moment 1 true false (last [] true (sleepers 0 0 0 0) ∷ [])

-- a receiver finds its segment empty, and a value waits in the one before
abbrev pub value_behind : Moment ℕ
value_behind = moment 1 false false (last (entry 0 10 ∷ []) true (sleepers 0 0 0 0) ∷ last [] false (sleepers 0 0 0 0) ∷ [])

-- a send told "closed" while a receiver is left
abbrev pub refused_beside_a_receiver : Moment ℕ
refused_beside_a_receiver = moment 1 false true (last [] false (sleepers 0 0 0 0) ∷ [])

-- two values wait
abbrev pub two_wait : Moment ℕ
two_wait = moment 1 false false (last (entry 0 10 ∷ entry 0 11 ∷ []) false (sleepers 0 0 0 0) ∷ [])

-- the same, and no receiver is left
abbrev pub two_forsaken : Moment ℕ
two_forsaken = record two_wait { receivers = 0 }
