-- Small histories of process 0 alone, with the input 0, on a ratifier, a conciliator and a last object. Also histories
-- of a last object that several processes use. Some are lawful, and some are not.
use Rattle.std.specs.Prelude.{ℕ, ◌+◌, List, [], ◌∷◌, map}
use Rattle.mb_quorum.specs.Unary.{unary_table}
use Rattle.mb_deciding.specs.Types.{Value, Proposal, Quorum, Last, Act, Load, Store, Exchange, Turn, Access}
use Rattle.mb_deciding.specs.OneObject.{Object, ratifier_of, conciliator_of, last_of}

-- ---- a ratifier and a conciliator
-- every process has the input 0
abbrev pub zero_inputs : ℕ → ℕ
zero_inputs process = 0

-- a ratifier over the unary table of two values. Every input is 0
abbrev pub small_ratifier : Object
small_ratifier = ratifier_of (unary_table 2) zero_inputs

-- a conciliator with three attempts. Every input is 0
abbrev pub small_conciliator : Object
small_conciliator = conciliator_of (unary_table 2) 2 zero_inputs

-- the turn with this act and this random word
abbrev pub turn : ℕ → Act → Turn
turn word act = record { act = act; word = word }

-- the history in which process 0 alone makes these turns
abbrev pub history_of_one : List Turn → List Access
history_of_one turns = map (λ x. record { process = 0; turn = x }) turns

-- on the ratifier process 0 sets register 0, finds the proposal empty and stores 1 there, and finds register 1 clear
abbrev pub clear_turns : List Turn
clear_turns =
    turn 0 (Load (Quorum 1) 0) ∷ turn 0 (Store Proposal 1) ∷ turn 0 (Load Proposal 0) ∷ turn 0
    (Store (Quorum 0) 1) ∷ []

-- on the ratifier process 0 loads the proposal before it sets its write quorum
abbrev pub hasty_turns : List Turn
hasty_turns = turn 0 (Load Proposal 0) ∷ []

-- on the ratifier the load of register 1 finds 1, which no process stored
abbrev pub invented_turns : List Turn
invented_turns =
    turn 0 (Load (Quorum 1) 1) ∷ turn 0 (Store Proposal 1) ∷ turn 0 (Load Proposal 0) ∷ turn 0
    (Store (Quorum 0) 1) ∷ []

-- on the conciliator, with s = 2, process 0 has the random word 3, and stores on attempt 2 and on no earlier one
abbrev pub patient_turns : List Turn
patient_turns =
    turn 3 (Load Value 1) ∷ turn 3 (Store Value 1) ∷ turn 3 (Load Value 0) ∷ turn 3
    (Load Value 0) ∷ turn 3 (Load Value 0) ∷ []

-- on the conciliator process 0 has the random word 3, and stores on attempt 0, which it may not
abbrev pub impatient_turns : List Turn
impatient_turns = turn 3 (Store Value 1) ∷ turn 3 (Load Value 0) ∷ []

-- ---- a last object
-- each process has its own number as its input
abbrev pub own_inputs : ℕ → ℕ
own_inputs process = process

-- a last object for three values. Each input is the process's own number
abbrev pub small_last : Object
small_last = last_of (unary_table 3) own_inputs

-- the exchange of the process for its input, which found `found`
abbrev pub exchange_by : ℕ → ℕ → Access
exchange_by process found = record { process = process; turn = turn 0 (Exchange Last (process + 1) found) }

-- process 0 comes first, and the others find its value
abbrev pub first_decides : List Access
first_decides = exchange_by 2 1 ∷ exchange_by 1 1 ∷ exchange_by 0 0 ∷ []

-- process 1 finds the word empty after process 0 has put its value there
abbrev pub found_empty_twice : List Access
found_empty_twice = exchange_by 1 0 ∷ exchange_by 0 0 ∷ []

-- process 0 loads the word, and then stores in it by an access of its own
abbrev pub loaded_then_stored : List Turn
loaded_then_stored = turn 0 (Store Last 1) ∷ turn 0 (Load Last 0) ∷ []
