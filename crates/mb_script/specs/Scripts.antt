-- What the bytes of a replay script say.
use Rattle.std.specs.Prelude.{ℕ, suc, ◌+◌, Bool, true, List, [], ◌∷◌, length, codes, Option, Some, None, Result, Ok, Err, nat_lt, if◌then◌else◌}
use Rattle.std.specs.List.{list_all}
use Rattle.std.specs.Char.{is_ascii}
use Rattle.std.specs.Option.{ok_or}
use Rattle.std.specs.Str.{bytes_eq}
use Rattle.mb_quorum.specs.declared.table.TableName.{TableName}
use Rattle.mb_world.specs.declared.event.Event.{Event, TheVariants.Offer, TheVariants.Push, TheVariants.Finish, TheVariants.Step}
use Rattle.mb_world.specs.declared.setup.{Setup.Setup, SetupFault.SetupFault}
use Rattle.mb_world.specs.Plan.{Plan, consumers_of}
use Rattle.mb_claim.specs.declared.shape.Shape.{Shape}
use Rattle.mb_world.specs.Setups.{pairs_in, plan_in, setup_refusal, shape_in, shaped_plan}
use Rattle.mb_script.specs.declared.fault.Fault.{Fault}
use Rattle.mb_script.specs.declared.fault.Fault.TheVariants.{TooLong, NotAscii, BadLine, BadNumber, NoSetup, BadSetup, NoLane, NoConsumer, TooManyEvents}
use Rattle.mb_script.specs.declared.script.Script as code
use Rattle.mb_script.specs.declared.script.TheConstants.{MAX_EVENTS}
use Rattle.mb_script.specs.declared.transfer.TheConstants.{MAX_SCRIPT_LEN}
use Rattle.mb_script.specs.Steps.{◌>>=◌}
use Rattle.mb_script.specs.Shapes.{shape_named}
use Rattle.mb_script.specs.Tables.{table_named}
use Rattle.mb_script.specs.Text.{lines_of, words_in_line, has_empty, number_of}

-- what the first line of a script says: what a world is made of, how many pairs of deciding objects each cell has, and
-- what a cell has beside them
pub record SetupLine : Type 0 where
  -- the plan of the world, the number of pairs of each cell, and the shape of the cells
  pub plan : Plan
  pub pairs : ℕ
  pub shape : Shape

-- what a `Setup` of the code says, as a `SetupLine`
abbrev pub made_in : Setup → SetupLine
made_in setup = record { plan = plan_in setup; pairs = pairs_in setup; shape = shape_in setup }

-- the `SetupLine` of these numbers of producers, consumers, cells and pairs, with this quorum table and this shape
abbrev pub made_from : Shape → ℕ → ℕ → ℕ → ℕ → TableName → SetupLine
made_from shape p c m k t = record { plan = shaped_plan shape p c m k t; pairs = k; shape = shape }

-- a script: what its first line says, and its events, in their order
pub record Script : Type 0 where
  -- the plan of the world, the number of pairs of each cell, and the shape of the cells
  pub plan : Plan
  pub pairs : ℕ
  pub shape : Shape
  -- the events, in the order of time
  pub events : List Event

-- the script with this first line and these events
abbrev pub script_with : SetupLine → List Event → Script
script_with made events = record {
  plan = made.plan;
  pairs = made.pairs;
  shape = made.shape;
  events = events;
}

-- what a script of the code says, as plain data
abbrev pub view : {A : Type 0} → code.Script A → Script
view s = script_with (made_in s.setup) s.events.items

-- ---- the numbers of line n, if there are as many as there should be
-- the number that a word of line n spells, or the fault of that line
abbrev pub number_at : ℕ → List ℕ → Result ℕ Fault
number_at n word = ok_or (number_of word) (BadNumber n)

-- the number of the only word after a line's key. A line with more words there, or none, is bad
unfoldable pub one_number : ℕ → List (List ℕ) → Result ℕ Fault
one_number n (a ∷ []) = number_at n a
one_number n words = Err (BadLine n)

-- the numbers of the two words after a line's key. A line with more words there, or fewer, is bad
unfoldable pub two_numbers : ℕ → List (List ℕ) → Result (ℕ × ℕ) Fault
two_numbers n (a ∷ b ∷ []) = number_at n a >>= (λ x. number_at n b >>= (λ y. Ok (x, y)))
two_numbers n words = Err (BadLine n)

-- the numbers of the three words after a line's key. A line with more words there, or fewer, is bad
unfoldable pub three_numbers : ℕ → List (List ℕ) → Result (ℕ × ℕ × ℕ) Fault
three_numbers n (a ∷ b ∷ c ∷ []) =
    number_at n a >>= (λ x. number_at n b >>= (λ y. number_at n c >>= (λ z. Ok (x, y, z))))
three_numbers n words = Err (BadLine n)

-- ---- the first line: `setup`, four numbers, a table's name, and the shape of cells that have more than pairs
-- what a first line says, or the fault of line 1, if there is a reason to refuse its setup
abbrev pub made_of : Option SetupFault → SetupLine → Result SetupLine Fault
made_of None made = Ok made
made_of (Some fault) made = Err (BadSetup 1 fault)

-- what the words after `setup` say, or a fault: first of their count, the table and the shape, then of the first bad
-- number, and last of the ranges
unfoldable pub sizes_of : List (List ℕ) → Result SetupLine Fault
sizes_of (producers ∷ consumers ∷ cells ∷ pairs ∷ name ∷ shape) = do
  t ← ok_or (table_named name) (BadLine 1)
  f ← ok_or (shape_named shape) (BadLine 1)
  p ← number_at 1 producers
  c ← number_at 1 consumers
  m ← number_at 1 cells
  k ← number_at 1 pairs
  made_of (setup_refusal p c m k) (made_from f p c m k t)
sizes_of words = Err (BadLine 1)

-- what the words of the first line say, or their first fault. If the first word is not `setup`, no other fault of the
-- line counts
unfoldable pub setup_of : List (List ℕ) → Result SetupLine Fault
setup_of [] = Err NoSetup
setup_of (key ∷ words) =
    if bytes_eq key (codes "setup")
    then (if has_empty words then Err (BadLine 1) else sizes_of words)
    else Err NoSetup

-- ---- each further line: an event
-- the event that the words of line n say, or the fault of the line. No world is asked for its lane and its consumer yet
unfoldable pub event_of : ℕ → List (List ℕ) → Result Event Fault
event_of n [] = Err (BadLine n)
event_of n (key ∷ words) =
    if bytes_eq key (codes "offer") then two_numbers n words >>= (λ x. Ok (Offer x.0 x.1))
    else if bytes_eq key (codes "push") then one_number n words >>= (λ x. Ok (Push x))
    else if bytes_eq key (codes "finish") then one_number n words >>= (λ x. Ok (Finish x))
    else if bytes_eq key (codes "step") then three_numbers n words >>= (λ x. Ok (Step x.0 x.1 x.2))
    else Err (BadLine n)

-- the lane that an event names
abbrev pub lane_of : Event → ℕ
lane_of (Offer lane item) = lane
lane_of (Push lane) = lane
lane_of (Finish lane) = lane
lane_of (Step consumer lane word) = lane

-- the consumer that an event names, if it names one
abbrev pub consumer_in : Event → Option ℕ
consumer_in (Step consumer lane word) = Some consumer
consumer_in event = None

-- whether a world has the consumer that an event names. An event that names none passes
abbrev pub has_consumer : Plan → Option ℕ → Bool
has_consumer plan None = true
has_consumer plan (Some consumer) = nat_lt consumer (consumers_of plan)

-- the event of line n, if this world has the lane and the consumer that the event names, or else the fault of the line
unfoldable pub placed : Plan → ℕ → Event → Result Event Fault
placed plan n event =
    if nat_lt (lane_of event) plan.lanes
    then (if has_consumer plan (consumer_in event) then Ok event else Err (NoConsumer n))
    else Err (NoLane n)

-- the event of this world that line n says, or what is wrong with the line
unfoldable pub event_at : Plan → ℕ → List ℕ → Result Event Fault
event_at plan n line =
    if has_empty (words_in_line line) then Err (BadLine n)
    else event_of n (words_in_line line) >>= placed plan n

-- The events of the lines from line n on. The first faulty line decides. A line after the last that may have an event
-- is one too many, whatever it holds.
unfoldable pub events_of : Plan → ℕ → List (List ℕ) → Result (List Event) Fault
events_of plan n [] = Ok []
events_of plan n (line ∷ lines) =
    if nat_lt (MAX_EVENTS + 1) n then Err TooManyEvents
    else event_at plan n line >>= (λ event. events_of plan (suc n) lines >>= (λ events. Ok (event ∷ events)))

-- ---- the whole script
-- what the lines of a script say, or their first fault
unfoldable pub lines_script : List (List ℕ) → Result Script Fault
lines_script [] = Err NoSetup
lines_script (line ∷ lines) =
    setup_of (words_in_line line) >>= (λ made. events_of made.plan 2 lines >>= (λ events. Ok (script_with made events)))

-- what the bytes say: a script, or the first fault
unfoldable pub script_of : List ℕ → Result Script Fault
script_of bytes =
    if nat_lt MAX_SCRIPT_LEN (length bytes) then Err TooLong
    else if list_all is_ascii bytes then lines_script (lines_of bytes)
    else Err NotAscii
