-- How a replay script is spelled.
use Rattle.std.specs.Prelude.{◌≡◌, ℕ, ◌<◌, ◌≤◌, ◌^◌, List, [], ◌∷◌, length, codes, map, None}
use Rattle.std.specs.List.{AllByRecursion, join_with_byte}
use Rattle.std.specs.Fmt.{decimal}
use Rattle.mb_quorum.specs.declared.table.TableName.{TableName}
use Rattle.mb_world.specs.declared.event.Event.{Event}
use Rattle.mb_world.specs.declared.event.Event.TheVariants.{Offer, Push, Finish, Step}
use Rattle.mb_claim.specs.declared.shape.Shape.{Shape}
use Rattle.mb_world.specs.Setups.{setup_refusal}
use Rattle.mb_script.specs.declared.script.TheConstants.{MAX_EVENTS}
use Rattle.mb_script.specs.Scripts.{SetupLine, Script, made_from, script_with}
use Rattle.mb_script.specs.Shapes.{shape_words}
use Rattle.mb_script.specs.Tables.{table_name}

-- the numbers of a setup, its table, and the shape of its cells
pub record Sizes : Type 0 where
  -- the four numbers of a setup, in the order of the first line
  pub producers : ℕ
  pub consumers : ℕ
  pub cells : ℕ
  pub pairs : ℕ
  -- the name of the quorum table, and the shape of the cells
  pub table : TableName
  pub shape : Shape

-- the words of the first line of a script with these sizes
abbrev pub setup_words : Sizes → List (List ℕ)
setup_words z =
    codes "setup" ∷ decimal z.producers ∷ decimal z.consumers ∷ decimal z.cells ∷ decimal z.pairs
    ∷ table_name z.table ∷ shape_words z.shape

-- the words of the line of an event
abbrev pub event_words : Event → List (List ℕ)
event_words (Offer lane item) = codes "offer" ∷ decimal lane ∷ decimal item ∷ []
event_words (Push lane) = codes "push" ∷ decimal lane ∷ []
event_words (Finish lane) = codes "finish" ∷ decimal lane ∷ []
event_words (Step consumer lane word) = codes "step" ∷ decimal consumer ∷ decimal lane ∷ decimal word ∷ []

-- the lines of a script with these sizes and events: between two words of a line stands one space
abbrev pub script_lines : Sizes → List Event → List (List ℕ)
script_lines z events = map (join_with_byte 32) (setup_words z ∷ map event_words events)

-- an event of the world of these sizes: its lane and its consumer are there, and an item or a word is below 2^64
abbrev pub IsEventOf : Sizes → Event → Type 0
IsEventOf z (Offer lane item) = (lane < z.producers) × (item < 2 ^ 64)
IsEventOf z (Push lane) = lane < z.producers
IsEventOf z (Finish lane) = lane < z.producers
IsEventOf z (Step consumer lane word) = (lane < z.producers) × (consumer < z.consumers) × (word < 2 ^ 64)

-- a script has these sizes and events: there is a world of these sizes, each event is of that world, and the events are
-- not too many
pub record IsScript (z : Sizes) (events : List Event) : Type 0 where
  -- a setup of these numbers is not refused
  pub sizes : setup_refusal z.producers z.consumers z.cells z.pairs ≡ None
  -- each event names a lane and a consumer of that world
  pub known : AllByRecursion (IsEventOf z) events
  -- there are at most as many events as a script may have
  pub few : length events ≤ MAX_EVENTS

-- what a first line with these sizes says
abbrev pub made_for : Sizes → SetupLine
made_for z = made_from z.shape z.producers z.consumers z.cells z.pairs z.table

-- the script that the lines of these sizes and events say
abbrev pub script_in : Sizes → List Event → Script
script_in z events = script_with (made_for z) events

-- some sizes and events make up this script, and these lines spell them
abbrev pub Spells : List (List ℕ) → Script → Type 0
Spells lines s = (z : Sizes) × IsScript z s.events × (lines ≡ script_lines z s.events) × (s ≡ script_in z s.events)
