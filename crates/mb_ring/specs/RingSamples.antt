-- Rings of numbers: some that the definitions admit, and some that they refuse. Pass 1 sends, pass 2 receives.
use Rattle.std.specs.Prelude.{Err, List, None, Option, Result, Some, [], true, ℕ, ◌∷◌, ⊤}
use mathlib.Core.Option.{some}
use Rattle.mb_segment.specs.Passes.{no_duty, nothing_done}
use Rattle.mb_segment.specs.Moves.{enters}
use Rattle.mb_ring.specs.Types.{Duty, Event, Nothing, View}
use Rattle.mb_ring.specs.Passes.{blank, new_hub, no_duties}
use Rattle.mb_ring.specs.Moves.{drew, sees_empty, sees_full, took}
use Rattle.mb_ring.specs.Laws.{RingState, Sleepers}
use Rattle.mb_ring.specs.declared.sends.NotSent.{NotSent}
use Rattle.mb_ring.specs.declared.sends.NotSent.TheVariants as not_sent

-- 11 in slot 0, and 10 in slot 1
abbrev pub two_slots : List (Option ℕ)
two_slots = Some 11 ∷ Some 10 ∷ []

-- one slot, and no pass was issued
abbrev pub unused : ℕ → RingState ℕ
unused word = record { words = word ∷ 0 ∷ 0 ∷ 0 ∷ 0 ∷ []; homes = some None ∷ []; views = new_hub ∷ [] }

-- a pass that has sent 10 at position 0, or has received it there
abbrev pub sent : View ℕ
sent = record (drew 0 10 blank) { half = Nothing }

abbrev pub got : View ℕ
got = record (took 0 10 blank) { half = Nothing }

-- it saw the ring empty when n positions were drawn, or full when n were claimed
abbrev pub saw_empty : ℕ → View ℕ
saw_empty n = sees_empty n [] sent

abbrev pub saw_full : ℕ → View ℕ
saw_full n = sees_full n [] got

-- it entered the list for room, and has found the ring full
abbrev pub entered : Duty
entered = enters no_duty

-- 10 comes back, since the ring is cut, or is full
abbrev pub shut_out : Result ⊤ (NotSent ℕ)
shut_out = Err (not_sent.Closed 10)

abbrev pub no_room : Result ⊤ (NotSent ℕ)
no_room = Err (not_sent.Full 10)

-- it cut the ring, and has forgotten what it saw
abbrev pub cutter : View ℕ
cutter = record blank { account = record nothing_done { cut = true } }

-- one slot. Two values wait, of which one is in it
abbrev pub overfull : RingState ℕ
overfull =
    record { words = 2 ∷ 0 ∷ 0 ∷ 0 ∷ 1 ∷ []; homes = some (Some 10) ∷ []; views = record new_hub { out = 1 } ∷ sent ∷ [] }

-- one slot. Position 0 waits, and the slot is already free for position 1
abbrev pub reused : RingState ℕ
reused =
    record { words = 1 ∷ 0 ∷ 0 ∷ 0 ∷ 2 ∷ []; homes = some None ∷ []; views = record new_hub { out = 1 } ∷ sent ∷ [] }

-- a pass tells that it sent a value, and nothing was drawn
abbrev pub boasting : RingState ℕ
boasting =
    record { words = 0 ∷ 0 ∷ 0 ∷ 0 ∷ 0 ∷ []; homes = some None ∷ []; views = record new_hub { out = 1 } ∷ sent ∷ [] }

abbrev pub sleeper : View ℕ
sleeper = record blank { duty = record no_duties { values = record no_duty { asleep = 1 } } }

-- it sleeps for room
abbrev pub room_sleeper : View ℕ
room_sleeper = record blank { duty = record no_duties { room = record no_duty { asleep = 1 } } }

-- one slot, in which a value waits. Pass 2 sleeps without a token, and nobody owes anything
abbrev pub overslept : RingState ℕ
overslept = record {
  words = 1 ∷ 0 ∷ 4294967296 ∷ 0 ∷ 1 ∷ [];
  homes = some (Some 10) ∷ [];
  views = record new_hub { out = 2 } ∷ sent ∷ sleeper ∷ [];
}

-- the ring is cut. Pass 1 sleeps without a token, and nobody owes anything
abbrev pub forgotten : RingState ℕ
forgotten = record {
  words = 9223372036854775808 ∷ 0 ∷ 4294967296 ∷ 0 ∷ 0 ∷ [];
  homes = some None ∷ [];
  views = record new_hub { out = 1 } ∷ sleeper ∷ [];
}

-- one slot, which is free. Pass 1 sleeps, and says that it found nothing, after this walk
abbrev pub patient : List Event → RingState ℕ
patient w = record {
  words = 0 ∷ 0 ∷ 4294967296 ∷ 0 ∷ 0 ∷ [];
  homes = some None ∷ [];
  views = record new_hub { out = 1 } ∷ sees_empty 0 w sleeper ∷ [];
}

-- one slot, which is free. A pass sleeps for room without a token, and nobody owes anything
abbrev pub crowded : RingState ℕ
crowded = record {
  words = 0 ∷ 0 ∷ 0 ∷ 4294967296 ∷ 0 ∷ [];
  homes = some None ∷ [];
  views = record new_hub { out = 1 } ∷ room_sleeper ∷ [];
}

-- one sleeps without a token, and nobody owes anything
abbrev pub one_asleep : Sleepers
one_asleep = record { asleep = 1; tokens = 0; owed = 0; owed_to_all = 0 }

-- it owes a token to all that sleep, itself included
abbrev pub one_dozing : Sleepers
one_dozing = record { asleep = 1; tokens = 0; owed = 0; owed_to_all = 1 }
