-- Samples of the list of segments. End 0 sent 10 and 11 in segment 0, and 12 in segment 1. End 1 took 10.
use Rattle.std.specs.Prelude.{ℕ, List, Some, [], true, ◌∷◌}
use Rattle.mb_segment.specs.declared.left.Fate.{Fate}
use Rattle.mb_channel.specs.declared.place.Place.{Place}
use Rattle.mb_channel.specs.Types.{Knows, Past, Visit}
use Rattle.mb_channel.specs.Deeds.{deed}
use Rattle.mb_channel.specs.Homes.{Made, first_view}
use Rattle.mb_channel.specs.Inside.{Log}
use Rattle.mb_channel.specs.LifeSamples.{last_end, one_got, one_sent, position, two_sent, visit}

-- this visit of end n
abbrev pub made : ℕ → Visit ℕ → Made ℕ
made n v = record { by = n; visit = v }

abbrev pub one_visit : List (Made ℕ)
one_visit = made 0 (visit 0 two_sent) ∷ []

-- a value was received in segment 1
abbrev pub one_take : List (Made ℕ)
one_take = made 0 (visit 1 one_got) ∷ []

abbrev pub all_visits : List (Made ℕ)
all_visits = made 0 (visit 1 one_sent) ∷ made 1 (visit 0 one_got) ∷ one_visit

-- end 1 was in no segment
abbrev pub idle_end : Past ℕ
idle_end = record { number = 1; name = 0; visits = [] }

-- the last end has left segment 1
abbrev pub last_of_two : Knows ℕ
last_of_two = record last_end { at = 2 }

-- end 1 was given back to it twice
abbrev pub given_twice : Knows ℕ
given_twice = record last_end { ended = idle_end ∷ idle_end ∷ [] }

-- ---- the list's end
-- it may add a segment
abbrev pub adder : Knows ℕ
adder = record first_view { holds = true; is_open = true; may_add = true }

-- it was told that there are no segments, for ever
abbrev pub told_none : Knows ℕ
told_none = record first_view { shut = true; last = Some 0 }

-- ---- places
abbrev pub place : ℕ → ℕ → Place
place k n = record { segment = k; number = n }

-- end 1 sent 10, and did nothing else
abbrev pub returner : Log ℕ
returner = record { number = 1; name = 7; sent = deed 1 (position 3 10) ∷ []; got = [] }

-- ---- names. End 0 sent 10 and 11 in segment 0, under the name 7
abbrev pub seven : Knows ℕ
seven = record first_view { live = true; name = 7; visits = visit 0 (record two_sent { name = 7 }) ∷ [] }

-- a value that an end of this name sent, and one of the name 9 received
abbrev pub fate : ℕ → Fate
fate n = record { sender = Some n; receiver = Some 9 }
