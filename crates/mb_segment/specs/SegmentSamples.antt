-- Segments of numbers: some that the definitions admit, and some that they refuse. Pass 1 sends, pass 2 receives.
use Rattle.std.specs.Prelude.{Bool, List, None, Option, Some, [], false, map, suc, true, ℕ, ◌∷◌}
use mathlib.Core.Option.{some}
use Rattle.mb_segment.specs.declared.left.Fate.{Fate}
use Rattle.mb_segment.specs.Types.{Account, Claimed, Drew, Event, FoundEmpty, FoundFull, Spot, View}
use Rattle.mb_segment.specs.History.{Claim, Entry, History, spot}
use Rattle.mb_segment.specs.Passes.{blank, new_hub, no_duty}
use Rattle.mb_segment.specs.Moves.{gives_token, learns_drawn, owes_wake, sees_empty, takes_token, with_duty}
use Rattle.mb_segment.specs.Slots.{row}
use Rattle.mb_segment.specs.Laws.{SegmentState}

-- value x of pass n, and that it was claimed by pass r
abbrev pub entry : ℕ → ℕ → Entry ℕ
entry n x = record { by = n; value = x }

abbrev pub claim : ℕ → ℕ → ℕ → Claim ℕ
claim n x r = record { entry = entry n x; to = r }

-- 10 and 11 were sent, 10 was received, and pass 1 cut the segment
abbrev pub history : History ℕ
history = record { claims = claim 1 10 2 ∷ []; rest = entry 1 11 ∷ []; cutter = Some 1 }

abbrev pub account : List (Spot ℕ) → List (Spot ℕ) → Bool → Account ℕ
account s g c = record { name = 0; sent = s; got = g; cut = c; sent_knew = map (λ p. 0) s; got_knew = map (λ p. 0) g }

-- two positions in the wrong order
abbrev pub falling : List (Spot ℕ)
falling = spot 1 11 ∷ spot 0 10 ∷ []

abbrev pub sender : Account ℕ
sender = account (spot 0 10 ∷ spot 1 11 ∷ []) [] true

-- it knew of position 0 before it drew that
abbrev pub foreknown : Account ℕ
foreknown = record sender { sent_knew = 1 ∷ 1 ∷ [] }

abbrev pub receiver : Account ℕ
receiver = account [] (spot 0 10 ∷ []) false

abbrev pub cutter : Account ℕ
cutter = account [] [] true

-- the sender has the name 7, and the receiver the name 8
abbrev pub with_names : List (Account ℕ)
with_names = record sender { name = 7 } ∷ record receiver { name = 8 } ∷ []

abbrev pub fate : Option ℕ → Option ℕ → Fate
fate s r = record { sender = s; receiver = r }

abbrev pub view : Account ℕ → View ℕ
view a = record blank { account = a }

-- a pass that sent 10 at position 0, and then saw n positions, all of them claimed
abbrev pub saw : ℕ → View ℕ
saw n = sees_empty n [] (view (account (spot 0 10 ∷ []) [] false))

abbrev pub sleeper : View ℕ
sleeper = record blank { duty = record no_duty { asleep = 1 } }

-- one position, and no pass was issued
abbrev pub unused : ℕ → SegmentState ℕ
unused word = record { words = row word 0 0 (0 ∷ []); homes = some None ∷ []; views = new_hub ∷ [] }

-- the same, and pass 1 looked once, after this walk, and found nothing
abbrev pub looked_after : List Event → SegmentState ℕ
looked_after w = record (unused 0) { views = record new_hub { out = 1 } ∷ sees_empty 0 w blank ∷ [] }

-- the hub owes a wake
abbrev pub unpaid : SegmentState ℕ
unpaid = record (unused 0) { views = with_duty owes_wake new_hub ∷ [] }

-- one of two positions is drawn, for the value 10 of pass 1. Pass 2 sleeps without a token, and nobody owes anything
abbrev pub overslept : SegmentState ℕ
overslept = record {
  words = row 1 0 4294967296 (1 ∷ 0 ∷ []);
  homes = some (Some 10) ∷ some None ∷ [];
  views = record new_hub { out = 2 } ∷ saw 0 ∷ sleeper ∷ [];
}

-- one position, which pass 1 sent to. It has no name, and the state has this one
abbrev pub marked_as : ℕ → SegmentState ℕ
marked_as name = record {
  words = row 1 0 0 (suc name ∷ []);
  homes = some (Some 10) ∷ [];
  views = record new_hub { out = 1 } ∷ view (account (spot 0 10 ∷ []) [] false) ∷ [];
}

-- there is no position, pass 1 sleeps without a token, and nobody owes anything
abbrev pub forgotten : SegmentState ℕ
forgotten = record {
  words = row 0 0 4294967296 [];
  homes = [];
  views = record new_hub { out = 1 } ∷ sleeper ∷ [];
}

-- there is no position, and the list has tokens. Two passes are out
abbrev pub with_tokens : ℕ → View ℕ → View ℕ → SegmentState ℕ
with_tokens t one two =
    record { words = row 0 0 t []; homes = []; views = record new_hub { out = 2 } ∷ one ∷ two ∷ [] }

-- pass 1 sleeps with a token, and pass 2 is the one that gave it or not
abbrev pub woken : View ℕ → SegmentState ℕ
woken two = with_tokens 1 sleeper two

-- pass 1 took a token
abbrev pub taken : View ℕ → SegmentState ℕ
taken two = with_tokens 0 (takes_token blank) two

-- there is no position, and pass 1 knows of n
abbrev pub knowing : ℕ → SegmentState ℕ
knowing n = record {
  words = row 0 0 0 [];
  homes = [];
  views = record new_hub { out = 1 } ∷ learns_drawn n blank ∷ [];
}

abbrev pub giver : View ℕ
giver = gives_token blank

-- pass 2 finds nothing after the one position drawn is claimed, or before
abbrev pub walk : List Event
walk = FoundEmpty 2 ∷ Claimed ∷ Drew ∷ []

abbrev pub false_walk : List Event
false_walk = FoundEmpty 2 ∷ Drew ∷ []

-- of one position: it is drawn, and then there is no room
abbrev pub full_walk : List Event
full_walk = FoundFull 2 ∷ Drew ∷ []
