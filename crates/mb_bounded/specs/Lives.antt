-- The whole life of a channel that has ended: points 1 to 3 of the theorem, told of its ends.
use Rattle.std.specs.Prelude.{List, [], ℕ, nat_eq, ◌∷◌, if◌then◌else◌}
use Rattle.mb_segment.specs.Vocabulary.{IsWhole}
use Rattle.mb_channel.specs.ChannelTheorem.{End, History, WholeLife}
use Rattle.mb_channel.specs.Lives.{calls_at}
use Rattle.mb_bounded.specs.Types.{Account}

-- what an end with this account sent and received, call by call
abbrev pub calls_of : {T : Type 0} → Account T → End T
calls_of a = record { sends = calls_at 0 a.sent a.sent_knew; takes = calls_at 0 a.got a.got_knew }

-- what end n did, where the ends of these numbers have these accounts. There is no other
abbrev pub end_by : {T : Type 0} → List ℕ → List (Account T) → ℕ → End T
end_by [] accounts n = record { sends = []; takes = [] }
end_by (m ∷ ms) [] n = record { sends = []; takes = [] }
end_by (m ∷ ms) (a ∷ rest) n = if nat_eq m n then calls_of a else end_by ms rest n

-- all that the ends did is in these accounts, and each end has a number of its own. By these numbers it is the whole
-- life of a channel, which is one segment and gives this back
abbrev pub IsLife : {T : Type 0} → List (Account T) → List T → Type 0
IsLife {T} accounts back =
    (w : IsWhole accounts back) × (h : History T) × WholeLife (h ∷ []) (end_by w.numbers accounts) back
