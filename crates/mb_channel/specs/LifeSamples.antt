-- What segments tell of passes, and what ends did in them: samples of numbers.
use Rattle.std.specs.Prelude.{ℕ, List, [], ◌∷◌, ◌≡◌}
use Rattle.mb_segment.specs.Passes.{nothing_done}
use Rattle.mb_channel.specs.Types.{Account, Knows, Position, Visit}
use Rattle.mb_channel.specs.ChannelTheorem.{End, History, Spot}
use Rattle.mb_channel.specs.ChannelSamples.{call, claim, entry, four, history, receiver, sender, spot}
use Rattle.mb_channel.specs.Homes.{first_view}
use Rattle.mb_channel.specs.Stays.{AreStays, Stay, Told}

-- ---- one segment. Pass 0 sent 10 and 11, and pass 1 took 10. End 1 had pass 0, and end 0 had pass 1
abbrev pub by_passes : History ℕ
by_passes = history (claim 0 10 1 ∷ []) (entry 0 11 ∷ [])

abbrev pub stay : ℕ → ℕ → List (Spot ℕ) → List (Spot ℕ) → Stay ℕ
stay m n sent got = record { pass = m; end = n; sent = sent; got = got }

abbrev pub two_stays : List (Stay ℕ)
two_stays = stay 0 1 (spot 0 10 ∷ spot 1 11 ∷ []) [] ∷ stay 1 0 [] (spot 0 10 ∷ []) ∷ []

abbrev pub two_ends : ℕ → End ℕ
two_ends = four (receiver (call 0 10 0 ∷ [])) (sender (call 0 10 0 ∷ call 1 11 1 ∷ [])) (sender []) (sender [])

-- the ends go by the numbers of their passes
abbrev pub ends_for_passes : ℕ → End ℕ
ends_for_passes = four (sender (call 0 10 0 ∷ call 1 11 1 ∷ [])) (receiver (call 0 10 0 ∷ [])) (sender []) (sender [])

-- a segment tells this of the two passes, and so the ends did that
abbrev pub TellsOf : (ℕ → End ℕ) → List ℕ → Type 0
TellsOf ends back = (t : Told ℕ) × (t.history ≡ by_passes) × (t.stays ≡ two_stays) × AreStays (t ∷ []) ends back

-- ---- two segments. End 0 sent 10 and 11 in the first and 12 in the second. End 1, which was given back, took 10
abbrev pub position : ℕ → ℕ → Position ℕ
position p x = record { at = p; value = x }

abbrev pub two_sent : Account ℕ
two_sent = record nothing_done { sent = position 0 10 ∷ position 1 11 ∷ []; sent_knew = 0 ∷ 1 ∷ [] }

abbrev pub one_sent : Account ℕ
one_sent = record nothing_done { sent = position 0 12 ∷ []; sent_knew = 0 ∷ [] }

abbrev pub one_got : Account ℕ
one_got = record nothing_done { got = position 0 10 ∷ []; got_knew = 0 ∷ [] }

abbrev pub visit : ℕ → Account ℕ → Visit ℕ
visit k a = record { segment = k; account = a }

abbrev pub last_end : Knows ℕ
last_end = record first_view {
  visits = visit 1 one_sent ∷ visit 0 two_sent ∷ [];
  ended = record { number = 1; name = 0; visits = visit 0 one_got ∷ [] } ∷ [];
}
