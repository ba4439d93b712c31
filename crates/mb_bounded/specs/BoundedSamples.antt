-- Ends and lives of numbers: some that the definitions admit, and some that they refuse.
use Rattle.std.specs.Prelude.{List, [], ◌∷◌, ℕ}
use Rattle.mb_segment.specs.Vocabulary.{nothing_done, spot}
use Rattle.mb_ring.specs.Vocabulary.{blank, did_cut}
use Rattle.mb_bounded.specs.Types.{Account, Global, Knows, Ring, View}
use Rattle.mb_bounded.specs.Desks.{newcomer}

-- a sender and a receiver
abbrev pub two_ends : Ring ℕ Global → List (Knows ℕ)
two_ends r = newcomer r 1 0 ∷ newcomer r 0 1 ∷ []

-- one end sent 10 at the first position, and another received it there
abbrev pub sent_ten : Account ℕ
sent_ten = record nothing_done { sent = spot 0 10 ∷ []; sent_knew = 0 ∷ [] }

abbrev pub got_ten : Account ℕ
got_ten = record nothing_done { got = spot 0 10 ∷ []; got_knew = 0 ∷ [] }

-- a pass with this account
abbrev pub having : Account ℕ → View ℕ
having a = record blank { account = a }

abbrev pub cutter : View ℕ
cutter = did_cut blank
