-- The words and the claims of one cell, in the course of a run.
use Rattle.std.specs.Prelude.{ℕ, ◌≡◌, ◌<◌, List, [], length, slice_index_or}
use Rattle.mb_claim.specs.Types.{Claim, ClaimEntry, Layout}
use Rattle.mb_claim.specs.History.{part_on}
use Rattle.mb_claim.specs.Layouts.{claims_in, consumer_count}
use Rattle.mb_claim.specs.OneClaim.{consumer_of, IsClaimIn}
use Rattle.mb_claim.specs.Plays.{history_of, AreEntriesOf}
use Rattle.mb_claim.specs.States.{IsMemoryOf}

-- what a run holds: the words of its cell, the claim of each consumer, and the entries of the steps so far
pub record BoardState : Type 0 where
  pub words : List ℕ
  pub claims : List Claim
  pub entries : List ClaimEntry

-- the board is the board of a run after these steps, each a consumer and a random word
pub record IsBoard (layout : Layout) (steps : List (ℕ × ℕ)) (board : BoardState) : Type 0 where
  -- for each step there is one entry, of the step's consumer. It may come after the accesses of the entries before it
  pub fits : AreEntriesOf (claims_in layout 1) steps board.entries []
  -- the accesses of the entries are one lawful history, which leaves the words
  pub memory : IsMemoryOf (claims_in layout 1) board.words (history_of steps board.entries)
  -- each consumer has a claim
  pub consumers : length board.claims ≡ consumer_count layout
  -- the claim at position c is consumer c's
  pub own : (c : ℕ) (d : Claim) → c < length board.claims
      → consumer_of (slice_index_or board.claims c d) ≡ c
  -- the claim at position c is the claim of a consumer that has made c's part of the history of the entries
  pub standing :
      (c : ℕ) (d : Claim) → c < length board.claims
      → IsClaimIn layout (slice_index_or board.claims c d) (part_on c 0
      (history_of steps board.entries))
