-- Histories of claims on one cell, for two consumers over the unary table: with one pair and a fast path or a last
-- object, and with a last object alone. Some are lawful, and some are not.
use Rattle.std.specs.Prelude.{true, false, List, [], ◌∷◌}
use Rattle.mb_quorum.specs.Unary.{unary_table}
use Rattle.mb_claim.specs.AllClaims.{Claims, claims_of}
use Rattle.mb_claim.specs.ObjectTypes.{Value, Proposal, Quorum, Last, Load, Store, Exchange}
use Rattle.mb_claim.specs.Types.{ClaimAccess}
use Rattle.mb_claim.specs.Rows.{row_of, with_last}
use Rattle.mb_claim.specs.Samples.{access_at}

-- ---- a fast path
-- the claims of two consumers on one cell with a fast path and one pair over the unary table
abbrev pub two_with_fast : Claims
two_with_fast = claims_of (unary_table 2) (row_of (record { fast = true; last = false }) 2 1) 1

-- lawful: consumer 0 comes alone, and the first ratifier decides
abbrev pub won_at_once : List ClaimAccess
won_at_once =
    access_at 0 0 (Load (Quorum 1) 0) ∷ access_at 0 0 (Store Proposal 1) ∷ access_at 0 0 (Load Proposal 0)
    ∷ access_at 0 0 (Store (Quorum 0) 1) ∷ []

-- lawful: consumer 0 has won at once. Then consumer 1 comes. The first ratifier leaves it undecided with the winner's
-- number, and the second decides that number
abbrev pub lost_at_second : List ClaimAccess
lost_at_second =
    access_at 1 1 (Load (Quorum 1) 0) ∷ access_at 1 1 (Store Proposal 1) ∷ access_at 1 1 (Load Proposal 0)
    ∷ access_at 1 1 (Store (Quorum 0) 1)
    ∷ access_at 1 0 (Load (Quorum 1) 1) ∷ access_at 1 0 (Load Proposal 1) ∷ access_at 1 0 (Store
    (Quorum 1) 1) ∷ won_at_once

-- not lawful: consumer 0 begins with the conciliator
abbrev pub skip_both_ratifiers : List ClaimAccess
skip_both_ratifiers = access_at 0 2 (Load Value 0) ∷ []

-- ---- a last object after the pair
-- the claims of two consumers on one cell with one pair over the unary table and a last object
abbrev pub two_with_last : Claims
two_with_last = claims_of (unary_table 2) (row_of with_last 2 1) 1

-- not lawful: consumer 0 begins with the last object
abbrev pub last_comes_first : List ClaimAccess
last_comes_first = access_at 0 2 (Exchange Last 1 0) ∷ []

-- ---- a last object alone
-- the claims of two consumers on one cell with a last object alone
abbrev pub two_alone : Claims
two_alone = claims_of (unary_table 2) (row_of with_last 2 0) 1

-- lawful: consumer 0 comes first and wins, and consumer 1 finds consumer 0's number
abbrev pub exchanged_once_each : List ClaimAccess
exchanged_once_each = access_at 1 0 (Exchange Last 2 1) ∷ access_at 0 0 (Exchange Last 1 0) ∷ []

-- not lawful: both consumers find the word empty
abbrev pub both_found_empty : List ClaimAccess
both_found_empty = access_at 1 0 (Exchange Last 2 0) ∷ access_at 0 0 (Exchange Last 1 0) ∷ []
