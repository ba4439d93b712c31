-- Histories of claims on one cell, for two consumers and one pair over the unary table. Some are lawful, and some are
-- not.
use Rattle.std.specs.Prelude.{ℕ, List, [], ◌∷◌}
use Rattle.mb_quorum.specs.Unary.{unary_table}
use Rattle.mb_claim.specs.AllClaims.{Claims, claims_of}
use Rattle.mb_claim.specs.ObjectTypes.{Value, Proposal, Quorum, Act, Load, Store}
use Rattle.mb_claim.specs.Types.{ClaimAccess}
use Rattle.mb_claim.specs.Rows.{pairs_of}

-- the claims of two consumers on one cell with one pair over the unary table
abbrev pub two_consumers : Claims
two_consumers = claims_of (unary_table 2) (pairs_of 2 1) 1

-- consumer c makes the act on object o of cell 0, with the random word 0
abbrev pub access_at : ℕ → ℕ → Act → ClaimAccess
access_at c o act =
    record { consumer = c; cell = 0; step = record { object = o; turn = record { act = act; word = 0 } } }

-- ---- histories that are lawful
-- consumer 0 comes alone, and has proposed its number in the ratifier
abbrev pub proposed_alone : List ClaimAccess
proposed_alone =
    access_at 0 1 (Store Proposal 1) ∷ access_at 0 1 (Load Proposal 0) ∷ access_at 0 1 (Store (Quorum 0) 1)
    ∷ access_at 0 0 (Load Value 1) ∷ access_at 0 0 (Store Value 1) ∷ access_at 0 0 (Load Value 0) ∷ []

-- then consumer 0 finds that consumer 1 announced nothing, and wins
abbrev pub won_alone : List ClaimAccess
won_alone = access_at 0 1 (Load (Quorum 1) 0) ∷ proposed_alone

-- consumer 0 has won alone. Then consumer 1 comes, and loses
abbrev pub won_and_lost : List ClaimAccess
won_and_lost =
    access_at 1 1 (Load (Quorum 1) 0) ∷ access_at 1 1 (Load Proposal 1) ∷ access_at 1 1 (Store
    (Quorum 0) 1) ∷ access_at 1 0 (Load Value 1)
    ∷ won_alone

-- ---- histories that are not lawful
-- consumer 0 finds an announcement of consumer 1, which has made none here
abbrev pub left_undecided : List ClaimAccess
left_undecided = access_at 0 1 (Load (Quorum 1) 1) ∷ proposed_alone

-- consumer 0 has its output from object 0, and begins there again
abbrev pub begun_again : List ClaimAccess
begun_again =
    access_at 0 0 (Load Value 1)
    ∷ access_at 0 0 (Load Value 1) ∷ access_at 0 0 (Store Value 1) ∷ access_at 0 0 (Load Value 0) ∷ []
