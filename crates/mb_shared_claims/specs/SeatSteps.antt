-- One step of a seat: the next access of a claim.
use Rattle.std.specs.Prelude.{ℕ, ◌≡◌, List, ◌∷◌}
use Rattle.mb_deciding.specs.Vocabulary.{IsInWords}
use Rattle.mb_claim.specs.Vocabulary.{Claims, part, IsMemoryOf, access_in, words_after, step_of, IsNextOp, IsClaimIn}
use Rattle.mb_shared_claims.specs.Types.{ClaimAccess, ClaimOp, ObjectTurn, Claim, Layout}
use Rattle.mb_shared_claims.specs.ViewSteps.{ComesAfter}
use Rattle.mb_shared_claims.specs.Seats.{SeatView, claims_at}

-- the access of consumer c to a cell by this op, which found this value, with this random word
abbrev pub access_of : ℕ → ℕ → ClaimOp → ℕ → ℕ → ClaimAccess
access_of c cell next seen word =
    record { consumer = c; cell = cell; step = step_of next.object next.op seen word }

-- the seat with one access more in its part
abbrev pub with_access : ClaimAccess → SeatView → SeatView
with_access a seat = record { table = seat.table; consumer = seat.consumer; part = a ∷ seat.part }

-- the next access of a claim on a cell was made from the seat, with the random word, and led to the claim and the seat
-- that follow
pub record IsSeatStep
    (layout : Layout) (cell word : ℕ) (claim : Claim) (seat : SeatView) (follows : Claim) (now : SeatView)
    : Type 0 where
  -- the access, and the value that it found
  pub next : ClaimOp
  pub seen : ℕ
  -- the access is the one that the claim names
  pub is : IsNextOp layout claim next
  -- the seat's part has exactly this access more
  pub adds : now ≡ with_access (access_of seat.consumer cell next seen word) seat
  -- the access came after a lawful history of all claims, in which the seat's consumer had done its part and no more
  pub comes : ComesAfter (claims_at seat.table) (access_of seat.consumer cell next seen word) seat.part
  -- the claim that follows is the one after that access, whatever turns led to the claim before
  pub path :
      (xs : List ObjectTurn) → IsClaimIn layout claim xs
      → IsClaimIn layout follows (step_of next.object next.op seen word ∷ xs)

-- an op of consumer c on a cell may come next, if c has done this: after each history with this part of c, if the op's
-- access is in words, the history with that access leaves what the op makes of the words that the history left
abbrev pub MayComeNext : Claims → ℕ → ℕ → List ClaimAccess → ClaimOp → Type 0
MayComeNext cs c cell done next =
    (word : ℕ) (words : List ℕ) (h : List ClaimAccess) → IsMemoryOf cs words h → part c h ≡ done
    → let a = access_in cs c cell next.object next.op word words in
    IsInWords a.step.turn → IsMemoryOf cs (words_after cs cell next.object next.op words) (a ∷ h)
