-- The next access of a claim, made from a seat.
use Rattle.std.proofs.Common.{◌≡◌, ◌<◌, ℕ, List, ◌∷◌, sym, ap, ◌∙◌, subst}
use Rattle.mb_deciding.specs.Vocabulary.{IsInWords}
use Rattle.mb_claim.specs.Vocabulary.{Claims, part, part_on, claims_in, claim_access, step_of, access_in, words_after}
use Rattle.mb_claim.specs.Vocabulary.{consumer_of}
use Rattle.mb_claim.specs.Vocabulary.{claim_stage, IsClaimLawful, IsMemoryOf, IsClaimIn, IsNextOp, CanClaimFind}
use Rattle.mb_shared_claims.specs.Types.{ClaimAccess, ClaimOp, ObjectTurn, Going, Claim, Layout}
use Rattle.mb_shared_claims.specs.ViewSteps.{ComesAfter}
use Rattle.mb_shared_claims.specs.Seats.{SeatView, TableView, name_of, claims_at}
use Rattle.mb_shared_claims.specs.SeatSteps.{access_of, with_access, IsSeatStep, MayComeNext}

-- ---- the laws of claims that are used here
-- if the words hold what a history leaves, and a claim's next access is made, they hold what the longer history leaves.
-- Before that access the claim has made all that its consumer did on the cell in that history, and goes on
abbrev pub KeepsMemory : Type 0
KeepsMemory =
    (layout : Layout) (cells k : ℕ) (claim : Claim) (next : ClaimOp) (word : ℕ) (words : List ℕ) (h : List ClaimAccess)
    → let cs = claims_in layout cells in
    IsMemoryOf cs words h → k < cells → IsClaimIn layout claim (part_on (consumer_of claim) k h)
    → claim_stage claim ≡ Going → IsNextOp layout claim next
    → let a = access_in cs (consumer_of claim) k next.object next.op word words in
    IsInWords a.step.turn → IsMemoryOf cs (words_after cs k next.object next.op words) (a ∷ h)

-- if the next access of a claim came after a lawful history, it found a value that it can find (`CanClaimFind`). The
-- claim had made all that its consumer did on the cell in that history, and went on
abbrev pub FindsTold : Type 0
FindsTold =
    (layout : Layout) (cells k : ℕ) (claim : Claim) (next : ClaimOp) (seen word : ℕ) (h : List ClaimAccess)
    → IsClaimLawful (claims_in layout cells) (claim_access claim k (step_of next.object next.op seen word) ∷ h)
    → k < cells → IsClaimIn layout claim (part_on (consumer_of claim) k h) → claim_stage claim ≡ Going
    → IsNextOp layout claim next → CanClaimFind layout claim next seen

-- what a consumer did on a cell is the same in its part as in the whole history
abbrev pub CutParts : Type 0
CutParts = (c k : ℕ) (h : List ClaimAccess) → part_on c k (part c h) ≡ part_on c k h

-- an access adds its step to its consumer's part on its cell
abbrev pub OwnCell : Type 0
OwnCell =
    (a : ClaimAccess) (h : List ClaimAccess)
    → part_on a.consumer a.cell (a ∷ h) ≡ a.step ∷ part_on a.consumer a.cell h

-- ---- the claim's next access, and the step of its seat
module _ (cut : CutParts) (t : TableView) (seat : SeatView) (cell : ℕ) (claim : Claim) (low : cell < t.cells)
    (own : consumer_of claim ≡ seat.consumer)
    (stands : IsClaimIn t.layout claim (part_on seat.consumer cell seat.part)) (going : claim_stage claim ≡ Going) where
  -- the claims of the table
  abbrev cs : Claims
  cs = claims_in t.layout t.cells

  -- in each history in which the consumer did what the seat shows, the claim has made all that it did on the cell
  in_history :
      (h : List ClaimAccess) → part seat.consumer h ≡ seat.part
      → IsClaimIn t.layout claim (part_on (consumer_of claim) cell h)
  in_history h all =
      subst (IsClaimIn t.layout claim)
      (ap (part_on seat.consumer cell) (sym all) ∙ cut seat.consumer cell h
      ∙ ap (λ c. part_on c cell h) (sym own)) stands

  -- the claim's next access may come next after each history in which the consumer did what the seat shows
  pub may_come :
      KeepsMemory → (next : ClaimOp) → IsNextOp t.layout claim next → MayComeNext cs seat.consumer cell seat.part next
  may_come keeps next is word words h memory all =
      subst (λ c.
      IsInWords (access_in cs c cell next.object next.op word words).step.turn
      → IsMemoryOf cs (words_after cs cell next.object next.op words)
      (access_in cs c cell next.object next.op word words ∷ h)) own
      (keeps t.layout t.cells cell claim next word words h memory low (in_history h all) going is)

  -- if the claim's next access came after a lawful history with the seat's part, it found what it can find
  pub can_find :
      FindsTold → (next : ClaimOp) (seen word : ℕ) → IsNextOp t.layout claim next
      → ComesAfter cs (access_of seat.consumer cell next seen word) seat.part → CanClaimFind t.layout claim next seen
  can_find finds next seen word is comes =
      finds t.layout t.cells cell claim next seen word comes.0
      (subst (λ c. IsClaimLawful cs (access_of c cell next seen word ∷ comes.0)) (sym own) comes.1) low
      (in_history comes.0 comes.2) going is

  -- if the seat made the claim's next access, and that led to the claim that follows, the access is a step of the seat
  pub seat_step :
      FindsTold → (now : SeatView) (word : ℕ) (follows : Claim) (next : ClaimOp) (seen : ℕ) → seat.table ≡ name_of t
      → IsNextOp t.layout claim next → now ≡ with_access (access_of seat.consumer cell next seen word) seat
      → ComesAfter cs (access_of seat.consumer cell next seen word) seat.part
      → ((xs : List ObjectTurn) → IsClaimIn t.layout claim xs → CanClaimFind t.layout claim next seen
      → IsClaimIn t.layout follows (step_of next.object next.op seen word ∷ xs))
      → IsSeatStep t.layout cell word claim seat follows now
  seat_step finds now word follows next seen named is adds comes path =
      record {
        next = next;
        seen = seen;
        is = is;
        adds = adds;
        comes = subst (λ claims. ComesAfter claims (access_of seat.consumer cell next seen word) seat.part)
            (sym (ap claims_at named)) comes;
        path = λ xs of. path xs of (can_find finds next seen word is comes);
      }

-- if a claim has made all that its seat's consumer did on the cell, so has the claim that follows a step of the seat
pub stands_on :
    OwnCell → (layout : Layout) (cell word : ℕ) (claim follows : Claim) (seat now : SeatView)
    → IsSeatStep layout cell word claim seat follows now
    → IsClaimIn layout claim (part_on seat.consumer cell seat.part)
    → IsClaimIn layout follows (part_on now.consumer cell now.part)
stands_on own_cell layout cell word claim follows seat now step stands =
    let a = access_of seat.consumer cell step.next step.seen word in
    subst (IsClaimIn layout follows)
    (sym (own_cell a seat.part) ∙ ap (λ (v : SeatView). part_on v.consumer cell v.part) (sym step.adds))
    (step.path (part_on seat.consumer cell seat.part) stands)
