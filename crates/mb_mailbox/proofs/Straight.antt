-- How many accesses a consumer's claim makes on its cell.
use Rattle.std.proofs.Common.{◌≡◌, ◌+◌, ◌≤◌, ℕ, zero, suc, List, ◌∷◌, length, sym, ◌∙◌, ap, subst, arith}
use Rattle.std.specs.Prelude.{Some}
use Rattle.mb_claim.specs.Vocabulary.{IsClaimLawful, part}
use Rattle.mb_shared_claims.specs.Seats.{claims_at_size}
use Rattle.mb_mailbox.specs.Imports.{AreSeatSteps, Claim, ClaimAccess, ClaimTable, IsLawfulPart, Layout, SeatView, Stream, access_of, claims_at, claims_in, most_accesses, part_on}

-- an access of a consumer on a cell lengthens its part there. This is a clause of a law of mb_claim
abbrev pub OwnCell : Type 0
OwnCell = (a : ClaimAccess) (h : List ClaimAccess)
    → part_on a.consumer a.cell (a ∷ h) ≡ a.step ∷ part_on a.consumer a.cell h

-- a consumer's own part has all that it did on a cell, and by `IsBounded` that is bounded: clauses of laws of mb_claim
abbrev pub CutPart : Type 0
CutPart = (c k : ℕ) (h : List ClaimAccess) → part_on c k (part c h) ≡ part_on c k h

abbrev pub IsBounded : Type 0
IsBounded = (layout : Layout) (cells : ℕ) (h : List ClaimAccess) (c k : ℕ) → IsClaimLawful (claims_in layout cells) h
    → length (part_on c k h) ≤ most_accesses layout

-- n accesses of the claim on a cell make the consumer's part there n longer
pub counted : OwnCell → (layout : Layout) (k n : ℕ) (claim now : Claim) (seat after : SeatView) (s t : Stream)
    → AreSeatSteps layout k claim seat s n now after t
    → length (part_on after.consumer k after.part) ≡ n + length (part_on seat.consumer k seat.part)
counted own layout k zero claim now seat after s t (is, keeps, e) =
    ap (λ (z : SeatView). length (part_on z.consumer k z.part)) keeps ∙ omega arith
counted own layout k (suc n) claim now seat after s t (at, before, u, word, older, going, drawn, step, still, stands) =
    let a = access_of before.consumer k step.next step.seen word in
    let was = counted own layout k n claim at seat before s u older in
    let longer = own a before.part in
    ap (λ (z : SeatView). length (part_on z.consumer k z.part)) step.adds ∙ ap length longer ∙ omega (arith, was)

-- after accesses of a claim the seat has the same table as before
kept : (layout : Layout) (k n : ℕ) (claim now : Claim) (seat after : SeatView) (s t : Stream)
    → AreSeatSteps layout k claim seat s n now after t → after.table ≡ seat.table
kept layout k zero claim now seat after s t (is, keeps, e) = ap (λ (z : SeatView). z.table) keeps
kept layout k (suc n) claim now seat after s t (at, before, u, word, older, going, drawn, step, still, stands) =
    ap (λ (z : SeatView). z.table) step.adds ∙ kept layout k n claim at seat before s u older

-- a seat has made no more accesses on a cell than the layout allows
pub few_on : CutPart → IsBounded → (layout : Layout) (cells k : ℕ) (seat : SeatView)
    → seat.table.size ≡ Some (record { layout = layout; cells = cells })
    → IsLawfulPart (claims_at seat.table) seat.consumer seat.part
    → length (part_on seat.consumer k seat.part) ≤ most_accesses layout
few_on cut bounded layout cells k seat name lawful =
    let has : IsLawfulPart (claims_in layout cells) seat.consumer seat.part =
    subst (λ z. IsLawfulPart (claims_at_size z) seat.consumer seat.part) name lawful in
    subst (λ xs. length xs ≤ most_accesses layout)
    (sym (cut seat.consumer k has.0) ∙ ap (part_on seat.consumer k) has.2)
    (bounded layout cells has.0 seat.consumer k has.1)

-- n accesses of a claim, and those that the seat made on the cell before, are no more than the layout allows
pub few_in_row : OwnCell → CutPart → IsBounded → (layout : Layout) (cells k n : ℕ) (claim now : Claim)
    (seat after : SeatView) (s t : Stream) → seat.table.size ≡ Some (record { layout = layout; cells = cells })
    → AreSeatSteps layout k claim seat s n now after t → IsLawfulPart (claims_at after.table) after.consumer after.part
    → n + length (part_on seat.consumer k seat.part) ≤ most_accesses layout
few_in_row own cut bounded layout cells k n claim now seat after s t table steps lawful =
    let name = ap (λ (z : ClaimTable). z.size) (kept layout k n claim now seat after s t steps) ∙ table in
    let few = few_on cut bounded layout cells k after name lawful in
    omega (arith, counted own layout k n claim now seat after s t steps, few)
