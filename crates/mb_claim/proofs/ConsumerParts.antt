-- The part of a consumer on all cells, with one access more, and cut down to one cell.
use Rattle.std.proofs.Common.{◌≡◌, ◌≢◌, ℕ, Bool, true, false, cond, eqb, Some, None, List, [], ◌∷◌, refl, ap, ap₂}
use Rattle.std.specs.List.{cons_option}
use Rattle.std.proofs.lemmas.Bool.{eq-eqb, ne_eqb}
use Rattle.mb_claim.specs.{ClaimAccess, ObjectTurn, part, part_on}

-- an access of the consumer lengthens its part by this access
pub part_own : (a : ClaimAccess) (h : List ClaimAccess) → part a.consumer (a ∷ h) ≡ a ∷ part a.consumer h
part_own a h = ap (λ b. cons_option (cond b (Some a) None) (part a.consumer h)) (eq-eqb a.consumer a.consumer refl)

-- an access of another consumer leaves the part as it is
pub part_other : (c : ℕ) (a : ClaimAccess) (h : List ClaimAccess) → a.consumer ≢ c → part c (a ∷ h) ≡ part c h
part_other c a h n = ap (λ b. cons_option (cond b (Some a) None) (part c h)) (ne_eqb a.consumer c n)

-- one access more, kept if it is consumer c's, adds its step to the part on cell k if it is on that cell
part_by :
    (c k : ℕ) (a : ClaimAccess) (xs : List ClaimAccess) (ys : List ObjectTurn) → part_on c k xs ≡ ys
    → (b : Bool) → eqb a.consumer c ≡ b
    → part_on c k (cons_option (cond b (Some a) None) xs)
    ≡ cons_option (cond b (cond (eqb a.cell k) (Some a.step) None) None) ys
part_by c k a xs ys e true is =
    ap₂ (λ b zs. cons_option (cond b (cond (eqb a.cell k) (Some a.step) None) None) zs) is e
part_by c k a xs ys e false is = e

-- the part on a cell, of all that a consumer did, is its part on that cell in the history
pub part_on-part : (c k : ℕ) (h : List ClaimAccess) → part_on c k (part c h) ≡ part_on c k h
part_on-part c k [] = refl
part_on-part c k (a ∷ h) =
    part_by c k a (part c h) (part_on c k h) (part_on-part c k h) (eqb a.consumer c) refl
