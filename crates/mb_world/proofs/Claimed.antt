-- The steps of a consumer on a cell (`claim_part`), and how one more access to the claims changes them.
use Rattle.std.proofs.Common.{◌≡◌, ◌⊎◌, ℕ, List, ◌∷◌, refl, inl, inr}
use Rattle.std.proofs.lemmas.Bool.{cases_eq, eq-eqb, ne_eqb}
use Rattle.mb_world.specs.Imports.{ClaimAccess, claim_part}

-- a step of consumer c on cell k is the newest of the part of c there
pub part-own : (c k : ℕ) (a : ClaimAccess) (h : List ClaimAccess) → a.consumer ≡ c → a.cell ≡ k
    → claim_part c k (a ∷ h) ≡ a.step ∷ claim_part c k h
part-own c k a h own here = rw (eq-eqb a.consumer c own, eq-eqb a.cell k here) refl

-- a step on another cell leaves the part of consumer c on cell k as it is
pub part-elsewhere : (c k : ℕ) (a : ClaimAccess) (h : List ClaimAccess) → (a.cell ≡ k → ⊥)
    → claim_part c k (a ∷ h) ≡ claim_part c k h
part-elsewhere c k a h other = by (cases_eq a.consumer c)
  where
    by : (a.consumer ≡ c) ⊎ (a.consumer ≡ c → ⊥) → claim_part c k (a ∷ h) ≡ claim_part c k h
    by (inl own) = rw (eq-eqb a.consumer c own, ne_eqb a.cell k other) refl
    by (inr ne) = rw (ne_eqb a.consumer c ne) refl

-- a step of another consumer leaves the part of consumer c on cell k as it is
pub part-another : (c k : ℕ) (a : ClaimAccess) (h : List ClaimAccess) → (a.consumer ≡ c → ⊥)
    → claim_part c k (a ∷ h) ≡ claim_part c k h
part-another c k a h ne = rw (ne_eqb a.consumer c ne) refl
