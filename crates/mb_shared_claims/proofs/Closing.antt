-- How many seats are out, and what the hub has when none is.
use Rattle.std.proofs.Common.{◌≡◌, ◌⊎◌, ℕ, zero, suc, ◌+◌, ◌≤◌, Some, None, List, [], ◌∷◌, ◌++◌, length, set, refl}
use Rattle.std.proofs.Common.{sym, ◌∙◌, ⊎_elim, inl, inr, arith, le_refl}
use Rattle.mb_shared_claims.specs.Types.{ClaimAccess, TableSize, View, Issuing}
use Rattle.mb_shared_claims.specs.Views.{claims_of_size, Roll, WasTaken, IsOut, IsViewAt}
use Rattle.mb_shared_claims.specs.Rule.{IsClaimsState}
use Rattle.mb_shared_claims.specs.Seats.{count_out, taken_part, AreOfOneHistory}

-- with one number more, whose seat is out, one seat more is out
pub count_out-snoc : (roll : Roll) → count_out (roll ++ None ∷ []) ≡ count_out roll + 1
count_out-snoc [] = refl
count_out-snoc (Some done ∷ rest) = count_out-snoc rest
count_out-snoc (None ∷ rest) = let x = count_out-snoc rest in omega arith

-- after the part of a seat that was out is put into the roll, one seat fewer is out
pub count_out-set :
    (roll : Roll) (c : ℕ) (done : List ClaimAccess) → IsOut roll c
    → count_out (set roll c (Some done)) + 1 ≡ count_out roll
count_out-set [] c done e = absurd (cc)
count_out-set (None ∷ rest) zero done e = omega arith
count_out-set (Some p ∷ rest) zero done e = absurd (cc)
count_out-set (None ∷ rest) (suc c) done e = let x = count_out-set rest c done e in omega arith
count_out-set (Some p ∷ rest) (suc c) done e = count_out-set rest c done e

-- no more seats are out than numbers were issued
pub count_out_le : (roll : Roll) → count_out roll ≤ length roll
count_out_le [] = le_refl 0
count_out_le (None ∷ rest) = let x = count_out_le rest in omega arith
count_out_le (Some p ∷ rest) = let x = count_out_le rest in omega arith

-- if no seat is out, the part of each number issued is in the roll
all_in :
    (roll : Roll) (c : ℕ) → count_out roll ≡ 0
    → ((done : List ClaimAccess) × WasTaken roll c done × (taken_part roll c ≡ done))
    ⊎ ((length roll ≤ c) × (taken_part roll c ≡ []))
all_in [] c e = inr (omega arith, refl)
all_in (Some done ∷ rest) zero e = inl (done, refl, refl)
all_in (Some done ∷ rest) (suc c) e = ⊎_elim inl (λ t. let far = t.0 in inr (omega arith, t.1)) (all_in rest c e)
all_in (None ∷ rest) c e = absurd (omega arith)

-- if no seat is out, the parts that the hub has are those of one lawful history
pub ends :
    (k size : TableSize) (words : List ℕ) (views : List View) (id : ℕ) (roll : Roll) → IsClaimsState k words views
    → IsViewAt views id (Issuing size roll) → count_out roll ≡ 0
    → AreOfOneHistory (claims_of_size k) (taken_part roll)
ends k size words views id roll held is none_out =
    let plan = held.0 in
    let s = held.1 in
    let in_roll : length roll ≡ plan.given = (s.fits id (Issuing size roll) is).1.1 in (
      plan.history,
      s.memory.lawful,
      λ c.
          ⊎_elim
          (λ (t : (done : List ClaimAccess) × WasTaken roll c done × (taken_part roll c ≡ done)).
          sym (t.2 ∙ (s.parts id c t.0 (Issuing size roll, is, t.1)).2))
          (λ (t : (length roll ≤ c) × (taken_part roll c ≡ [])).
          let far = t.0 in s.others c (omega arith) ∙ sym t.1)
          (all_in roll c none_out),
    )
