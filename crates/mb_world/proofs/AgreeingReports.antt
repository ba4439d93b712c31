-- A small report that agrees with an assignment.
use Rattle.std.proofs.Common.{◌≡◌, ◌↔◌, ℕ, zero, suc, ◌<◌, ◌≤◌, true, false, List, [], ◌∷◌, length, Some, refl, inl, arith}
use Rattle.mb_world.specs.declared.report.Note.TheVariants.{Took, Lost}
use Rattle.mb_world.specs.Theorem.{DiaryView, HasCompeted, HasLostTo, HasTaken, IsLossTo, is_begun, ledger, notes, share}
use Rattle.mb_world.specs.Agreement.{AgreesWith}
use Rattle.mb_world.specs.ReportSamples.{diary_of, first_to, taken_and_lost}
use Rattle.mb_world.proofs.ReportLists.{no_diary, not_noted}
use Rattle.mb_world.proofs.OneLaneReports.{agrees_on_lane}

-- the diaries of the report `taken_and_lost`. The lemmas below are parts of `AgreesOnLane` for it, or help with one
abbrev taken_diaries : List DiaryView
taken_diaries = diary_of 0 (Took 5 ∷ []) false ∷ diary_of 1 (Lost 0 ∷ []) false ∷ []

-- only consumers of the report are given an item
taken_known : (c j : ℕ) → first_to 0 0 j ≡ Some c → c < 2
taken_known c zero e = let f : 0 ≡ c = cc in omega (arith, f)
taken_known c (suc j) e = absurd (cc)

-- an item is taken exactly by the consumer to which it is given
taken_taken : (c j : ℕ) → c < 2 → HasTaken c 0 j taken_and_lost ↔ (first_to 0 0 j ≡ Some c)
taken_taken zero zero less = ((λ h. refl), (λ e. (5, refl)))
taken_taken zero (suc j) less = ((λ h. absurd (let e = h.1 in cc)), (λ e. absurd (cc)))
taken_taken (suc zero) zero less = ((λ h. absurd (let e = h.1 in cc)), (λ e. absurd (cc)))
taken_taken (suc zero) (suc j) less = ((λ h. absurd (let e = h.1 in cc)), (λ e. absurd (cc)))
taken_taken (suc (suc c)) j less = absurd (omega (arith, less))

-- no item but the one put is given, and it is given only to a consumer that competed for it
taken_competitors : (c j : ℕ) → c < 2 → first_to 0 0 j ≡ Some c → (j < 1) × HasCompeted c 0 j taken_and_lost
taken_competitors zero zero less e = (omega arith, inl (omega arith))
taken_competitors (suc c) zero less e = absurd (cc)
taken_competitors c (suc j) less e = absurd (cc)

-- each loss of the item names consumer 0
taken_loser : (d v : ℕ) → HasLostTo d v 0 0 taken_and_lost → v ≡ 0
taken_loser zero v e = absurd (cc)
taken_loser (suc zero) v e = cc
taken_loser (suc (suc d)) v e =
    absurd (not_noted (suc (suc d)) 0 0 taken_and_lost (Lost v)
    (no_diary (suc (suc d)) (5 ∷ []) [] taken_diaries (omega arith)) e)

-- `IsLossTo` holds of each loss
taken_losses : (c w j : ℕ) → c < 2 → HasLostTo c w 0 j taken_and_lost → IsLossTo (first_to 0) c w 0 j taken_and_lost
taken_losses zero w zero less e = absurd (cc)
taken_losses zero w (suc j) less e = absurd (cc)
taken_losses (suc zero) zero zero less e = record {
  another = λ f. cc;
  competed = inl (omega arith);
  only = taken_loser;
  assigned = inl refl;
}
taken_losses (suc zero) (suc w) zero less e = absurd (cc)
taken_losses (suc zero) w (suc j) less e = absurd (cc)
taken_losses (suc (suc c)) w j less e = absurd (omega (arith, less))

-- each ledger is the share of its consumer
taken_ledgers : (c : ℕ) → c < 2 → ledger c 0 taken_and_lost ≡ share (first_to 0) c 0 taken_and_lost
taken_ledgers zero less = refl
taken_ledgers (suc zero) less = refl
taken_ledgers (suc (suc c)) less = absurd (omega (arith, less))

-- no consumer has more notes than items were put
taken_within : (c : ℕ) → c < 2 → length (notes c 0 taken_and_lost) ≤ 1
taken_within zero less = omega arith
taken_within (suc zero) less = omega arith
taken_within (suc (suc c)) less = absurd (omega (arith, less))

-- a begun claim is on the item
taken_begun : (c : ℕ) → c < 2 → is_begun c 0 taken_and_lost ≡ true → length (notes c 0 taken_and_lost) < 1
taken_begun zero less e = absurd (cc)
taken_begun (suc zero) less e = absurd (cc)
taken_begun (suc (suc c)) less e = absurd (omega (arith, less))

-- the report agrees with the assignment that gives the item to consumer 0
pub taken_agrees : AgreesWith (first_to 0) taken_and_lost
taken_agrees = agrees_on_lane (first_to 0) (5 ∷ []) [] taken_diaries (record {
  elsewhere = λ p j. refl;
  known = taken_known;
  taken = taken_taken;
  ledgers = taken_ledgers;
  competitors = taken_competitors;
  losses = taken_losses;
  within = taken_within;
  begun_within = taken_begun;
  left = refl;
})
