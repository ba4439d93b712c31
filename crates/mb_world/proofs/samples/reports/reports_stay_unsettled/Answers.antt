-- Proof of `samples::reports::reports_stay_unsettled`: a report that is not settled: its item was competed for, nobody
-- took it, and all its competitors lost it.
use Rattle.std.proofs.Common.{◌≡◌, ℕ, zero, suc, ◌∷◌, [], false, None, refl, inl, inr, arith}
use Rattle.mb_world.specs.declared.report.Note.TheVariants.{Took, Lost}
use Rattle.mb_world.specs.Theorem.{HasCompeted, HasTaken, HasTakenOrLost, diary}
use Rattle.mb_world.specs.ReportSamples.{diary_of, lost_to_each_other}
use Rattle.mb_world.proofs.ReportLists.{no_diary, not_competing, not_noted}
use Rattle.mb_world.proofs.samples.reports.reports_stay_unsettled.Goals as goal

-- no consumer but the first two has a diary
no_other : (d : ℕ) → diary (suc (suc d)) 0 lost_to_each_other ≡ None
no_other d =
    no_diary (suc (suc d)) (5 ∷ []) (5 ∷ []) (diary_of 0 (Lost 1 ∷ []) false ∷ diary_of 1 (Lost 0 ∷ []) false ∷ [])
    (omega arith)

-- nobody has taken the item
none_taken : (d : ℕ) → HasTaken d 0 0 lost_to_each_other → ⊥
none_taken zero h = let e = h.1 in cc
none_taken (suc zero) h = let e = h.1 in cc
none_taken (suc (suc d)) h = not_noted (suc (suc d)) 0 0 lost_to_each_other (Took h.0) (no_other d) h.1

-- each competitor lost the item
all_lost : (d : ℕ) → HasCompeted d 0 0 lost_to_each_other → HasTakenOrLost d 0 0 lost_to_each_other
all_lost zero h = inr (1, refl)
all_lost (suc zero) h = inr (0, refl)
all_lost (suc (suc d)) h = absurd (not_competing (suc (suc d)) 0 0 lost_to_each_other (no_other d) h)

pub returns : goal.returns
returns c settled =
    let q = settled 0 0 0 (omega arith) (inl (omega arith)) none_taken in q.2 (all_lost q.0 q.1)
