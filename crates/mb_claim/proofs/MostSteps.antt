-- No more accesses are left to a claim than its layout allows (`most_accesses`).
use Rattle.std.proofs.Common.{◌≡◌, ◌<◌, ◌≤◌, ℕ, suc, List, [], ◌∷◌, ◌++◌, refl, ◌∙◌, ap, ap₂, length, drop, arith}
use Rattle.mb_deciding.specs.Vocabulary.{PcIsAt, most_turns, turns_left}
use Rattle.mb_claim.specs.{Kind, Pc, Turn, ObjectTurn, Claim, Layout, Stage, Going, Won, Lost, Undecided, IsClaimIn}
use Rattle.mb_claim.specs.{quorums_of, kinds_of, most_on_objects, most_accesses, steps_left}
use Rattle.mb_claim.proofs.Bounds.{most-append, row_steps}
use Rattle.mb_claim.proofs.StepsLeft.{ended_left, going_left, won_ended, lost_ended}

-- if an object of a row and all objects before it are dropped, the objects after it are left
past_one : (before : List Kind) (kind : Kind) (after : List Kind)
    → drop (suc (length before)) (before ++ kind ∷ after) ≡ after
past_one [] kind after = refl
past_one (k ∷ before) kind after = past_one before kind after

module _ (layout : Layout) (claim : Claim) (xs : List ObjectTurn) (of : IsClaimIn layout claim xs)
    (most : (kind : Kind) (v : ℕ) (pc : Pc) (turns : List Turn) → v < (quorums_of layout).values
    → PcIsAt (quorums_of layout) kind v pc turns
    → turns_left (quorums_of layout) pc ≤ most_turns (quorums_of layout) kind) where
  -- a claim that is going has no more accesses left than its layout allows
  going_most : claim.stage ≡ Going → steps_left layout claim ≤ most_accesses layout
  going_most goes =
      let t = quorums_of layout in
      let at = of.stands goes in
      let rest : drop (suc claim.object) (kinds_of layout) ≡ at.after =
      ap₂ (λ o ks. drop (suc o) ks) at.number at.order ∙ past_one at.before at.kind at.after in
      omega (
        arith,
        going_left layout claim goes,
        ap (most_on_objects t) rest,
        ap (most_on_objects t) at.order,
        most-append t at.before (at.kind ∷ at.after),
        row_steps t layout.shape layout.pairs,
        most at.kind at.input claim.place at.turns at.within at.place,
      )

  -- a claim with any stage has no more accesses left than its layout allows
  by_stage : (s : Stage) → claim.stage ≡ s → steps_left layout claim ≤ most_accesses layout
  by_stage Going e = going_most e
  by_stage Won e = let none = ended_left layout claim Won e won_ended in omega (arith, none)
  by_stage (Lost winner) e = let none = ended_left layout claim (Lost winner) e (lost_ended winner)
      in omega (arith, none)
  by_stage Undecided e = let none = ended_left layout claim Undecided e (λ u. cc) in omega (arith, none)

  -- a claim has no more accesses left than its layout allows
  pub most_steps : steps_left layout claim ≤ most_accesses layout
  most_steps = by_stage claim.stage refl
