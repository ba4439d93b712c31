-- How many accesses a claim can still make at most (`steps_left`).
use Rattle.std.proofs.Common.{◌≡◌, ◌≢◌, ◌+◌, ◌<◌, ◌≤◌, ℕ, zero, suc, Option, Some, None, MatchOption, List, [], ◌∷◌}
use Rattle.std.proofs.Common.{refl, sym, ◌∙◌, ap, slice_get, drop, arith}
use Rattle.std.proofs.lemmas.Option.{none-some, same_Some}
use Rattle.mb_quorum.specs.Vocabulary.{QuorumTable}
use Rattle.mb_deciding.specs.Vocabulary.{turns_left, most_turns}
use Rattle.mb_claim.specs.{Kind, Claim, Layout, Stage, Going, Won, Lost, Undecided, quorums_of, kinds_of}
use Rattle.mb_claim.specs.{most_on_objects, steps_left, steps_left_at}

-- the objects from object o on allow as many accesses as object o and those after it together
pub most_from :
    (t : QuorumTable) (kinds : List Kind) (o : ℕ) (kind : Kind) → slice_get kinds o ≡ Some kind
    → most_on_objects t (drop o kinds) ≡ most_turns t kind + most_on_objects t (drop (suc o) kinds)
most_from t [] o kind e = absurd (none-some kind e)
most_from t (k ∷ ks) zero kind e = ap (λ j. most_turns t j + most_on_objects t ks) (same_Some k kind e)
most_from t (k ∷ ks) (suc o) kind e = most_from t ks o kind e

-- ---- how many accesses are left, by the stage
-- a claim that is won has ended
pub won_ended : Won ≢ Going
won_ended e = cc

-- a claim that is lost has ended
pub lost_ended : (winner : ℕ) → Lost winner ≢ Going
lost_ended winner e = cc

-- no access is left to a claim that has ended
pub ended_left : (layout : Layout) (claim : Claim) (s : Stage) → claim.stage ≡ s → s ≢ Going
    → steps_left layout claim ≡ 0
ended_left layout claim Going e ended = absurd (ended refl)
ended_left layout claim Won e ended = ap (λ s. steps_left_at layout s claim.object claim.place) e
ended_left layout claim (Lost winner) e ended = ap (λ s. steps_left_at layout s claim.object claim.place) e
ended_left layout claim Undecided e ended = ap (λ s. steps_left_at layout s claim.object claim.place) e

-- the accesses left to a claim that is going are counted from its object and its place there
pub going_left :
    (layout : Layout) (claim : Claim) → claim.stage ≡ Going
    → steps_left layout claim ≡ steps_left_at layout Going claim.object claim.place
going_left layout claim e = ap (λ s. steps_left_at layout s claim.object claim.place) e

-- ---- fewer accesses are left after one
module _ (layout : Layout) (old now : Claim) (going : old.stage ≡ Going) where
  -- fewer accesses are left if the claim stays on its object, at a place with fewer turns left
  pub fewer_here :
      now.stage ≡ Going → now.object ≡ old.object
      → turns_left (quorums_of layout) now.place < turns_left (quorums_of layout) old.place
      → steps_left layout now < steps_left layout old
  fewer_here goes same fewer =
      let behind = ap (λ o. most_on_objects (quorums_of layout) (drop (suc o) (kinds_of layout))) same in
      omega (arith, going_left layout old going, going_left layout now goes, behind, fewer)

  -- fewer accesses are left if the claim has ended
  pub fewer_ended :
      now.stage ≢ Going → 0 < turns_left (quorums_of layout) old.place → steps_left layout now < steps_left layout old
  fewer_ended ended some = omega (arith, going_left layout old going, ended_left layout now now.stage refl ended, some)

  -- fewer accesses are left if the claim has passed to the next object or, if there is none, is undecided
  pub fewer_passed :
      0 < turns_left (quorums_of layout) old.place
      → (next : Option Kind) → slice_get (kinds_of layout) (old.object + 1) ≡ next
      → MatchOption next (now.stage ≡ Undecided)
      (λ kind. (now.stage ≡ Going) × (now.object ≡ old.object + 1)
      × (turns_left (quorums_of layout) now.place ≤ most_turns (quorums_of layout) kind))
      → steps_left layout now < steps_left layout old
  fewer_passed some None is passed = fewer_ended (λ g. undecided_going (sym passed ∙ g)) some
    where
      -- an undecided claim is not going
      undecided_going : Undecided ≡ Going → ⊥
      undecided_going e = cc
  fewer_passed some (Some kind) is passed =
      let n : suc old.object ≡ old.object + 1 = omega arith in
      let from =
      most_from (quorums_of layout) (kinds_of layout) (suc old.object) kind (ap (slice_get (kinds_of layout)) n ∙ is) in
      let behind =
      ap (λ o. most_on_objects (quorums_of layout) (drop (suc o) (kinds_of layout))) (passed.1 ∙ sym n) in
      omega (arith, going_left layout old going, going_left layout now passed.0, from, behind, passed.2, some)
