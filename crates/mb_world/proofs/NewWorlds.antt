-- The state of a world in which nothing was done.
use Rattle.std.proofs.Common.{◌≡◌, ℕ, zero, suc, ◌+◌, ◌*◌, ◌<◌, List, [], length, Option, Some, None, refl, sym, ◌∙◌, ap, subst, arith}
use Rattle.std.proofs.Math.ListN.{replicate}
use Rattle.std.specs.Prelude.{slice_get}
use Rattle.std.proofs.Math.Nat.{mul-le-mul_right}
use Rattle.std.proofs.lemmas.List.{length-replicate}
use Rattle.mb_claim.specs.States.{IsMemoryOf}
use Rattle.mb_claim.specs.declared.access.Stage.TheVariants as stage
use Rattle.mb_cells.specs.State.{IsAfter, PoolState, cell_count, lane_count}
use Rattle.mb_world.specs.Vocabulary.{Note, Place, Setup, IsClaimPrefix, Stage, consumers_of, layout_of, plan_in, EndsAs, parts_of, histories_of, begins, IsWorldLawful, AreAtHeads}
use Rattle.mb_world.specs.Vocabulary.{IsPlaceAt, IsWorldAfter}
use Rattle.mb_world.specs.declared.report.Note.TheVariants.{Took, Lost, Undecided}

-- in a list of equal elements this element is at each position
get-replicate : {X : Type 0} (n i : ℕ) (x : X) → i < n → slice_get (replicate n x) i ≡ Some x
get-replicate zero i x less = absurd (omega (arith, less))
get-replicate (suc n) zero x less = refl
get-replicate (suc n) (suc i) x less = get-replicate n i x (omega (arith, less))

-- if P holds of no `Some x`, whatever P holds of is `None`
pub none_alone : {X : Type 0} (P : Option X → Type 0) → ((x : X) → P (Some x) → ⊥) → (y : Option X) → P y → y ≡ None
none_alone P never None h = refl
none_alone P never (Some x) h = absurd (never x h)

-- the position of row c and column p is within the grid
pub position_within : (c p rows columns : ℕ) → c < rows → p < columns → c * columns + p < rows * columns
position_within c p rows columns cs ps = omega (arith, mul-le-mul_right columns cs, ps)

module _ (setup : Setup)
    (fresh : (c : ℕ) → c < consumers_of (plan_in setup) → IsClaimPrefix (plan_in setup).claims c [] stage.Going)
    (one_stage : (c : ℕ) (s r : Stage) → IsClaimPrefix (plan_in setup).claims c [] s
    → IsClaimPrefix (plan_in setup).claims c [] r → s ≡ r) where
  -- no note says how a claim has ended
  no_end : (c k : ℕ) → c < consumers_of (plan_in setup) → (n : Note)
      → EndsAs (plan_in setup).claims c k n (parts_of c (histories_of [])) → ⊥
  no_end c k cs (Took v) e = e.1.1
  no_end c k cs (Lost w) e = let d = one_stage c (stage.Lost w) stage.Going e (fresh c cs) in cc
  no_end c k cs Undecided e = let d = one_stage c stage.Undecided stage.Going e (fresh c cs) in cc

  -- a world whose words are all 0, with all consumers at the heads and without notes, is what the empty history leaves
  pub empty_after : (pool : PoolState) (words : List ℕ) (places : List Place) (notes : List (Option Note))
      → IsWorldLawful (plan_in setup) []
      → lane_count pool ≡ (plan_in setup).lanes → cell_count pool ≡ (plan_in setup).claims.cells
      → IsAfter [] pool → IsMemoryOf (plan_in setup).claims words []
      → AreAtHeads (plan_in setup).lanes (consumers_of (plan_in setup) * (plan_in setup).lanes) places
      → notes ≡ replicate (consumers_of (plan_in setup) * (plan_in setup).claims.cells) None
      → IsWorldAfter [] (record { setup = setup; pool = pool; words = words; places = places; notes = notes })
  empty_after pool words places notes lawful lanes cells pool_after words_after heads notes_are = record {
    lawful = lawful;
    lanes = lanes;
    cells = cells;
    pool = pool_after;
    words = words_after;
    places_count = heads.count;
    place = λ c p cs ps.
        let q = heads.each c p ps (position_within c p (consumers_of (plan_in setup)) (plan_in setup).lanes cs ps) in (
          q.0,
          q.1,
          record {
            cells = [];
            notes = [];
            held = None;
            path = begins;
            is = subst (λ (d : Place). IsPlaceAt (layout_of setup) c p [] None d) (sym q.2) refl;
          },
        );
    notes_count = ap length notes_are
        ∙ length-replicate (consumers_of (plan_in setup) * (plan_in setup).claims.cells) None;
    note = λ c k cs ks. (
      None,
      subst (λ (ds : List (Option Note)). slice_get ds (c * (plan_in setup).claims.cells + k) ≡ Some None)
          (sym notes_are)
          (get-replicate (consumers_of (plan_in setup) * (plan_in setup).claims.cells)
          (c * (plan_in setup).claims.cells + k) None
          (position_within c k (consumers_of (plan_in setup)) (plan_in setup).claims.cells cs ks)),
      λ n. ((λ e. absurd (cc)), (λ e. absurd (no_end c k cs n e))),
    );
  }
