-- Proof of `samples::paths::parts_do_not_fit`: each clause has two parts of consumer 0 that do not fit each other.
use Rattle.std.proofs.Common.{◌≡◌, ℕ, zero, suc, List, [], ◌∷◌, refl, sym, ap, subst, inl, inr, arith}
use Rattle.std.proofs.lemmas.Bool.{ne_eqb}
use Rattle.mb_claim.specs.Samples.{two_consumers}
use Rattle.mb_claim.specs.declared.access.Stage.TheVariants as stage
use Rattle.mb_quorum.specs.declared.table.TableName.TheVariants.{Unary}
use Rattle.mb_world.specs.Imports.{Head, IsClaimPrefix, Item, Link, ObjectTurn, PoolAccess, Stage, Word, load, place_past}
use Rattle.mb_world.specs.Fitting.{HasRead, cells_met}
use Rattle.mb_world.specs.PathSamples.{passed_unloaded, two_cells, won_steps}
use Rattle.mb_world.proofs.samples.paths.parts_do_not_fit.Goals as goal

-- a claim of consumer 0 goes on before its first step, if claims do before each step, and `won_steps` win one
fresh : ((x : ObjectTurn) (xs : List ObjectTurn) (s : Stage) → IsClaimPrefix two_cells 0 (x ∷ xs) s
    → IsClaimPrefix two_cells 0 xs stage.Going) → IsClaimPrefix two_cells 0 won_steps stage.Won
    → IsClaimPrefix two_cells 0 [] stage.Going
fresh going all = none_yet won_steps stage.Won all (λ e. cc)
  where
    none_yet : (xs : List ObjectTurn) (s : Stage) → IsClaimPrefix two_cells 0 xs s → (xs ≡ [] → s ≡ stage.Going)
        → IsClaimPrefix two_cells 0 [] stage.Going
    none_yet [] s q is = subst (λ r. IsClaimPrefix two_cells 0 [] r) (is refl) q
    none_yet (x ∷ xs) s q is = none_yet xs stage.Going (going x xs s q) (λ e. refl)

-- if the parts fit, the claim is won. But it goes on, as it has no step
pub returns-clause-won : goal.returns-clause-won
returns-clause-won c fit =
    let table = c.named_tables_are_lawful.ensures.lawful Unary 2 (omega arith) in
    let goes =
    fresh (λ x xs s. c.claims_have_one_next_op.ensures.going two_consumers 0 x xs s)
    c.samples_are_lawful.ensures.won.1 in
    let won = fit.won 0 5 (load 0 (Item 0) 5, inl refl, refl, refl) in
    let e = c.prefixes_have_one_stage.ensures two_consumers 0 [] stage.Going stage.Won table goes won in
    cc

-- if the parts fit, the claim has ended. But it goes on, as it has no step
pub returns-clause-ended : goal.returns-clause-ended
returns-clause-ended c fit =
    let table = c.named_tables_are_lawful.ensures.lawful Unary 2 (omega arith) in
    let goes =
    fresh (λ x xs s. c.claims_have_one_next_op.ensures.going two_consumers 0 x xs s)
    c.samples_are_lawful.ensures.won.1 in
    let end = fit.ended 0 0 (load 0 (Link 0) 0, inl refl, refl, refl) in
    end.2 (c.prefixes_have_one_stage.ensures two_consumers 0 [] end.0 stage.Going table end.1 goes)

-- in `passed_unloaded` the item is not loaded
unloaded : (v : ℕ) → HasRead (Item 0) v passed_unloaded.reads → ⊥
unloaded v (a, inl e, w, _) = let f : Link 0 ≡ Item 0 = subst (λ (b : PoolAccess). b.word ≡ Item 0) (sym e) w in cc
unloaded v (a, inr (inl e), w, _) =
    let f : Head 0 ≡ Item 0 = subst (λ (b : PoolAccess). b.word ≡ Item 0) (sym e) w in cc
unloaded v (a, inr (inr none), w, _) = none

-- if the parts fit, the item is loaded, as the claim is won
pub returns-clause-taken : goal.returns-clause-taken
returns-clause-taken c fit =
    let item = fit.taken 0 0 (load 0 (Link 0) 0, inl refl, refl, refl) c.samples_are_lawful.ensures.won.1 in
    unloaded item.0 item.1

-- if the parts fit, a load gave the cell of the claim. But there is no load
pub returns-clause-met : goal.returns-clause-met
returns-clause-met c fit = fit.met 0 (λ e. cc)

-- the lane of a head, and 0 for other words
abbrev head_number : Word → ℕ
head_number (Head p) = p
head_number _ = 0

-- 0 is not one more than a number
not_zero : (p : ℕ) → 0 ≡ suc p → ⊥
not_zero p e = omega (arith, e)

-- Head 0 is not the word past the cells met on lane p: on lane 0 cell 0 was met, and other lanes have other heads
not_again : (p : ℕ) → Head 0 ≡ place_past p (cells_met p (load 0 (Head 0) 1 ∷ [])) → ⊥
not_again zero e = cc
not_again (suc p) e =
    let f : Head 0 ≡ Head (suc p) = rw (ne_eqb 0 (suc p) (λ g. not_zero p g)) at e in
    not_zero p (ap head_number f)

pub returns-clause-follows : goal.returns-clause-follows
returns-clause-follows c fit = let lane = fit.follows.0 tt in not_again lane.0 lane.1
