-- Proof of `states::calls_leave_states`: how a call of the pool for a producer changes the state.
use Rattle.std.proofs.Common.{ℕ, refl, sym, subst, inl, inr, arith}
use Rattle.std.specs.Prelude.{IsSome, Option}
use Rattle.mb_cells.specs.declared.answer.Finish.{Finish}
use Rattle.mb_cells.specs.declared.answer.Offer.{Offer}
use Rattle.mb_cells.specs.Standing.{IsLaneAfter}
use Rattle.mb_world.specs.Imports.{Producer, part}
use Rattle.mb_world.specs.Setups.{plan_in}
use Rattle.mb_world.specs.World.{pool_accesses}
use Rattle.mb_world.proofs.ProducerStates.{finished, offered, pushed}
use Rattle.mb_world.proofs.world.states.calls_leave_states.Goals as goal

pub returns-clause-offered : goal.returns-clause-offered
returns-clause-offered c s h p x z pool is ps meets same =
    offered s h is p ps (λ a. c.history_extends.ensures.producer (plan_in s.setup) h p a is.lawful) pool same x z meets

pub returns-clause-pushed : goal.returns-clause-pushed
returns-clause-pushed c s h p z pool is ps meets same =
    pushed s h is p ps (λ a. c.history_extends.ensures.producer (plan_in s.setup) h p a is.lawful) pool same z meets

pub returns-clause-finished : goal.returns-clause-finished
returns-clause-finished c s h p z pool is ps meets same =
    finished s h is p ps (λ a. c.history_extends.ensures.producer (plan_in s.setup) h p a is.lawful) pool same z meets

pub returns-clause-offer_refused : goal.returns-clause-offer_refused
returns-clause-offer_refused c s h p x r pool is ps (inl past) keeps = absurd (omega (arith, past.0, ps))
returns-clause-offer_refused c s h p x r pool is ps (inr (_, (lane, why, at, refuses, _))) keeps =
    keeps (pool_accesses h) lane is.pool
    (subst (λ (n : ℕ). IsLaneAfter n p lane (part (Producer p) (pool_accesses h))) (sym is.cells) at)
    (subst (λ (o : Option Offer). IsSome o) (sym refuses) refl)

pub returns-clause-finish_refused : goal.returns-clause-finish_refused
returns-clause-finish_refused c s h p r pool is ps (inl past) keeps = absurd (omega (arith, past.0, ps))
returns-clause-finish_refused c s h p r pool is ps (inr (_, (lane, why, at, refuses, _))) keeps =
    keeps (pool_accesses h) lane is.pool
    (subst (λ (n : ℕ). IsLaneAfter n p lane (part (Producer p) (pool_accesses h))) (sym is.cells) at)
    (subst (λ (o : Option Finish). IsSome o) (sym refuses) refl)
