use Rattle.std.proofs.Common.{⊎_elim, arith, map, sym, ◌∙◌}
use Rattle.std.specs.Prelude.{vec_len}
use Rattle.std.proofs.lemmas.List.{length-map}
use Rattle.mb_mailbox.specs.Worked.{lists_in}
use Rattle.mb_mailbox.proofs.Final.{nothing_taken, worked_of}
use Rattle.mb_mailbox.proofs.crew.work.Goals as goal

-- if memory for the lists of jobs and ends is refused, nothing was issued
pub returns-in_default-clause-no_memory : goal.returns-in_default-clause-no_memory
returns-in_default-clause-no_memory g c = λ e. nothing_taken (lists_in c.args.items.items)
    (vec_len c.args.rngs) c.args.hub.now

pub returns-clause-all_given : goal.returns-clause-all_given
returns-clause-all_given g c = (
  (λ e. absurd (c.work_with.ensures.all_given e)),
  (λ a. absurd (⊎_elim
      (λ lists. omega (arith, lists, c.if-len-lanes_left.false, c.len.ensures, c.lanes_left.ensures))
      (λ sources. omega (
        arith,
        sources,
        c.if-len-consumers_left.false,
        c.len-else-len-lanes_left.ensures,
        c.consumers_left.ensures,
      )) a)),
)

pub returns-clause-nothing_issued : goal.returns-clause-nothing_issued
returns-clause-nothing_issued g c = λ a. absurd (⊎_elim
    (λ e. c.work_with.ensures.all_given e) (λ e. c.work_with.ensures.bad_budget e) a)

pub returns-clause-worked : goal.returns-clause-worked
returns-clause-worked g c = worked_of (g.G.Gate.may_stop c.args.gate.now) (g.G.Gate.may_pass c.args.gate.now)
    c.args.budget (vec_len c.args.rngs) (lists_in c.args.items.items) (map g.R.Rng.stream c.args.rngs.items)
    c.args.hub.now c.work_with.new.hub c.work_with.result
    (length-map c.args.rngs.items g.R.Rng.stream ∙ sym c.args.rngs.ok.0) c.work_with.ensures.called

pub returns-clause-called : goal.returns-clause-called
returns-clause-called g c = c.work_with.ensures.called

pub returns-clause-no_thread : goal.returns-clause-no_thread
returns-clause-no_thread g c = c.work_with.ensures.no_thread

pub returns-clause-some_thread : goal.returns-clause-some_thread
returns-clause-some_thread g c = c.work_with.ensures.some_thread

pub returns-clause-no_memory : goal.returns-clause-no_memory
returns-clause-no_memory g c = c.work_with.ensures.no_memory

pub returns-clause-belongs : goal.returns-clause-belongs
returns-clause-belongs g c = c.work_with.ensures.belongs
