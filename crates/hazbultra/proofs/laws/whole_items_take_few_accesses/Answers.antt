-- Proof of `laws::whole_items_take_few_accesses`: how many accesses a claim and its two loads are at most.
use Rattle.std.proofs.Common.{◌≡◌, ◌+◌, ◌∙◌, ℕ, refl, sym, ap, arith, false, true}
use Rattle.mb_quorum.specs.Tables.{table_of}
use Rattle.mb_quorum.specs.declared.table.TableName.TheVariants.{Bits}
use Rattle.mb_claim.specs.Vocabulary.{most_accesses, most_on_objects, quorums_of, shaped_steps}
use Rattle.mb_claim.proofs.Bounds.{row_steps}
use Rattle.mb_mailbox.specs.Vocabulary.{MailboxView, plan_at}
use Rattle.mb_world.specs.Vocabulary.{Plan}
use Rattle.hazbultra.specs.Defaults.{by_default, by_fast_last}
use Rattle.hazbultra.proofs.laws.whole_items_take_few_accesses.Goals as goal

-- by `FastLast` and with n consumers a claim makes at most the accesses that `shaped_steps` counts
by_number : (n : ℕ) (m : MailboxView) (p k : ℕ) → plan_at m ≡ by_fast_last p n k
    → most_accesses m.claims.layout + 2 ≡ shaped_steps (table_of Bits n) (record { fast = true; last = true }) 4 + 2
by_number n m p k is =
    let layout = m.claims.layout in
    ap (λ x. x + 2) (sym (row_steps (quorums_of layout) layout.shape layout.pairs)
    ∙ ap (λ (plan : Plan). most_on_objects plan.claims.table plan.claims.kinds) is
    ∙ row_steps (table_of Bits n) (record { fast = true; last = true }) 4)

-- by default a cell has a last object alone, on which a claim makes one access
pub returns-clause-exchange : goal.returns-clause-exchange
unfolding lib.Count.ones
returns-clause-exchange c = λ m p n k is.
    let layout = m.claims.layout in
    ap (λ x. x + 2) (sym (row_steps (quorums_of layout) layout.shape layout.pairs)
    ∙ ap (λ (plan : Plan). most_on_objects plan.claims.table plan.claims.kinds) is
    ∙ row_steps (table_of Bits n) (record { fast = false; last = true }) 0) ∙ omega arith

pub returns-clause-one : goal.returns-clause-one
unfolding lib.Count.ones
returns-clause-one c = λ m p k is. by_number 1 m p k is ∙ refl

pub returns-clause-two : goal.returns-clause-two
unfolding lib.Count.ones
returns-clause-two c = λ m p k is. by_number 2 m p k is ∙ refl

pub returns-clause-four : goal.returns-clause-four
unfolding lib.Count.ones
returns-clause-four c = λ m p k is. by_number 4 m p k is ∙ refl

pub returns-clause-sixteen : goal.returns-clause-sixteen
unfolding lib.Count.ones
returns-clause-sixteen c = λ m p k is. by_number 16 m p k is ∙ refl

pub returns-clause-most : goal.returns-clause-most
unfolding lib.Count.ones
returns-clause-most c = λ m p k is. by_number 64 m p k is ∙ refl
