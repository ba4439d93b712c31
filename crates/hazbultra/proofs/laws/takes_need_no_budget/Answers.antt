-- Proof of `laws::takes_need_no_budget`: the law of mb_mailbox, of the mailbox's layout.
use Rattle.hazbultra.proofs.laws.takes_need_no_budget.Goals as goal

pub returns : goal.returns
returns c m few = c.full_budgets_suffice.ensures m.claims.layout m.cells.size.cells few
