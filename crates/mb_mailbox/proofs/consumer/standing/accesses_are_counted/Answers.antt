use Rattle.mb_mailbox.proofs.Straight.{counted, few_in_row}
use Rattle.mb_mailbox.proofs.consumer.standing.accesses_are_counted.Goals as goal

pub returns-clause-counted : goal.returns-clause-counted
returns-clause-counted c = counted c.accesses_lengthen_one_part.ensures.own_cell

pub returns-clause-few : goal.returns-clause-few
returns-clause-few c =
    few_in_row c.accesses_lengthen_one_part.ensures.own_cell c.accesses_lengthen_one_part.ensures.cells
    c.claims_are_bounded.ensures.layouts
