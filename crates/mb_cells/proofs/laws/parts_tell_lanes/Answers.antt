-- Proof of `laws::parts_tell_lanes`: a producer's own part says what its words hold and what its lane has.
use Rattle.std.proofs.Common.{refl}
use Rattle.mb_cells.proofs.laws.parts_tell_lanes.Goals as goal
use Rattle.mb_cells.specs.{Head, Item, Link}
use Rattle.mb_cells.proofs.EndMarks.{has_ended-part}
use Rattle.mb_cells.proofs.Histories.{held_alone, linked_cells-part, local}
use Rattle.mb_cells.proofs.Items.{is_put_at, put_list-part}

pub returns-clause-alone : goal.returns-clause-alone
returns-clause-alone c = held_alone

pub returns-clause-head : goal.returns-clause-head
returns-clause-head c = λ size h p l. local size h p (Head p) l refl

pub returns-clause-item : goal.returns-clause-item
returns-clause-item c = λ size h p e l has. local size h p (Item e.cell) l (e, (refl, has))

pub returns-clause-link : goal.returns-clause-link
returns-clause-link c = λ size h p e l has. local size h p (Link e.cell) l (e, (refl, has))

pub returns-clause-linked : goal.returns-clause-linked
returns-clause-linked c = λ h p. linked_cells-part p h

pub returns-clause-ended : goal.returns-clause-ended
returns-clause-ended c = λ h p. has_ended-part p h

pub returns-clause-put : goal.returns-clause-put
returns-clause-put c = put_list-part

pub returns-clause-taken : goal.returns-clause-taken
returns-clause-taken c = λ size h p k l has.
    let x = is_put_at size h p k l has in (x.entry, (x.cell, x.fetched))

pub returns-clause-linked_item : goal.returns-clause-linked_item
returns-clause-linked_item c = λ size h p k l has.
    let x = is_put_at size h p k l has in local size h p (Item k) l (x.entry, (x.cell, x.fetched))

pub returns-clause-linked_link : goal.returns-clause-linked_link
returns-clause-linked_link c = λ size h p k l has.
    let x = is_put_at size h p k l has in local size h p (Link k) l (x.entry, (x.cell, x.fetched))
