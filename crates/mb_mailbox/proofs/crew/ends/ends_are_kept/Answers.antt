use Rattle.mb_mailbox.proofs.Endings.{kept_by, read_by, same_by}
use Rattle.mb_mailbox.proofs.crew.ends.ends_are_kept.Goals as goal

pub returns-clause-read : goal.returns-clause-read
returns-clause-read c s p loads end noted =
    read_by c.loads_meet_cells.ensures.met c.readers_follow_lanes.ensures.own
    c.parts_have_accesses.ensures.only s p loads end noted

pub returns-clause-same : goal.returns-clause-same
returns-clause-same c p budget answer s t old new i = same_by p budget answer s t old new i

pub returns-clause-kept : goal.returns-clause-kept
returns-clause-kept c p q budget answer s t old new i ne o = kept_by p q budget answer s t old new i ne o
