use Rattle.std.proofs.Common.{◌≡◌, ◌+◌, ◌-◌, vec_capacity, vec_len}
use Rattle.mb_mailbox.specs.LaneNotes.{AreLosses}
use Rattle.mb_mailbox.proofs.notes.losses.Given as goal

-- the marks from `from` on and before the next are losses whose notes were added, and the list's room is as before
abbrev pub invariant-loop-list : goal.invariant-loop-list
invariant-loop-list g l = record {
  losses : AreLosses l.lane l.from (vec_len l.list + l.ahead) l.marks l.initial.list.items l.list.items;
  room : vec_capacity l.list ≡ vec_capacity l.initial.list;
}

-- each pass of the loop adds a note
abbrev pub decreases-loop-list : goal.decreases-loop-list
decreases-loop-list g l = l.full - vec_len l.list
