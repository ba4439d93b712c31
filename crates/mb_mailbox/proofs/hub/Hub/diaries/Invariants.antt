use Rattle.std.proofs.Common.{◌*◌, ◌≤◌, vec_capacity}
use Rattle.mb_mailbox.specs.Gathering.{AreDiaries}
use Rattle.mb_mailbox.proofs.hub.Hub.diaries.Given as goal

-- the diaries of the consumers before c are made, and there is room for those of all
abbrev pub invariant-loop-c : goal.invariant-loop-c
invariant-loop-c g l = record {
  made : AreDiaries l.lanes l.self (l.c * l.lanes) l.diaries.items;
  room : l.consumers * l.lanes ≤ vec_capacity l.diaries;
}
