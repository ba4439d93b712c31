use Rattle.std.proofs.Common.{◌≡◌, ◌+◌, ◌++◌, vec_capacity, vec_len}
use Rattle.std.specs.Option.{option_map}
use Rattle.mb_mailbox.specs.Gathering.{outline_row}
use Rattle.mb_mailbox.proofs.gather.reports.add_outlines.Given as goal

-- the outlines of the diaries on the lanes before p are added, and the list's room is as before
abbrev pub invariant-loop-p : goal.invariant-loop-p
invariant-loop-p g l = record {
  items : l.diaries.items ≡ l.initial.diaries.items ++ outline_row l.c (option_map (λ k. k.now) l.kept) l.p;
  len : vec_len l.diaries ≡ vec_len l.initial.diaries + l.p;
  room : vec_capacity l.diaries ≡ vec_capacity l.initial.diaries;
}
