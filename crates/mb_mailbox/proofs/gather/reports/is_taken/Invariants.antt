use Rattle.std.proofs.Common.{◌≡◌, false, slice_get}
use Rattle.mb_world.specs.Reporting.{any_below, is_took}
use Rattle.mb_mailbox.specs.Gathering.{notes_among}
use Rattle.mb_mailbox.proofs.gather.reports.is_taken.Given as goal

-- no consumer before c has noted that it took the item
abbrev pub invariant-loop-c : goal.invariant-loop-c
invariant-loop-c g l =
    any_below l.c (λ c. is_took (slice_get (notes_among l.lanes c l.p l.diaries) l.j)) ≡ false
