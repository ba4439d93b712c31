use Rattle.std.proofs.Common.{◌≡◌, ◌≤◌, take}
use Rattle.mb_mailbox.specs.Gathering.{count_missing}
use Rattle.mb_mailbox.proofs.gather.missing.Given as goal

-- `count` is the number of those missing among the elements before this one
abbrev pub invariant-loop-one : goal.invariant-loop-one
invariant-loop-one g l = record {
  count : l.count ≡ count_missing (take l.one-index l.given);
  few : l.count ≤ l.one-index;
}
