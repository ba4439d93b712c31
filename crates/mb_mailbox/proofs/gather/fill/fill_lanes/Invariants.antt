use Rattle.std.proofs.Common.{◌≡◌, ◌≤◌, length}
use Rattle.mb_mailbox.specs.Filling.{changed_from, with_items}
use Rattle.mb_mailbox.proofs.gather.fill.fill_lanes.Given as goal

-- to move in the put lists that remain leads to the same lanes as to move in all at first. There are enough lanes
abbrev pub invariant-loop-kept : goal.invariant-loop-kept
invariant-loop-kept g l = record {
  room : length l.puts.items ≤ length l.lanes.items;
  same : changed_from with_items 0 l.puts.items l.lanes.items
      ≡ changed_from with_items 0 l.initial.puts.items l.initial.lanes.items;
}

-- each pass of the loop takes one put list off the list
abbrev pub decreases-loop-kept : goal.decreases-loop-kept
decreases-loop-kept g l = length l.puts.items
