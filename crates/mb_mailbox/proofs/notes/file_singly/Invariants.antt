use Rattle.std.proofs.Common.{◌≡◌, ◌-◌, ◌≤◌, [], length, map, take}
use Rattle.mb_mailbox.specs.Filling.{with_notes}
use Rattle.mb_mailbox.specs.LaneNotes.{AreFiled, words_among}
use Rattle.mb_mailbox.proofs.notes.file_singly.Given as goal

-- the notes of the marks before the next are in the diaries of their lanes, and `read` counts the words that they
-- needed. The diaries changed in nothing but their notes
abbrev pub invariant-loop-at : goal.invariant-loop-at
invariant-loop-at g l = record {
  filed : AreFiled l.marks l.words l.at l.row;
  read : l.read ≡ words_among (take l.at l.marks);
  same : map (with_notes []) l.row ≡ map (with_notes []) l.initial.row;
  since : l.from ≤ l.at;
}

-- each pass of the loop files a mark
abbrev pub decreases-loop-at : goal.decreases-loop-at
decreases-loop-at g l = length l.marks - l.at
