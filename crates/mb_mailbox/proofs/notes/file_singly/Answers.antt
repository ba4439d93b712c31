-- Proof of `file_singly`: adds the notes of marks, one after the other.
use Rattle.std.proofs.Common.{◌+◌, ◌<◌, ◌∙◌, ap, arith, length}
use Rattle.mb_mailbox.specs.LaneNotes.{words_in}
use Rattle.mb_mailbox.proofs.LaneLists.{few_read, filed_more, read_more}
use Rattle.mb_mailbox.proofs.notes.file_singly.Goals as goal

pub file_mark-requires : goal.file_mark-requires
file_mark-requires g c =
    let few = few_read c.loop-at.at c.args.marks.now in
    let read = c.loop-at.invariant.read in
    omega (arith, few, read)

-- the note of the next mark and the next word is added to the diary of its lane
pub loop-at-preserved : goal.loop-at-preserved
loop-at-preserved g c =
    let ms = c.args.marks.now in
    let k = c.loop-at.at in
    let low : k < length ms = omega arith in
    let before = c.loop-at.invariant in
    let d = c.index-marks-at.result in
    let is = c.mark.ensures ∙ c.index-marks-at.is in
    let more = read_more ms k d low in
    let words = c.file_mark.ensures.read ∙ ap (λ m. c.loop-at.read + words_in m) is in
    let read = before.read in
    let since = before.since in
    record {
      filed = filed_more ms c.args.words.now k c.loop-at.read c.mark.result d c.loop-at.row
          c.file_mark.new.row low is before.read before.filed c.in_ok-file_mark.ensures.notes
          c.in_ok-file_mark.ensures.same;
      read = omega (arith, words, read, more);
      same = c.in_ok-file_mark.ensures.same ∙ before.same;
      since = omega (arith, since);
    }

-- if the loop ends since losses on one lane may follow, the note of the last mark read is in the diary of its lane
pub returns-then-is_run-clause-filed : goal.returns-then-is_run-clause-filed
returns-then-is_run-clause-filed g c =
    let ms = c.args.marks.now in
    let k = c.loop-at.at in
    let before = c.loop-at.invariant in
    let is = c.mark.ensures ∙ c.index-marks-at.is in
    filed_more ms c.args.words.now k c.loop-at.read c.mark.result c.index-marks-at.result c.loop-at.row
    c.file_mark.new.row (omega arith) is before.read before.filed c.in_ok-file_mark.ensures.notes
    c.in_ok-file_mark.ensures.same

pub returns-then-is_run-clause-read : goal.returns-then-is_run-clause-read
returns-then-is_run-clause-read g c =
    let is = c.mark.ensures ∙ c.index-marks-at.is in
    let more = read_more c.args.marks.now c.loop-at.at c.index-marks-at.result (omega arith) in
    let words = c.file_mark.ensures.read ∙ ap (λ m. c.loop-at.read + words_in m) is in
    let read = c.loop-at.invariant.read in
    omega (arith, words, read, more)
