-- Proof of `file`: adds a note to the diary of its lane, if that lane has one.
use Rattle.std.proofs.Common.{◌≡◌, ◌<◌, [], ap, arith, get_or, length}
use Rattle.std.specs.Prelude.{Some, slice_get}
use Rattle.std.proofs.lemmas.Option.{slice_get-get_or}
use Rattle.mb_mailbox.specs.Filling.{with_notes}
use Rattle.mb_mailbox.proofs.LaneLists.{filed_on, same_beside}
use Rattle.mb_mailbox.proofs.notes.file.Goals as goal

-- d is the diary of the note's lane
pub returns-in_ok-add_note : goal.returns-in_ok-add_note
returns-in_ok-add_note g c =
    let ds = c.args.row.now in
    let p = c.args.lane in
    let d = get_or ds p c.index-row-lane.result in
    let low : p < length ds = omega arith in
    let at : slice_get ds p ≡ Some d = slice_get-get_or ds p c.index-row-lane.result low in
    let put = c.in_ok-add_note.ensures in
    record {
      notes = filed_on ds p c.args.note d c.add_note.new.diary at put;
      same = same_beside ds p d c.add_note.new.diary at (ap (with_notes []) put);
    }
