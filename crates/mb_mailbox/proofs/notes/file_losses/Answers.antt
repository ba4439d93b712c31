-- Proof of `file_losses`: adds the notes of losses that follow each other on one lane.
use Rattle.std.proofs.Common.{◌≡◌, ◌<◌, arith, get_or, length}
use Rattle.std.specs.Prelude.{Some, slice_get}
use Rattle.std.proofs.lemmas.Option.{slice_get-get_or}
use Rattle.mb_mailbox.proofs.LaneLists.{filed_few, losses_filed, losses_read, same_beside}
use Rattle.mb_mailbox.proofs.notes.file_losses.Goals as goal

-- In each proof d is the diary of the lane, before its notes are added
pub add_losses-requires : goal.add_losses-requires
add_losses-requires g c =
    let ds = c.args.row.now in
    let p = c.in-Lost.lane in
    let d = get_or ds p c.index-row-lane.result in
    let low : p < length ds = omega arith in
    let at : slice_get ds p ≡ Some d = slice_get-get_or ds p c.index-row-lane.result low in
    record {
      from = c.requires.1.within;
      few = filed_few c.args.marks.now c.requires.0 c.args.from p ds d c.requires.1 at;
    }

pub returns : goal.returns
returns g c =
    let ds = c.args.row.now in
    let p = c.in-Lost.lane in
    let d = get_or ds p c.index-row-lane.result in
    let e = c.add_losses.new.diary in
    let low : p < length ds = omega arith in
    let at : slice_get ds p ≡ Some d = slice_get-get_or ds p c.index-row-lane.result low in
    let losses = c.add_losses.ensures.losses in
    record {
      filed = λ ws. losses_filed c.args.marks.now ws p c.args.from c.add_losses.result ds d e at losses;
      read = losses_read p c.args.from c.add_losses.result c.args.marks.now d.notes e.notes losses;
      same = same_beside ds p d e at c.add_losses.ensures.same;
      since = losses.since;
    }
