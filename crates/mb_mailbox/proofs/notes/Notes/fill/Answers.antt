-- Proof of `Notes::fill`: adds the notes to the diaries of their lanes.
use Rattle.std.proofs.Common.{◌≡◌, ◌∙◌, ap, arith, length, refl, sym}
use Rattle.mb_mailbox.specs.LaneNotes.{NotesView, all_told, by_lane}
use Rattle.mb_mailbox.proofs.LaneLists.{all_filed, lanes_counted, none_filed, same_count}
use Rattle.mb_mailbox.proofs.notes.Notes.fill.Goals as goal

pub loop-at-init : goal.loop-at-init
loop-at-init g c = record {
  filed = none_filed (length c.args.self.now.lists) c.as_slice-marks.result.now c.as_slice-words.result.now
      c.args.row.now c.requires;
  read = refl;
  same = refl;
}

pub file_losses-at-requires : goal.file_losses-at-requires
file_losses-at-requires g c = (c.as_slice-words.result.now, c.in_ok-at.ensures.filed)

pub loop-at-preserved : goal.loop-at-preserved
loop-at-preserved g c =
    let losses = c.file_losses-at.ensures in
    let singly = c.in_ok-at.ensures in
    record {
      filed = losses.filed c.as_slice-words.result.now singly.filed;
      read = singly.read ∙ sym losses.read;
      same = losses.same ∙ singly.same ∙ c.loop-at.invariant.same;
    }

pub loop-at-smaller : goal.loop-at-smaller
loop-at-smaller g c =
    let further = c.in_ok-at.ensures.further c.loop-at-test.true in
    let since = c.file_losses-at.ensures.since in
    let test = c.loop-at-test.true in
    omega (arith, further, since, test)

pub returns : goal.returns
returns g c =
    let ms = c.as_slice-marks.result.now in
    let ws = c.as_slice-words.result.now in
    let lanes = c.self.inside.lanes in
    let view = ap (λ (v : NotesView). v.lists) c.self.view_is in
    let same = c.loop-at.invariant.same in
    let count : length c.loop-at.row ≡ lanes = same_count c.loop-at.row c.args.row.now same ∙ c.requires.count
    ∙ ap length (sym view) ∙ lanes_counted lanes (all_told c.self.inside.marks.items c.self.inside.words.items) in
    record {
      notes = all_filed lanes ms ws c.loop-at.at c.loop-at.row c.loop-at.invariant.filed (omega arith) count
          ∙ (λ j. by_lane lanes (all_told (c.as_slice-marks.ensures.value j) (c.as_slice-words.ensures.value j)))
          ∙ view;
      same = same;
    }
