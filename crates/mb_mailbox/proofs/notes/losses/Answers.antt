-- Proof of `losses`: adds the notes of losses that follow each other on one lane.
use Rattle.std.proofs.Common.{◌≡◌, ◌+◌, ◌-◌, ◌<◌, ◌∙◌, ap, arith, get_or, length, refl, sym, vec_len}
use Rattle.mb_mailbox.specs.declared.notes.marks.Mark.TheVariants as mark
use Rattle.mb_mailbox.proofs.LaneLists.{loss_more, no_losses}
use Rattle.mb_mailbox.proofs.notes.losses.Goals as goal

pub loop-list-init : goal.loop-list-init
loop-list-init g c = record {
  losses = no_losses c.args.lane c.args.from _ c.args.marks.now c.args.list.now.items c.requires.from (omega arith);
  room = refl;
}

-- the mark at place k is a loss on the lane, and its note is added
pub loop-list-preserved : goal.loop-list-preserved
loop-list-preserved g c =
    let ms = c.args.marks.now in
    let ahead = c.args.from - c.len-2.result in
    let k = vec_len c.loop-list.list + ahead in
    let low : k < length ms = omega arith in
    let len = c.push_reserved.ensures.len in
    let d = c.index-marks-len.result in
    let is : get_or ms k d ≡ mark.Lost c.args.lane c.in-Lost.to =
    ap (λ n. get_or ms (n + ahead) d) (sym c.len-in-loop-list-2.ensures) ∙ sym c.index-marks-len.is
    ∙ sym c.mark.ensures ∙ c.in-Lost.is ∙ ap (λ p. mark.Lost p c.in-Lost.to) c.if-of-lane.false in
    record {
      losses = loss_more c.args.lane c.args.from k (vec_len c.push_reserved.new.self + ahead) c.in-Lost.to ms d
          c.args.list.now.items c.loop-list.list.items c.push_reserved.new.self.items
          c.loop-list.invariant.losses low is (omega (arith, len)) c.push_reserved.ensures.items;
      room = c.push_reserved.ensures.capacity ∙ c.loop-list.invariant.room;
    }
