-- Proof of `Hub::add_diaries`: the outlines of a consumer's diaries are added, and then the notes.
use Rattle.std.proofs.Common.{◌≡◌, ◌∙◌, ap, arith, length, subst, sym}
use Rattle.std.specs.Prelude.{None, Option, Some}
use Rattle.std.specs.Option.{option_map}
use Rattle.mb_mailbox.specs.Gathering.{kept_at, outline_row}
use Rattle.mb_mailbox.specs.Hubs.{ConsumerRecordView, IsHub}
use Rattle.mb_mailbox.proofs.Diaries.{next_row, notes_full, outlined, outlines_empty, part_past, row_filled, row_kept}
use Rattle.mb_mailbox.proofs.hub.Hub.add_diaries.Goals as goal

pub add_outlines-requires : goal.add_outlines-requires
add_outlines-requires g c =
    let count = c.requires.before.count in
    let len = c.args.diaries.now.ok.0 in
    let next = next_row c.args.c c.args.lanes in
    let room = c.requires.room in
    omega (arith, count, len, next, room)

-- In the proofs below `more` says that the list has the diaries that were there and then the outlines. `part` says that
-- these outlines are the slice to which `fill` adds the notes
pub fill-requires : goal.fill-requires
fill-requires g c =
    let h = c.args.self.now in
    let l = c.in-Some.kept.now in
    let ds = c.args.diaries.now.items in
    let row = outline_row c.args.c (Some l) c.args.lanes in
    let told : Option ConsumerRecordView = option_map (λ k. k.now) c.kept-kept.result in
    let here = kept_at h.records c.args.c in
    let all = c.add_outlines.new.diaries in
    let more = outlined c.args.c c.args.lanes ds all.items told (Some l) here c.in_ok-add_outlines.ensures.outlines
    c.kept-kept.ensures c.in-Some.ensures in
    let at = c.len-first.ensures ∙ c.args.diaries.now.ok.0 in
    let part : c.slice_mut.result.now ≡ row =
    c.slice_mut.ensures.value ∙ part_past ds row all.items c.len-first.result all.len more at all.ok.0 in
    let full : length c.kept.inside.notes.lists ≡ c.args.lanes =
    ap (λ (v : ConsumerRecordView). length v.notes) c.kept.view_is
    ∙ notes_full h c.args.c l (subst IsHub c.self.view_is c.self.invariant.0) c.in-Some.ensures
    ∙ sym c.requires.lanes in
    rw part (outlines_empty c.args.c c.args.lanes (length c.kept.inside.notes.lists) (Some l) full)

pub returns-in_ok-fill-in-Some-clause-diaries : goal.returns-in_ok-fill-in-Some-clause-diaries
returns-in_ok-fill-in-Some-clause-diaries g c =
    let h = c.args.self.now in
    let l = c.in-Some.kept.now in
    let ds = c.args.diaries.now.items in
    let row = outline_row c.args.c (Some l) c.args.lanes in
    let told : Option ConsumerRecordView = option_map (λ k. k.now) c.kept-kept.result in
    let here = kept_at h.records c.args.c in
    let all = c.add_outlines.new.diaries in
    let more = outlined c.args.c c.args.lanes ds all.items told (Some l) here c.in_ok-add_outlines.ensures.outlines
    c.kept-kept.ensures c.in-Some.ensures in
    let at = c.len-first.ensures ∙ c.args.diaries.now.ok.0 in
    let part : c.slice_mut.result.now ≡ row =
    c.slice_mut.ensures.value ∙ part_past ds row all.items c.len-first.result all.len more at all.ok.0 in
    row_filled c.args.lanes c.args.c h l all ds c.slice_mut.result.now c.fill.new.row c.len-first.result
    c.kept.inside.notes.lists c.requires.before c.in-Some.ensures more at part c.in_ok-fill-in-Some.ensures.notes
    (ap (λ (v : ConsumerRecordView). v.notes) c.kept.view_is) c.in_ok-fill-in-Some.ensures.same

pub returns-in-None-clause-diaries : goal.returns-in-None-clause-diaries
returns-in-None-clause-diaries g c =
    let h = c.args.self.now in
    let ds = c.args.diaries.now.items in
    let told : Option ConsumerRecordView = option_map (λ k. k.now) c.kept-kept.result in
    let all = c.add_outlines.new.diaries.items in
    row_kept c.args.lanes c.args.c h ds all c.requires.before c.in-None.ensures
    (outlined c.args.c c.args.lanes ds all told None (kept_at h.records c.args.c) c.in_ok-add_outlines.ensures.outlines
    c.kept-kept.ensures c.in-None.ensures)
