-- Proof of `is_taken`: whether a consumer has taken the item, by the diaries.
use Rattle.std.proofs.Common.{ℕ, ◌∙◌, sym}
use Rattle.std.specs.Prelude.{slice_get}
use Rattle.mb_world.proofs.StateNotes.{any_below-some, took_some}
use Rattle.mb_world.specs.Reporting.{is_took}
use Rattle.mb_mailbox.specs.Gathering.{notes_among}
use Rattle.mb_mailbox.proofs.gather.reports.is_taken.Goals as goal

pub returns-in-Some-Took : goal.returns-in-Some-Took
returns-in-Some-Took g c =
    let note = λ (d : ℕ). slice_get (notes_among c.args.lanes d c.args.p c.args.diaries.now) c.args.j in
    sym (any_below-some c.args.consumers c.loop-c.c (λ (d : ℕ). is_took (note d)) c.loop-c-test.true
    (took_some (note c.loop-c.c) c.in-Some-Took.field-0 c.in-Some-Took.field-0-0
    (sym c.note_at.ensures ∙ c.in-Some-Took.is) c.in-Some-Took.field-0-is))
