-- Proof of `World::is_taken`: whether some consumer has taken the item of cell `k`.
use Rattle.std.proofs.Common.{sym, ◌∙◌, ◌≡◌, ap, subst, ◌<◌}
use Rattle.mb_world.specs.Plan.{consumers_of}
use Rattle.mb_world.specs.Reporting.{is_took}
use Rattle.mb_world.specs.Setups.{plan_in}
use Rattle.mb_claim.specs.Layouts.{consumer_count}
use Rattle.mb_world.specs.StateReport.{note_on}
use Rattle.mb_world.specs.WorldState.{WorldState}
use Rattle.mb_world.proofs.StateNotes.{any_below-some, took_some}
use Rattle.mb_world.proofs.world.World.is_taken.Goals as goal

-- this consumer's note says that it took the item, so one is found
pub returns-in-Some-Took : goal.returns-in-Some-Took
returns-in-Some-Took g c =
    let s = c.args.self.now in
    let count : c.consumers-c-end.result ≡ consumers_of (plan_in s.setup) =
    c.consumers-c-end.ensures ∙ (ap consumer_count c.as_layout.ensures
    ∙ ap (λ (w : WorldState). consumers_of (plan_in w.setup)) c.self.view_is) in
    sym (any_below-some (consumers_of (plan_in s.setup)) c.loop-c.c (λ d. is_took (note_on s d c.args.k))
    (subst (λ n. c.loop-c.c < n) count c.loop-c-test.true)
    (took_some (note_on s c.loop-c.c c.args.k) c.in-Some-Took.field-0 c.in-Some-Took.field-0-0
    (sym c.note.ensures ∙ c.in-Some-Took.is) c.in-Some-Took.field-0-is))
