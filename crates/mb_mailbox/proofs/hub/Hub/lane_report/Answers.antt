-- Proof of `Hub::lane_report`: the outline of a lane.
use Rattle.std.proofs.Common.{ℕ, ◌∙◌, ap, not, sym}
use Rattle.mb_mailbox.specs.Gathering.{is_taken_in}
use Rattle.mb_mailbox.proofs.Diaries.{taken_told}
use Rattle.mb_mailbox.proofs.Listed.{chosen_none, chosen_one}
use Rattle.mb_mailbox.proofs.hub.Hub.lane_report.Goals as goal
use Rattle.mb_mailbox.proofs.hub.Hub.lane_report.Goals.{then-not-is_taken+in_ok-push, else-not-is_taken}

-- by `is` the diaries say of an item whether it was taken as the hub's records do
pub loop-j-preserved : goal.loop-j-preserved
loop-j-preserved g c =
    let f = λ (j : ℕ). not (is_taken_in c.args.consumers c.args.p j c.args.self.now) in
    let xs = c.items-items.result.now in
    let left = c.loop-j.left.items in
    let old = c.loop-j.invariant in
    let is = taken_told c.args.lanes c.args.consumers c.args.p c.loop-j.j c.args.self.now c.args.diaries.now
    c.is_taken.result c.requires.diaries c.requires.lane c.is_taken.ensures in
    elim c.if-not-is_taken.branch [
      | then-not-is_taken+in_ok-push w ↦
          ap (λ v. v.items) w.left-is ∙ w.in_ok-push.ensures.items
          ∙ chosen_one f xs left c.loop-j.j c.loop-j-test.true old (ap not (sym is ∙ w.if-not-is_taken.true))
      | else-not-is_taken w ↦
          ap (λ v. v.items) w.left-is
          ∙ chosen_none f xs left c.loop-j.j c.loop-j-test.true old (ap not (sym is ∙ w.if-not-is_taken.false))
    ]
