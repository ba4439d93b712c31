-- Proof of `BoundHub::gather`: ends the mailbox, and returns a report of what its producers and consumers did.
use Rattle.std.proofs.Common.{◌≡◌, ◌∙◌, ap, subst}
use Rattle.mb_mailbox.specs.Imports.{consumer_count}
use Rattle.mb_mailbox.specs.Gathering.{FullTakesAll, IsGathered, IsReportIn}
use Rattle.mb_mailbox.specs.Hubs.{HubView}
use Rattle.mb_mailbox.specs.Mailboxes.{MailboxView}
use Rattle.mb_bound.specs.Bound.{BoundHubView}
use Rattle.mb_bound.proofs.hub.BoundHub.gather.Goals as goal

-- each clause follows from the same clause of `Mailbox::gather_with`, which this call makes with its mailbox and hub
pub returns-in-Ok-try_unwrap-clause-lists : goal.returns-in-Ok-try_unwrap-clause-lists
returns-in-Ok-try_unwrap-clause-lists g c =
    let m : c.in-Ok-try_unwrap.mailbox ≡ c.args.self.mailbox = c.in-Ok-try_unwrap.ensures.ok
    ∙ ap (λ (x : BoundHubView). x.mailbox) c.self.view_is in
    let h : c.in-Ok.draft ≡ c.args.self.hub = c.in-Ok.ensures.drafted
    ∙ ap (λ (x : BoundHubView). x.hub) c.self.view_is in
    subst (λ (z : MailboxView × HubView). IsReportIn z.0.cells.size.lanes (consumer_count z.0.claims.layout) z.1
    c.gather_with.result) (λ j. (m j, h j)) c.gather_with.ensures.lists

pub returns-in-Ok-try_unwrap-clause-main_theorem : goal.returns-in-Ok-try_unwrap-clause-main_theorem
returns-in-Ok-try_unwrap-clause-main_theorem g c =
    let m : c.in-Ok-try_unwrap.mailbox ≡ c.args.self.mailbox = c.in-Ok-try_unwrap.ensures.ok
    ∙ ap (λ (x : BoundHubView). x.mailbox) c.self.view_is in
    let h : c.in-Ok.draft ≡ c.args.self.hub = c.in-Ok.ensures.drafted
    ∙ ap (λ (x : BoundHubView). x.hub) c.self.view_is in
    subst (λ (z : MailboxView × HubView). IsGathered z.0 z.1 c.gather_with.result)
    (λ j. (m j, h j)) c.gather_with.ensures.main_theorem

pub returns-in-Ok-try_unwrap-clause-full : goal.returns-in-Ok-try_unwrap-clause-full
returns-in-Ok-try_unwrap-clause-full g c =
    let m : c.in-Ok-try_unwrap.mailbox ≡ c.args.self.mailbox = c.in-Ok-try_unwrap.ensures.ok
    ∙ ap (λ (x : BoundHubView). x.mailbox) c.self.view_is in
    let h : c.in-Ok.draft ≡ c.args.self.hub = c.in-Ok.ensures.drafted
    ∙ ap (λ (x : BoundHubView). x.hub) c.self.view_is in
    subst (λ (z : MailboxView × HubView). FullTakesAll z.0 z.1 c.gather_with.result)
    (λ j. (m j, h j)) c.gather_with.ensures.full
