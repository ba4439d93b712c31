use Rattle.std.proofs.Common.{arith, subst}
use Rattle.mb_mailbox.specs.Gathering.{FullTakesAll}
use Rattle.mb_mailbox.specs.Hubs.{HubView}
use Rattle.mb_mailbox.proofs.mailbox.Mailbox.gather.Goals as goal
use Rattle.mb_mailbox.proofs.mailbox.Mailbox.gather.Goals.{then-producers-gt0-via-then-producers-gt0, then-producers-gt0-via-else-producers-gt0+then-consumers-gt0}

pub returns-then-producers-gt0-clause-refused : goal.returns-then-producers-gt0-clause-refused
returns-then-producers-gt0-clause-refused g c = λ none.
    let producers = c.missing-producers.ensures.producers in
    let consumers = c.missing-producers.ensures.consumers in
    elim c.then-producers-gt0.branch [
      | then-producers-gt0-via-then-producers-gt0 w ↦
          absurd (omega (arith, none, producers, w.if-producers-gt0.true))
      | then-producers-gt0-via-else-producers-gt0+then-consumers-gt0 w ↦
          absurd (omega (arith, none, consumers, w.if-consumers-gt0.true))
    ]

pub returns-in-Ok-clause-full : goal.returns-in-Ok-clause-full
returns-in-Ok-clause-full g c =
    subst (λ (h : HubView). FullTakesAll c.args.self h c.gather_with.result) c.in-Ok.ensures.drafted
    c.gather_with.ensures.full
