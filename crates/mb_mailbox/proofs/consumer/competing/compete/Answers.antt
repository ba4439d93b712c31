-- Proof of `compete`: makes accesses of a claim that is going, up to its end or the budget's.
use Rattle.std.proofs.Common.{rules, ◌≡◌, ◌∙◌, suc, ap, arith, sym}
use Rattle.mb_claim.specs.declared.access.Stage.TheVariants as stage
use Rattle.mb_mailbox.specs.Imports.{SeatView}
use Rattle.mb_mailbox.proofs.consumer.competing.compete.Goals as goal

-- the accesses of the claim are those made so far and one more, with the word drawn
pub returns-then-ne-clause-steps : goal.returns-then-ne-clause-steps
returns-then-ne-clause-steps g c =
    let was = c.steps.invariant in
    let s = was.steps in (
      suc s.0,
      omega (arith, s.1, was.some),
      (
        c.steps.claim,
        c.steps.seat,
        g.R.Rng.stream c.steps.rng,
        c.next_u64.result,
        s.2,
        was.going,
        c.next_u64.ensures,
        c.step-stage.ensures.step,
        c.step-stage.ensures.consumer,
        c.step-stage.ensures.standing,
      ),
    )

pub steps-preserved : goal.steps-preserved
steps-preserved g c =
    let was = c.steps.invariant in
    let s = was.steps in
    let adds = c.step-stage.ensures.step.adds in
    let goes : c.step-stage.result ≡ stage.Going = search rules in
    record {
      steps = (
        suc s.0,
        omega (arith, s.1, was.some),
        (
          c.steps.claim,
          c.steps.seat,
          g.R.Rng.stream c.steps.rng,
          c.next_u64.result,
          s.2,
          was.going,
          c.next_u64.ensures,
          c.step-stage.ensures.step,
          c.step-stage.ensures.consumer,
          c.step-stage.ensures.standing,
        ),
      );
      table = ap (λ (v : SeatView). v.table) adds ∙ was.table;
      owner = c.step-stage.ensures.consumer ∙ was.owner ∙ sym (ap (λ (v : SeatView). v.consumer) adds);
      standing = c.step-stage.ensures.standing;
      going = sym c.step-stage.ensures.stage ∙ goes;
      some = c.if-left-eq0-2.false;
    }
