use Rattle.std.proofs.Common.{ap, arith, ◌+◌, ◌∙◌, ◌≡◌}
use Rattle.mb_segment.specs.Vocabulary.{gives_token}
use Rattle.mb_segment.proofs.segment.Segment.pay_all.Goals as goal

pub loop-preserved-in-One : goal.loop-preserved-in-One
loop-preserved-in-One g c =
    let i = c.loop.invariant in let a = c.in-One.ensures in let v = c.args.pass.now.seat.me.0 in
    let n = i.4.0 in
    let more : v.tokens.gave + n + 1 ≡ v.tokens.gave + (n + 1) = omega arith in (
      tt,
      tt,
      a.pass.0 ∙ i.2,
      a.pass.1 ∙ i.3,
      (
        n + 1,
        a.answer.0 ∙ (ap gives_token i.4.1
            ∙ ap (λ m. record v { tokens = record v.tokens { gave = m } }) more),
      ),
      a.answer.1 ∙ i.5,
    )
