use Rattle.std.proofs.Common.{ap, arith, sym, ◌≡◌, ◌+◌, ◌<◌, ◌∙◌}
use Rattle.mb_segment.specs.Vocabulary.{owes_all, owes_wake, view_in}
use Rattle.mb_channel.specs.Types.{Global, Segment, View}
use Rattle.mb_channel.proofs.Halves.{drawn}
use Rattle.mb_channel.proofs.inside.Inside.draw.Goals as goal

pub returns-then-position-size-clause-drawn : goal.returns-then-position-size-clause-drawn
returns-then-position-size-clause-drawn g c =
    let v = view_in c.pass-pass.result in
    let w = view_in c.draw.new.pass in
    let a = c.in-At.ensures.answer in
    let e = a.3 (c.if-position-size.true ∙ c.size.ensures
    ∙ ap (λ (s : Segment _ Global). s.size) (c.deref-2.ensures ∙ sym c.deref.ensures)) in (
      ap (λ (u : View _). u.half) e,
      drawn c.args.self.segment c.in-At.at c.args.value.now owes_all _ v w (ap (λ s. s.me.0) c.pass-pass.ensures.same)
          e a.4,
    )

pub returns-clause-drawn : goal.returns-clause-drawn
returns-clause-drawn g c =
    let v = view_in c.pass-pass.result in
    let w = view_in c.draw.new.pass in
    let a = c.in-At.ensures.answer in
    let size : c.size.result ≡ c.deref.result.now.size = c.size.ensures
    ∙ ap (λ (s : Segment _ Global). s.size) (c.deref-2.ensures ∙ sym c.deref.ensures) in
    let there = a.0 in
    let below : c.in-At.at + 1 < c.deref.result.now.size = omega arith in
    let e = a.2 below in (
      ap (λ (u : View _). u.half) e,
      drawn c.args.self.segment c.in-At.at c.args.value.now owes_wake _ v w (ap (λ s. s.me.0) c.pass-pass.ensures.same)
          e a.4,
    )
