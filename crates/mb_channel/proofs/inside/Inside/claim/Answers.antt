use Rattle.std.proofs.Common.{ap, refl, subst, ◌≤◌, ◌∙◌}
use Rattle.mb_segment.specs.Vocabulary.{bare, found_empty, looked, view_in}
use Rattle.mb_channel.specs.Types.{View}
use Rattle.mb_channel.proofs.Halves.{claimed}
use Rattle.mb_channel.proofs.inside.Inside.claim.Goals as goal

pub returns-then-claim-clause-claimed : goal.returns-then-claim-clause-claimed
returns-then-claim-clause-claimed g c =
    let v = view_in c.look.new.pass in
    let w = view_in c.claim.new.pass in
    let l = c.in-Ready.ensures in
    let a = c.if-claim.ensures.claimed refl in
    let same = ap (λ s. s.me.0) c.pass-pass.ensures.same in (
      a.0,
      (
        (ap (λ (u : View _). u.half) a.1, refl),
        claimed c.args.self.segment c.in-Ready.position a.0 looked _ v w (l.answer.2 ∙ ap bare same)
            (subst (λ (u : View _). found_empty u ≤ found_empty v) same l.found) a.1 (c.if-claim.ensures.may refl),
      ),
    )
