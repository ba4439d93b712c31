use Rattle.std.proofs.Common.{Some, ap, refl, sym, ◌∙◌, is_some}
use Rattle.mb_channel.specs.Inside.{pass_there, share_in}
use Rattle.mb_channel.proofs.end.End.try_outside.Goals as goal

pub leave-requires-clause-pass : goal.leave-requires-clause-pass
leave-requires-clause-pass g c = let i = c.in-Some.inside in let end = c.args.self in (
  (
    i.segment,
    end.place (ap is_some c.in-Some.is) ∙ ap share_in c.in-Some.is,
    ap (λ s. s.table_id) c.pass.ensures.same ∙ i.same,
  ),
  c.pass.ensures.free,
)

pub returns-in-Err-clause-back : goal.returns-in-Err-clause-back
returns-in-Err-clause-back g c = let k = c.in-Err.ensures.kept in (
  c.in-Err.ensures.list.0,
  k.1,
  refl,
  ap (λ s. Some s.me.0) (c.rested.ensures.pass ∙ ap (λ p. p.seat) k.0 ∙ c.pass.ensures.same)
      ∙ sym (ap pass_there c.in-Some.is),
)
