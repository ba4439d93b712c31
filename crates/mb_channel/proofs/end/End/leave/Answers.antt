use Rattle.std.proofs.Common.{sym, ap, ◌∙◌, is_some}
use Rattle.mb_channel.specs.Inside.{share_in}
use Rattle.mb_channel.proofs.end.End.leave.Goals as goal

pub leave-requires-clause-pass : goal.leave-requires-clause-pass
leave-requires-clause-pass g c = let i = c.in-Some.inside in let end = c.args.self.now in
    let is = sym c.take.ensures.value ∙ c.in-Some.is in (
      (
        i.segment,
        end.place (ap is_some is) ∙ ap share_in is,
        ap (λ s. s.table_id) c.pass.ensures.same ∙ i.same,
      ),
      c.pass.ensures.free,
    )
