use Rattle.std.proofs.Common.{ap, refl}
use Rattle.mb_channel.specs.Inside.{pass_there}
use Rattle.mb_channel.specs.Work.{work_in}
use Rattle.mb_channel.proofs.Halves.{claims_one}
use Rattle.mb_channel.proofs.end.End.claim.Goals as goal

pub returns-in-Ok-clause-claimed : goal.returns-in-Ok-clause-claimed
returns-in-Ok-clause-claimed g c = let x = c.in-Ok.ensures.claimed in (
  x.0,
  claims_one c.args.self.chair c.args.self.at _ (work_in c.in-Some.inside) x.0 c.in-Ok.begun c.args.self.here
      (ap pass_there c.in-Some.is) x.1,
  refl,
)
