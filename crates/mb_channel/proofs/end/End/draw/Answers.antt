use Rattle.std.proofs.Common.{ap, refl}
use Rattle.mb_channel.specs.Inside.{pass_there}
use Rattle.mb_channel.specs.Work.{work_in}
use Rattle.mb_channel.proofs.Halves.{draws_one}
use Rattle.mb_channel.proofs.end.End.draw.Goals as goal

pub returns-in-Ok-clause-drawn : goal.returns-in-Ok-clause-drawn
returns-in-Ok-clause-drawn g c = (
  draws_one c.args.self.chair c.args.self.at _ (work_in c.in-Some.inside) c.args.value.now c.in-Ok.begun
      c.args.self.here (ap pass_there c.in-Some.is) c.in-Ok.ensures.drawn,
  refl,
)
