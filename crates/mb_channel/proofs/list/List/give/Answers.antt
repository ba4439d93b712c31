use Rattle.std.proofs.Common.{arith, subst, sym}
use Rattle.mb_channel.specs.Homes.{MayGive}
use Rattle.mb_channel.proofs.list.List.give.Goals as goal

pub store-requires : goal.store-requires
store-requires g c = let shape = c.args.self.now.shape in (
  c.requires.list,
  omega (arith, shape.0),
  subst (λ n. MayGive g.F.Change.of n c.args.chair.now.id c.args.chair.now.me) (sym shape.1) c.requires.lawful,
)
