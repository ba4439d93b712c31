use Rattle.std.proofs.Common.{arith}
use Rattle.mb_channel.proofs.Members.{numbers}
use Rattle.mb_channel.proofs.list.List.number.Goals as goal

pub load-requires : goal.load-requires
load-requires g c = let shape = c.args.self.now.shape in (
  c.requires.list,
  omega (arith, shape.0),
  numbers g.N.Name.name c.args.self.now.table.shared.table_id.slots c.args.chair.now.id
      c.args.chair.now.me c.requires.unborn.0 c.requires.unborn.1,
)
