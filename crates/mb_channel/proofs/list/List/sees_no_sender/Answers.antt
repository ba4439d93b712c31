use Rattle.std.proofs.Common.{arith}
use Rattle.mb_channel.proofs.Closing.{sees_whether}
use Rattle.mb_channel.proofs.list.List.sees_no_sender.Goals as goal

pub load-requires : goal.load-requires
load-requires g c = let shape = c.args.self.now.shape in (
  c.requires.list,
  omega (arith, shape.0),
  sees_whether c.args.self.now.table.shared.table_id.slots c.args.chair.now.id c.args.chair.now.me c.requires.live
      c.requires.last,
)
