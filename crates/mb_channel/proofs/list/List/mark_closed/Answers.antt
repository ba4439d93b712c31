use Rattle.std.proofs.Common.{arith}
use Rattle.mb_channel.proofs.Closing.{closes_list}
use Rattle.mb_channel.proofs.list.List.mark_closed.Goals as goal

pub store-requires : goal.store-requires
store-requires g c = let shape = c.args.self.now.shape in (
  c.requires.list,
  omega (arith, shape.0),
  closes_list c.args.self.now.table.shared.table_id.slots c.args.chair.now.id c.args.chair.now.me
      c.requires.held.0 c.requires.held.1,
)
