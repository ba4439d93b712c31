use Rattle.std.proofs.Common.{arith, ◌-◌}
use Rattle.mb_channel.proofs.Members.{retires_one}
use Rattle.mb_channel.proofs.list.List.retire_sender.Goals as goal

pub compare_exchange-found-requires : goal.compare_exchange-found-requires
compare_exchange-found-requires g c = let shape = c.args.self.now.shape in let some_ = c.requires.seen in (
  c.requires.list,
  omega (arith, shape.0),
  retires_one c.args.self.now.table.shared.table_id.slots c.args.chair.now.id
      c.args.seen (c.args.seen - 1) c.args.chair.now.me c.requires.live c.requires.sender (omega arith),
)
