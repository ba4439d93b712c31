use Rattle.std.proofs.Common.{arith, ◌-◌}
use Rattle.mb_channel.proofs.Members.{retires_other}
use Rattle.mb_channel.proofs.list.List.retire_receiver.Goals as goal

pub compare_exchange-requires : goal.compare_exchange-requires
compare_exchange-requires g c = let shape = c.args.self.now.shape in let some_ = c.requires.seen in (
  c.requires.list,
  omega (arith, shape.0),
  retires_other c.args.self.now.table.shared.table_id.slots c.args.chair.now.id
      c.args.seen (c.args.seen - 1) c.args.chair.now.me c.requires.live c.requires.receiver (omega arith),
)
