use Rattle.std.proofs.Common.{arith}
use Rattle.mb_channel.proofs.Hiring.{hires}
use Rattle.mb_channel.proofs.list.List.hire_sender.Goals as goal

pub compare_exchange-requires : goal.compare_exchange-requires
compare_exchange-requires g c = let shape = c.args.self.now.shape in (
  c.requires.list,
  omega (arith, shape.0),
  hires c.args.self.now.table.shared.table_id.slots c.args.chair.now.id
      c.args.seen c.args.new c.args.chair.now.me c.requires.live c.requires.seen c.requires.new,
)
