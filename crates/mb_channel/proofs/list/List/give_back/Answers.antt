use Rattle.std.proofs.Common.{arith}
use Rattle.mb_channel.proofs.Back.{joins}
use Rattle.mb_channel.proofs.list.List.give_back.Goals as goal

pub join_seat-requires : goal.join_seat-requires
join_seat-requires g c = let shape = c.args.self.now.shape in let r = c.requires.ready in (
  c.requires.list.0,
  c.requires.list.1,
  r.1.3,
  omega (arith, shape.0),
  joins c.args.chair.now.id c.args.chair.now.me.0 c.args.other.id c.args.other.me.0 r.0.0 r.1.0 r.1.1
      c.requires.outside,
)
