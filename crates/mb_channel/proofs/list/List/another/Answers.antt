use Rattle.std.proofs.Common.{arith}
use Rattle.mb_channel.proofs.Back.{splits}
use Rattle.mb_channel.proofs.list.List.another.Goals as goal

pub split_seat-new-requires : goal.split_seat-new-requires
split_seat-new-requires g c = let shape = c.args.self.now.shape in let n = c.requires.counts in (
  c.requires.list,
  omega (arith, shape.0),
  splits c.args.chair.now.id c.args.chair.now.me.0 g.S.Side.sends g.S.Side.receives n.0 n.1 n.2,
)
