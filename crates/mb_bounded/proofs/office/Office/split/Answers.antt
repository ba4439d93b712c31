use Rattle.std.proofs.Common.{arith}
use Rattle.mb_bounded.proofs.DeskMoves.{parts}
use Rattle.mb_bounded.proofs.office.Office.split.Goals as goal

pub split_seat-requires : goal.split_seat-requires
split_seat-requires g c = let shape = c.args.self.now.shape in let n = c.requires.counts in (
  c.requires.office,
  omega (arith, shape.0),
  parts c.args.self.now.table.shared.key c.args.chair.now.id c.args.chair.now.me.0 g.S.Side.sends g.S.Side.receives
      n.0 n.1,
)
