use Rattle.std.proofs.Common.{arith}
use Rattle.mb_segment.proofs.AskMoves.{sees_cuts}
use Rattle.mb_segment.proofs.segment.Segment.load_to_cut.Goals as goal

pub load-requires : goal.load-requires
load-requires g c = let wide = c.args.self.now.wide in let r = c.requires in (
  r.segment,
  omega arith,
  sees_cuts c.args.self.now.table.shared.table_id.slots c.args.pass.now.seat.id c.args.pass.now.seat.me,
)
