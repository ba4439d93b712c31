use Rattle.std.proofs.Common.{arith}
use Rattle.mb_segment.proofs.LearnMoves.{learns_taken_at}
use Rattle.mb_segment.proofs.segment.Segment.count_taken.Goals as goal

pub load-requires : goal.load-requires
load-requires g c = let wide = c.args.self.now.wide in let r = c.requires in (
  r.segment,
  omega arith,
  learns_taken_at c.args.self.now.table.shared.table_id.slots c.args.hub.now.seat.id c.args.hub.now.seat.me,
)
