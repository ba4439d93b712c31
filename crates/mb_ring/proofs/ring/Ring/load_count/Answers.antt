use Rattle.std.proofs.Common.{arith}
use Rattle.mb_ring.proofs.RoomMoves.{counts}
use Rattle.mb_ring.proofs.ring.Ring.load_count.Goals as goal

pub load-requires : goal.load-requires
load-requires g c = let wide = c.args.self.now.wide in (
  c.requires.ring,
  omega arith,
  counts c.args.self.now.table.shared.table_id.slots c.args.pass.now.seat.id c.args.pass.now.seat.me,
)
