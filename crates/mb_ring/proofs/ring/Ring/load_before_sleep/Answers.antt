use Rattle.std.proofs.Common.{arith}
use Rattle.mb_ring.proofs.RoomMoves.{sees_before_sleep}
use Rattle.mb_ring.proofs.ring.Ring.load_before_sleep.Goals as goal

pub load-requires : goal.load-requires
load-requires g c = let wide = c.args.self.now.wide in let r = c.requires in (
  c.requires.ring,
  omega arith,
  sees_before_sleep c.args.self.now.table.shared.table_id.slots c.args.pass.now.seat.id c.args.pass.now.seat.me
      r.asleep r.owes,
)
