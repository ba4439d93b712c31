use Rattle.std.proofs.Common.{arith}
use Rattle.mb_ring.proofs.PassMoves.{splits}
use Rattle.mb_ring.proofs.ring.Ring.issue.Goals as goal

pub split_seat-requires : goal.split_seat-requires
split_seat-requires g c = let wide = c.args.self.now.wide in
    (c.requires.ring, omega arith, splits c.args.hub.now.seat.id c.args.hub.now.seat.me.0 c.requires.hub)
