use Rattle.std.proofs.Common.{arith}
use Rattle.mb_segment.proofs.PassMoves.{splits}
use Rattle.mb_segment.proofs.segment.Segment.issue_named.Goals as goal

pub split_seat-requires : goal.split_seat-requires
split_seat-requires g c =
    let wide = c.args.self.now.wide in
    let bound = c.requires.name in
    let picked = c.requires.picked in (
      c.requires.segment,
      omega arith,
      splits _ (omega arith) c.args.hub.now.seat.id c.args.hub.now.seat.me.0 c.requires.hub,
    )
