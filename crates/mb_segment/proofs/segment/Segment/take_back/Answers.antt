use Rattle.std.proofs.Common.{ap, arith}
use Rattle.mb_segment.specs.Vocabulary.{View}
use Rattle.mb_segment.proofs.BackMoves.{joins}
use Rattle.mb_segment.proofs.segment.Segment.take_back.Goals as goal

pub join_seat-requires : goal.join_seat-requires
join_seat-requires g c = let wide = c.args.self.now.wide in let free = c.requires.free in (
  c.requires.segment.0,
  c.requires.segment.1,
  free.1,
  omega arith,
  joins c.args.hub.now.seat.id c.args.hub.now.seat.me.0 c.args.pass.seat.id c.args.pass.seat.me.0 c.requires.hub
      (ap (λ (v : View _). v.role) free.0) (ap (λ (v : View _). v.half) free.0)
      (ap (λ (v : View _). v.duty) free.0),
)
