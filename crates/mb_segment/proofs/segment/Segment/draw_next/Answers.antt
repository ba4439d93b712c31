use Rattle.std.proofs.Common.{arith}
use Rattle.mb_segment.proofs.DrawMoves.{draws}
use Rattle.mb_segment.proofs.segment.Segment.draw_next.Goals as goal

pub compare_exchange-requires : goal.compare_exchange-requires
compare_exchange-requires g c =
    let wide = c.args.self.now.wide in
    let sized = c.args.self.now.sized in
    let r = c.requires in
    let room = r.room in (
      r.segment,
      omega arith,
      draws c.args.value.now _ r.picked c.args.self.now.table.shared.table_id.slots c.args.pass.now.seat.id
          c.args.pass.now.seat.me c.args.at c.args.new r.member r.idle (omega arith) r.new,
    )

pub returns-clause-drawn : goal.returns-clause-drawn
returns-clause-drawn g c = (c.compare_exchange.ensures.2 c.args.value.now c.requires.picked).0

pub returns-clause-missed : goal.returns-clause-missed
returns-clause-missed g c = (c.compare_exchange.ensures.2 c.args.value.now c.requires.picked).1
