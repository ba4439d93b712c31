use Rattle.std.proofs.Common.{arith}
use Rattle.mb_ring.proofs.ListMoves.{finishes}
use Rattle.mb_ring.proofs.ring.Ring.see_rest.Goals as goal

pub load-requires : goal.load-requires
load-requires g c =
    let wide = c.args.self.now.wide in let small = c.word.ensures.small in let r = c.requires in (
      r.ring,
      omega arith,
      finishes g.Q.AnyList.want c.args.self.now.table.shared.table_id.slots c.args.pass.now.seat.id
          c.args.pass.now.seat.me
          c.word.result c.word.ensures.word r.owes,
    )
