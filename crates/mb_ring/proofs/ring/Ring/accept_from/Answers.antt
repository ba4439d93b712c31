use Rattle.std.proofs.Common.{arith}
use Rattle.mb_ring.proofs.ListMoves.{accepts}
use Rattle.mb_ring.proofs.ring.Ring.accept_from.Goals as goal

pub compare_exchange-requires : goal.compare_exchange-requires
compare_exchange-requires g c =
    let wide = c.args.self.now.wide in let small = c.word.ensures.small in let r = c.requires in (
      r.ring,
      omega arith,
      accepts g.Q.AnyList.want c.args.self.now.table.shared.table_id.slots c.args.pass.now.seat.id
          c.args.pass.now.seat.me
          c.word.result c.word.ensures.word c.args.seen
          c.args.new r.asleep r.token r.new,
    )
