use Rattle.std.proofs.Common.{arith}
use Rattle.mb_ring.proofs.ListMoves.{goes_out_woken}
use Rattle.mb_ring.proofs.ring.Ring.leave_with_token.Goals as goal

pub compare_exchange-requires : goal.compare_exchange-requires
compare_exchange-requires g c =
    let wide = c.args.self.now.wide in let small = c.word.ensures.small in let r = c.requires in (
      r.ring,
      omega arith,
      goes_out_woken g.Q.AnyList.want c.args.self.now.table.shared.table_id.slots c.args.pass.now.seat.id
          c.args.pass.now.seat.me
          c.word.result c.word.ensures.word c.args.seen c.args.new r.leaving r.woken r.new,
    )
