use Rattle.std.proofs.Common.{arith}
use Rattle.mb_segment.proofs.ClaimMoves.{claims_listed}
use Rattle.mb_segment.proofs.segment.Segment.claim_listed_from.Goals as goal

pub compare_exchange-requires : goal.compare_exchange-requires
compare_exchange-requires g c = let wide = c.args.self.now.wide in let r = c.requires in (
  r.segment,
  omega arith,
  claims_listed c.args.self.now.table.shared.table_id.slots c.args.pass.now.seat.id c.args.pass.now.seat.me
      c.args.at c.args.new r.fresh r.member r.idle r.ripe r.new,
)
