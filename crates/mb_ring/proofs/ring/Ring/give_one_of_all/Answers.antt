use Rattle.std.proofs.Common.{arith, ◌∙◌}
use Rattle.mb_ring.specs.Vocabulary.{gives_token}
use Rattle.mb_ring.proofs.ListMoves.{gives_all, on_same}
use Rattle.mb_ring.proofs.ring.Ring.give_one_of_all.Goals as goal

pub compare_exchange-requires : goal.compare_exchange-requires
compare_exchange-requires g c =
    let wide = c.args.self.now.wide in let small = c.word.ensures.small in let r = c.requires in (
      r.ring,
      omega arith,
      gives_all g.Q.AnyList.want c.args.self.now.table.shared.table_id.slots c.args.pass.now.seat.id
          c.args.pass.now.seat.me
          c.word.result c.word.ensures.word c.args.seen c.args.new r.waits r.room r.new,
    )

pub returns-clause-given : goal.returns-clause-given
returns-clause-given g c e =
    let d = c.compare_exchange.ensures.2.0 e in
    let q = g.Q.AnyList.want in (d.0 ∙ on_same q (gives_token q c.args.pass.now.seat.me.0), d.1)
