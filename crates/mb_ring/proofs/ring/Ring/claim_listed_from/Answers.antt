use Rattle.std.proofs.Common.{ap, arith, sym, ◌%◌, ◌∙◌, ◌∷◌}
use Rattle.std.specs.Prelude.{Some}
use Rattle.mb_ring.proofs.ClaimMoves.{claims_listed}
use Rattle.mb_ring.proofs.ring.Ring.claim_listed_from.Goals as goal

pub compare_exchange-requires : goal.compare_exchange-requires
compare_exchange-requires g c = let wide = c.args.self.now.wide in let r = c.requires in (
  r.ring,
  omega arith,
  claims_listed c.args.self.now.table.shared.table_id.slots c.args.pass.now.seat.id c.args.pass.now.seat.me c.args.at
      c.args.new r.fresh r.member r.idle r.ripe r.new,
)

pub returns-clause-claimed : goal.returns-clause-claimed
returns-clause-claimed g c e =
    let d = c.compare_exchange.ensures.2.0 e in
    (d.0, d.1, d.2 ∙ ap (λ n. (c.args.at % n, Some d.0) ∷ c.args.pass.now.seat.me.1) (sym c.args.self.now.sized), d.3)
