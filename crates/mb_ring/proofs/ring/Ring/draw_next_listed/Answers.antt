use Rattle.std.proofs.Common.{ap, arith, sym, ◌%◌, ◌∙◌, ◌∷◌}
use Rattle.std.specs.Prelude.{None}
use Rattle.mb_ring.proofs.DrawMoves.{draws_listed}
use Rattle.mb_ring.proofs.ring.Ring.draw_next_listed.Goals as goal

pub compare_exchange-requires : goal.compare_exchange-requires
compare_exchange-requires g c = let wide = c.args.self.now.wide in let r = c.requires in (
  r.ring,
  omega arith,
  draws_listed c.args.value.now _ r.picked c.args.self.now.table.shared.table_id.slots c.args.pass.now.seat.id
      c.args.pass.now.seat.me c.args.at c.args.new r.fresh r.member r.idle r.open r.most r.new,
)

pub returns-clause-drawn : goal.returns-clause-drawn
returns-clause-drawn g c e =
    let d = (c.compare_exchange.ensures.2 c.args.value.now c.requires.picked).0 e in
    (d.0, d.1 ∙ ap (λ n. (c.args.at % n, None) ∷ c.args.pass.now.seat.me.1) (sym c.args.self.now.sized), d.2)

pub returns-clause-missed : goal.returns-clause-missed
returns-clause-missed g c = (c.compare_exchange.ensures.2 c.args.value.now c.requires.picked).1
