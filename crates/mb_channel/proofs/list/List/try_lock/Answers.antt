use Rattle.std.proofs.Common.{◌∷◌, ap, arith, ◌∙◌, eqb-true}
use Rattle.mb_channel.specs.Homes.{Sat}
use Rattle.mb_channel.proofs.Moves.{locks}
use Rattle.mb_channel.proofs.list.List.try_lock.Goals as goal

pub compare_exchange-requires : goal.compare_exchange-requires
compare_exchange-requires g c = let shape = c.args.self.now.shape in (
  c.requires.list,
  omega (arith, shape.0),
  locks c.args.self.now.table.shared.table_id.slots c.args.chair.now.id c.args.chair.now.me c.requires.ready.0,
)

pub returns-clause-locked : goal.returns-clause-locked
returns-clause-locked g c = λ t. let x = c.compare_exchange.ensures.2.0 (eqb-true c.compare_exchange.result 0 t) in (
  x.0,
  ap (λ (m : Sat _). m.1) x.3 ∙ ap (λ l. (0, x.0) ∷ l) c.requires.ready.3,
  x.1,
  x.2,
  (x.4, ap (λ (m : Sat _). m.0) x.3),
)
