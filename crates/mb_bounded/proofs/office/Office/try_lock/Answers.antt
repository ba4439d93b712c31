use Rattle.std.proofs.Common.{ap, arith, eqb-true, ◌∙◌, ◌∷◌}
use Rattle.std.specs.Prelude.{Some}
use Rattle.mb_bounded.specs.Desks.{locked}
use Rattle.mb_bounded.proofs.DeskMoves.{locks}
use Rattle.mb_bounded.proofs.office.Office.try_lock.Goals as goal

pub compare_exchange-requires : goal.compare_exchange-requires
compare_exchange-requires g c = let shape = c.args.self.now.shape in (
  c.requires.office,
  omega (arith, shape.0),
  locks c.args.self.now.table.shared.key c.args.self.now.table.shared.table_id.slots c.args.chair.now.id
      c.args.chair.now.me,
)

pub returns-clause-locked : goal.returns-clause-locked
returns-clause-locked g c e =
    let x = c.compare_exchange.ensures.2.0 (eqb-true c.compare_exchange.result 0 e) in (
      x.0,
      x.1 ∙ ap (λ l. (locked x.0 c.args.chair.now.me.0, (0, Some x.0) ∷ l)) c.requires.ready.1,
      x.2,
    )
