use Rattle.std.proofs.Common.{ap, arith, ◌∷◌}
use Rattle.std.specs.Prelude.{Some}
use Rattle.atomic_table.specs.Table.{rest}
use Rattle.mb_bounded.proofs.DeskMoves.{lets_go}
use Rattle.mb_bounded.proofs.office.Office.put.Goals as goal

pub store-requires : goal.store-requires
store-requires g c =
    let shape = c.args.self.now.shape in
    let me = c.args.chair.now.me in
    let desk = c.args.desk in (
      c.requires.office,
      omega (arith, shape.0),
      lets_go c.args.self.now.table.shared.key c.args.self.now.table.shared.table_id.slots c.args.chair.now.id
          (me.0, (0, Some desk) ∷ rest me.1) desk (ap (λ l. (0, Some desk) ∷ rest l) c.requires.taken.1)
          c.requires.taken.0 c.requires.desk,
    )
