use Rattle.std.proofs.Common.{arith, refl, ◌+◌, ◌∷◌}
use Rattle.std.specs.Prelude.{Some}
use Rattle.atomic_table.specs.Table.{rest}
use Rattle.mb_segment.specs.Vocabulary.{spot}
use Rattle.mb_segment.proofs.MarkMoves.{marks}
use Rattle.mb_segment.proofs.segment.Segment.mark.Goals as goal

pub store-requires : goal.store-requires
store-requires g c =
    let wide = c.args.self.now.wide in
    let r = c.requires in
    let within = r.within in
    let name = r.name in
    let word = c.state_of.ensures in
    let slots = c.args.self.now.table.shared.table_id.slots in
    let me = c.args.pass.now.seat.me in (
      r.segment,
      omega arith,
      marks slots c.args.pass.now.seat.id (me.0, (c.args.at, Some c.args.value) ∷ rest me.1) c.state_of.result
          (c.args.name + 1) (spot c.args.at c.args.value) word (omega arith) r.member r.drawn refl,
    )
