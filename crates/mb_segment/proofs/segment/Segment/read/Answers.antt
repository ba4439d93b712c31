use Rattle.std.proofs.Common.{ap, arith, sym, ◌*◌, ◌∙◌, ◌∷◌}
use Rattle.std.specs.Prelude.{Option, Some}
use Rattle.atomic_table.specs.Table.{rest}
use Rattle.mb_segment.specs.Vocabulary.{spot}
use Rattle.mb_segment.proofs.ReadMoves.{reads_end, reads_say}
use Rattle.mb_segment.proofs.segment.Segment.read.Goals as goal

pub slot_mut-requires : goal.slot_mut-requires
slot_mut-requires g c = let r = c.requires in let held = r.claimed.2 in
    (r.segment, (Some r.claimed.0, held ∙ ap (λ l. (c.args.at, Some r.claimed.0) ∷ rest l) (sym held)))

pub load-requires : goal.load-requires
load-requires g c =
    let wide = c.args.self.now.wide in
    let r = c.requires in
    let name = r.name in
    let slots = c.args.self.now.table.shared.table_id.slots in
    let me = c.args.pass.now.seat.me in (
      r.segment,
      omega arith,
      reads_end slots c.args.pass.now.seat.id (me.0, (c.args.at, c.take-value.new.self) ∷ rest me.1) 8
          (spot c.args.at r.claimed.0) r.member r.claimed.1
          (ap (λ (y : Option g.row.T.Denot). (c.args.at, y) ∷ rest me.1) c.take-value.ensures.after)
          (omega arith),
    )

pub fetch_add-requires : goal.fetch_add-requires
fetch_add-requires g c =
    let wide = c.args.self.now.wide in
    let r = c.requires in
    let name = r.name in
    let within = r.within in
    let word = c.state_of.ensures in
    let slots = c.args.self.now.table.shared.table_id.slots in
    let me = c.args.pass.now.seat.me in (
      r.segment,
      omega arith,
      reads_say slots c.args.pass.now.seat.id (me.0, (c.args.at, c.take-value.new.self) ∷ rest me.1)
          c.state_of.result (c.args.name * 4294967296) (spot c.args.at r.claimed.0) word (omega arith) r.member
          r.claimed.1
          (ap (λ (y : Option g.row.T.Denot). (c.args.at, y) ∷ rest me.1) c.take-value.ensures.after),
    )
