use Rattle.std.proofs.Common.{ap, arith, ◌%◌, ◌+◌, ◌∙◌, ◌∷◌, ◌≡◌}
use Rattle.std.specs.Prelude.{Some}
use Rattle.atomic_table.specs.Table.{rest}
use Rattle.mb_ring.specs.Vocabulary.{spot}
use Rattle.mb_ring.proofs.MarkMoves.{marks}
use Rattle.mb_ring.proofs.ring.Ring.mark.Goals as goal

pub store-requires : goal.store-requires
store-requires g c =
    let wide = c.args.self.now.wide in
    let r = c.requires in
    let at = c.args.at in
    let slots = c.args.self.now.table.shared.table_id.slots in
    let slot = c.slot_of-slot.result in
    let within = c.slot_of-slot.ensures.within in
    let less = c.slot_of-slot.ensures.less in
    let word = c.word_of.ensures in
    let is : slot ≡ at % slots = c.slot_of-slot.ensures.slot ∙ ap (λ n. at % n) c.args.self.now.sized in
    let me = c.args.pass.now.seat.me in (
      r.ring,
      omega arith,
      marks slots c.args.pass.now.seat.id (me.0, (slot, Some c.args.value) ∷ rest me.1) c.word_of.result _
          (spot at c.args.value) (word ∙ ap (λ z. z + 4) is) (omega arith) r.member r.drawn
          (ap (λ z. (z, Some c.args.value) ∷ rest me.1) is),
    )
