use Rattle.std.proofs.Common.{[], ap, arith, sym, ◌%◌, ◌+◌, ◌∙◌, ◌∷◌, ◌≡◌}
use Rattle.std.specs.Prelude.{Some}
use Rattle.atomic_table.specs.Table.{rest}
use Rattle.mb_ring.specs.Vocabulary.{spot}
use Rattle.mb_ring.proofs.ReadMoves.{reads_end}
use Rattle.mb_ring.proofs.ring.Ring.read.Goals as goal

pub slot_mut-requires : goal.slot_mut-requires
slot_mut-requires g c =
    let r = c.requires in
    let x = r.claimed.0 in
    let slot = c.slot_of-slot.result in
    let held = r.claimed.2 ∙ ap (λ z. (z, Some x) ∷ []) (sym c.slot_of-slot.ensures.slot) in
    (r.ring, (Some x, held ∙ ap (λ l. (slot, Some x) ∷ rest l) (sym held)))

pub store-requires : goal.store-requires
store-requires g c =
    let wide = c.args.self.now.wide in
    let sized = c.args.self.now.sized in
    let r = c.requires in
    let at = c.args.at in
    let slots = c.args.self.now.table.shared.table_id.slots in
    let slot = c.slot_of-slot.result in
    let within = c.slot_of-slot.ensures.within in
    let less = c.slot_of-slot.ensures.less in
    let word = c.word_of.ensures in
    let is : slot ≡ at % slots = c.slot_of-slot.ensures.slot ∙ ap (λ n. at % n) sized in
    let me = c.args.pass.now.seat.me in (
      r.ring,
      omega arith,
      reads_end slots c.args.pass.now.seat.id (me.0, (slot, c.take-value.new.self) ∷ rest me.1) c.word_of.result _
          (spot at r.claimed.0) (word ∙ ap (λ z. z + 4) is) (omega arith) r.member r.claimed.1
          (λ z. (is z, c.take-value.ensures.after z) ∷ rest me.1),
    )
