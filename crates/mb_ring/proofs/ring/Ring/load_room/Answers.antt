use Rattle.std.proofs.Common.{ap, arith, subst, sym, ℕ, ◌%◌, ◌+◌, ◌∙◌, ◌≡◌}
use mathlib.Core.Option.{none}
use Rattle.atomic_table.specs.Table.{Allows, step}
use Rattle.mb_ring.specs.Vocabulary.{Keeps, seeing_room}
use Rattle.mb_ring.proofs.LookMoves.{sees_rooms}
use Rattle.mb_ring.proofs.ring.Ring.load_room.Goals as goal

pub load-requires : goal.load-requires
load-requires g c =
    let wide = c.args.self.now.wide in
    let r = c.requires in
    let within = r.within in
    let word = c.word_of.ensures in
    let at = c.args.at in
    let slots = c.args.self.now.table.shared.table_id.slots in
    let me = c.args.pass.now.seat.me in
    let is : c.args.slot ≡ at % slots = r.slot ∙ ap (λ n. at % n) c.args.self.now.sized in (
      r.ring,
      omega arith,
      subst (λ (p : ℕ). Allows Keeps slots c.args.pass.now.seat.id me c.word_of.result (λ n. n)
          (seeing_room p (step slots c.word_of.result 0 0 none) me))
          (sym r.picked)
          (sees_rooms slots c.args.pass.now.seat.id me c.word_of.result at (word ∙ ap (λ z. z + 4) is)),
    )
