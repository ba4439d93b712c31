use Rattle.std.proofs.Common.{arith, subst, sym, ℕ}
use mathlib.Core.Option.{none}
use Rattle.atomic_table.specs.Table.{Allows, step}
use Rattle.mb_segment.specs.Vocabulary.{Keeps, seeing_mark}
use Rattle.mb_segment.proofs.MarkMoves.{sees_marks}
use Rattle.mb_segment.proofs.segment.Segment.load_mark.Goals as goal

pub load-requires : goal.load-requires
load-requires g c =
    let wide = c.args.self.now.wide in
    let sized = c.args.self.now.sized in
    let r = c.requires in
    let within = r.within in
    let word = c.state_of.ensures in
    let slots = c.args.self.now.table.shared.table_id.slots in
    let me = c.args.pass.now.seat.me in (
      r.segment,
      omega arith,
      subst (λ (p : ℕ). Allows Keeps slots c.args.pass.now.seat.id me c.state_of.result (λ n. n)
          (seeing_mark p (step slots c.state_of.result 0 0 none) me))
          (sym r.picked)
          (sees_marks slots c.args.pass.now.seat.id me c.state_of.result c.args.at word (omega arith) r.low),
    )
