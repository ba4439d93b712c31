-- Proof of `prefer`: loads the proposal of a ratifier, and stores the input there if it finds no value of the table.
use Rattle.std.proofs.Common.{◌≡◌, ◌≤◌, ◌<◌, ◌+◌, ◌-◌, arith, refl, ap}
use Rattle.mb_quorum.specs.Quorum.{QuorumTable}
use Rattle.mb_deciding.specs.{Proposal, InRatifier, Announce, Propose, checks_of}
use Rattle.mb_deciding.specs.declared.access.Op.TheVariants as to
use Rattle.mb_deciding.specs.declared.place.pc.Next.TheVariants as leads
use Rattle.mb_deciding.proofs.ManySteps.{one_more}
use Rattle.mb_deciding.proofs.StraightSteps.{prefer_step, empty_step, propose_step}
use Rattle.mb_deciding.proofs.place.straight.prefer.Goals as goal
use Rattle.mb_deciding.proofs.place.straight.prefer.Goals.{else-seen-gt0-via-then-seen-gt0+else-seen-from}
use Rattle.mb_deciding.proofs.place.straight.prefer.Goals.{else-seen-gt0-via-else-seen-gt0}

pub perform_at-seen-requires : goal.perform_at-seen-requires
perform_at-seen-requires g c =
    c.requires.may 0 c.draw.result (InRatifier (Announce c.args.input 0)) c.args.memory.now c.draw.new.self
    (to.Load Proposal) (refl, refl) c.draw.ensures refl

pub returns-then-seen-from-clause-steps : goal.returns-then-seen-from-clause-steps
returns-then-seen-from-clause-steps g c =
    let t : QuorumTable = g.Q.Quorums.table c.args.q.now in
    let start = InRatifier (Announce c.args.input 0) in
    let value = c.perform_at-seen.result - 1 in
    let within : value < t.values = omega arith in
    let same : c.perform_at-seen.result ≡ value + 1 = omega arith in (
      1,
      omega arith,
      omega (arith, c.requires.room),
      one_more t g.M.Drawing.draws g.M.Memory.makes c.args.site.object start c.args.memory.now 0 start
          c.args.memory.now c.draw.new.self c.perform_at-seen.new.self c.draw.result
          (checks_of value (t.read value)) (refl, refl) c.draw.ensures
          (prefer_step t c.args.input value c.perform_at-seen.result c.draw.result _ c.perform_at-seen.ensures
          within same),
    )

-- In both proofs below `first` is the load that finds no value of the table. The process stores its input next.
pub perform_at-requires : goal.perform_at-requires
perform_at-requires g c =
    let t : QuorumTable = g.Q.Quorums.table c.args.q.now in
    let start = InRatifier (Announce c.args.input 0) in
    let none : c.perform_at-seen.result ≤ t.values → c.perform_at-seen.result ≡ 0 =
    elim c.else-seen-gt0.branch [
      | else-seen-gt0-via-then-seen-gt0+else-seen-from w ↦ (λ small. absurd (omega arith))
      | else-seen-gt0-via-else-seen-gt0 w ↦ (λ small. omega arith)
    ] in
    let first =
    one_more t g.M.Drawing.draws g.M.Memory.makes c.args.site.object start c.args.memory.now 0 start
    c.args.memory.now c.draw.new.self c.perform_at-seen.new.self c.draw.result
    (leads.Go (InRatifier (Propose c.args.input))) (refl, refl) c.draw.ensures
    (empty_step t c.args.input c.perform_at-seen.result c.draw.result _ c.perform_at-seen.ensures c.requires.input
    none) in
    c.requires.may 1 c.draw-2.result (InRatifier (Propose c.args.input)) c.perform_at-seen.new.self c.draw-2.new.self
    (to.Store Proposal (c.from-2.result + 1)) first c.draw-2.ensures (ap (λ n. n + 1) c.from-2.ensures)

pub returns-clause-steps : goal.returns-clause-steps
returns-clause-steps g c =
    let t : QuorumTable = g.Q.Quorums.table c.args.q.now in
    let input = c.args.input in
    let start = InRatifier (Announce input 0) in
    let none : c.perform_at-seen.result ≤ t.values → c.perform_at-seen.result ≡ 0 =
    elim c.else-seen-gt0.branch [
      | else-seen-gt0-via-then-seen-gt0+else-seen-from w ↦ (λ small. absurd (omega arith))
      | else-seen-gt0-via-else-seen-gt0 w ↦ (λ small. omega arith)
    ] in
    let first =
    one_more t g.M.Drawing.draws g.M.Memory.makes c.args.site.object start c.args.memory.now 0 start
    c.args.memory.now c.draw.new.self c.perform_at-seen.new.self c.draw.result (leads.Go (InRatifier (Propose input)))
    (refl, refl) c.draw.ensures
    (empty_step t input c.perform_at-seen.result c.draw.result _ c.perform_at-seen.ensures c.requires.input none) in (
      2,
      omega arith,
      omega (arith, c.requires.room),
      one_more t g.M.Drawing.draws g.M.Memory.makes c.args.site.object start c.args.memory.now 1
          (InRatifier (Propose input)) c.perform_at-seen.new.self c.draw-2.new.self c.perform_at.new.self
          c.draw-2.result (checks_of input (t.read input)) first c.draw-2.ensures
          (propose_step t input (c.from-2.result + 1) c.perform_at.result c.draw-2.result _
          (ap (λ n. n + 1) c.from-2.ensures) c.perform_at.ensures c.requires.input),
    )
