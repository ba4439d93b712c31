-- Proof of `through_conciliator`: takes a process through a conciliator whose last attempt is `s`.
use Rattle.std.proofs.Common.{◌+◌, ◌%◌, ◌*◌, ◌^◌, false, arith, suc, refl, ap}
use Rattle.mb_quorum.specs.Quorum.{QuorumTable}
use Rattle.mb_deciding.specs.{Value, Conciliator, InConciliator, Draw, Put, Look, first_place, answer}
use Rattle.mb_deciding.specs.declared.access.Op.TheVariants as to
use Rattle.mb_deciding.specs.declared.place.pc.Next.TheVariants as leads
use Rattle.mb_deciding.proofs.ConciliatorPlaces.{low_bits, next_limits}
use Rattle.mb_deciding.proofs.ManySteps.{one_more}
use Rattle.mb_deciding.proofs.StraightSteps.{met_step, missed_step, found_step, put_step, look_step}
use Rattle.mb_deciding.proofs.place.straight.through_conciliator.Goals as goal

-- In each proof below `at` is the place before the newest attempt's load. `one_more` adds one access to those made.
pub returns-then-seen-ne0-clause-steps : goal.returns-then-seen-ne0-clause-steps
returns-then-seen-ne0-clause-steps g c =
    let t : QuorumTable = g.Q.Quorums.table c.args.q.now in
    let start = first_place t (Conciliator c.args.s) c.args.input in
    let at = InConciliator (Draw c.args.input c.draws.limit (1 * 2 ^ c.args.s % 2 ^ 64)) in
    let inv = c.draws.invariant in (
      suc inv.made,
      omega (arith, inv.count, inv.limits.0, c.requires.room),
      one_more t g.M.Drawing.draws g.M.Memory.makes c.args.site.object start c.args.memory.now inv.made at
          c.draws.memory c.draw-word.new.self c.perform_at-seen.new.self c.draw-word.result _ inv.steps
          c.draw-word.ensures
          (met_step t c.args.input c.draws.limit _ c.perform_at-seen.result c.draw-word.result c.met.result _
          c.perform_at-seen.ensures c.if-seen-ne0.true (rw (c.values-values.ensures) at c.met.ensures.met)),
    )

pub draws-preserved : goal.draws-preserved
draws-preserved g c =
    let t : QuorumTable = g.Q.Quorums.table c.args.q.now in
    let start = first_place t (Conciliator c.args.s) c.args.input in
    let at = InConciliator (Draw c.args.input c.draws.limit (1 * 2 ^ c.args.s % 2 ^ 64)) in
    let inv = c.draws.invariant in
    let above = rw (low_bits c.args.s inv.made c.draws.limit _ c.draw-word.result inv.limits) at
    c.if-word-modulus.false in
    record {
      made = suc inv.made;
      limits = next_limits c.args.s inv.made c.draws.limit _ c.draw-word.result inv.limits above;
      count = omega (arith, inv.count, inv.limits.0, c.requires.room);
      steps = one_more t g.M.Drawing.draws g.M.Memory.makes c.args.site.object start c.args.memory.now inv.made at
          c.draws.memory c.draw-word.new.self c.perform_at-seen.new.self c.draw-word.result _ inv.steps
          c.draw-word.ensures
          (missed_step t c.args.input c.draws.limit _ c.perform_at-seen.result c.draw-word.result _
          c.perform_at-seen.ensures c.if-seen-ne0.false c.if-word-modulus.false);
    }

-- In the proofs below `puts` are the accesses up to the attempt that stores. In the last two `looks` adds the store.
pub perform_at-requires : goal.perform_at-requires
perform_at-requires g c =
    let t : QuorumTable = g.Q.Quorums.table c.args.q.now in
    let start = first_place t (Conciliator c.args.s) c.args.input in
    let at = InConciliator (Draw c.args.input c.draws.limit (1 * 2 ^ c.args.s % 2 ^ 64)) in
    let inv = c.draws.invariant in
    let puts =
    one_more t g.M.Drawing.draws g.M.Memory.makes c.args.site.object start c.args.memory.now inv.made at c.draws.memory
    c.draw-word.new.self c.perform_at-seen.new.self c.draw-word.result (leads.Go (InConciliator (Put c.args.input)))
    inv.steps c.draw-word.ensures
    (found_step t c.args.input c.draws.limit _ c.perform_at-seen.result c.draw-word.result _
    c.perform_at-seen.ensures c.if-seen-ne0.false c.if-word-modulus.true) in
    c.requires.may (suc inv.made) c.draw.result (InConciliator (Put c.args.input)) c.perform_at-seen.new.self
    c.draw.new.self (to.Store Value (c.from.result + 1)) puts c.draw.ensures
    (ap (λ n. to.Store Value (n + 1)) c.from.ensures)

pub perform_at-seen-requires-2 : goal.perform_at-seen-requires-2
perform_at-seen-requires-2 g c =
    let t : QuorumTable = g.Q.Quorums.table c.args.q.now in
    let start = first_place t (Conciliator c.args.s) c.args.input in
    let at = InConciliator (Draw c.args.input c.draws.limit (1 * 2 ^ c.args.s % 2 ^ 64)) in
    let inv = c.draws.invariant in
    let puts =
    one_more t g.M.Drawing.draws g.M.Memory.makes c.args.site.object start c.args.memory.now inv.made at c.draws.memory
    c.draw-word.new.self c.perform_at-seen.new.self c.draw-word.result (leads.Go (InConciliator (Put c.args.input)))
    inv.steps c.draw-word.ensures
    (found_step t c.args.input c.draws.limit _ c.perform_at-seen.result c.draw-word.result _
    c.perform_at-seen.ensures c.if-seen-ne0.false c.if-word-modulus.true) in
    let looks =
    one_more t g.M.Drawing.draws g.M.Memory.makes c.args.site.object start c.args.memory.now (suc inv.made)
    (InConciliator (Put c.args.input)) c.perform_at-seen.new.self c.draw.new.self c.perform_at.new.self c.draw.result
    (leads.Go (InConciliator (Look c.args.input))) puts c.draw.ensures
    (put_step t c.args.input (c.from.result + 1) c.perform_at.result c.draw.result _
    (ap (λ n. n + 1) c.from.ensures) c.perform_at.ensures) in
    c.requires.may (suc (suc inv.made)) c.draw-2.result (InConciliator (Look c.args.input)) c.perform_at.new.self
    c.draw-2.new.self (to.Load Value) looks c.draw-2.ensures refl

pub returns-clause-steps : goal.returns-clause-steps
returns-clause-steps g c =
    let t : QuorumTable = g.Q.Quorums.table c.args.q.now in
    let start = first_place t (Conciliator c.args.s) c.args.input in
    let at = InConciliator (Draw c.args.input c.draws.limit (1 * 2 ^ c.args.s % 2 ^ 64)) in
    let inv = c.draws.invariant in
    let puts =
    one_more t g.M.Drawing.draws g.M.Memory.makes c.args.site.object start c.args.memory.now inv.made at c.draws.memory
    c.draw-word.new.self c.perform_at-seen.new.self c.draw-word.result (leads.Go (InConciliator (Put c.args.input)))
    inv.steps c.draw-word.ensures
    (found_step t c.args.input c.draws.limit _ c.perform_at-seen.result c.draw-word.result _
    c.perform_at-seen.ensures c.if-seen-ne0.false c.if-word-modulus.true) in
    let looks =
    one_more t g.M.Drawing.draws g.M.Memory.makes c.args.site.object start c.args.memory.now (suc inv.made)
    (InConciliator (Put c.args.input)) c.perform_at-seen.new.self c.draw.new.self c.perform_at.new.self c.draw.result
    (leads.Go (InConciliator (Look c.args.input))) puts c.draw.ensures
    (put_step t c.args.input (c.from.result + 1) c.perform_at.result c.draw.result _
    (ap (λ n. n + 1) c.from.ensures) c.perform_at.ensures) in (
      suc (suc (suc inv.made)),
      omega (arith, inv.count, inv.limits.0, c.requires.room),
      one_more t g.M.Drawing.draws g.M.Memory.makes c.args.site.object start c.args.memory.now (suc (suc inv.made))
          (InConciliator (Look c.args.input)) c.perform_at.new.self c.draw-2.new.self c.perform_at-seen-2.new.self
          c.draw-2.result (leads.Out (answer false c.met-2.result)) looks c.draw-2.ensures
          (look_step t c.args.input c.perform_at-seen-2.result c.draw-2.result c.met-2.result _
          c.perform_at-seen-2.ensures (rw (c.values-values.ensures) at c.met-2.ensures.met)),
    )
