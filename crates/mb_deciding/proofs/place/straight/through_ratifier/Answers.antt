-- Proof of `through_ratifier`: takes a process through a ratifier, from its first access to its output.
use Rattle.std.proofs.Common.{◌+◌, false, arith, suc, refl, sym, ap, subst, count_ones}
use Rattle.mb_quorum.specs.Quorum.{QuorumTable, IsQuorumTable}
use Rattle.mb_deciding.specs.{Ratifier, InRatifier, Announce, Check, Next, AreSteps, DrawsAndMakes, first_place, answer, checks_of}
use Rattle.mb_deciding.specs.declared.place.pc.Next.TheVariants as leads
use Rattle.mb_deciding.proofs.ManySteps.{one_more, joined, announce_step}
use Rattle.mb_deciding.proofs.Sizes.{largest_bound}
use Rattle.mb_deciding.proofs.TurnsLeft.{some_ones}
use Rattle.mb_deciding.proofs.StraightSteps.{checks_some, clear_step, contested_step}
use Rattle.mb_deciding.proofs.place.straight.through_ratifier.Goals as goal

-- If a proof below uses `one_more`, that adds one access to those made before it.
pub announces-init : goal.announces-init
announces-init g c =
    let t : QuorumTable = g.Q.Quorums.table c.args.q.now in
    record {
      made = 0;
      count = omega arith;
      room = omega (
        arith,
        c.requires.room,
        ap count_ones c.write_quorum-mask.ensures,
        largest_bound t.write t.values c.args.input c.requires.input,
      );
      few = omega (
        arith,
        ap count_ones c.write_quorum-mask.ensures,
        largest_bound t.write t.values c.args.input c.requires.input,
      );
      steps = (ap (λ mask. leads.Go (InRatifier (Announce c.args.input mask))) c.write_quorum-mask.ensures, refl);
    }

pub announces-preserved : goal.announces-preserved
announces-preserved g c =
    let t : QuorumTable = g.Q.Quorums.table c.args.q.now in
    let q : IsQuorumTable t = g.met.Q.Quorums.lawful c.args.q.now in
    let start = first_place t Ratifier c.args.input in
    let inv = c.announces.invariant in
    let fewer = c.without-mask.ensures.fewer c.least-register.ensures.member.member in
    record {
      made = suc inv.made;
      count = omega (arith, inv.count, inv.room);
      room = omega (arith, inv.room, fewer);
      few = omega (arith, inv.few, fewer);
      steps = one_more t g.M.Drawing.draws g.M.Memory.makes c.args.site.object start c.args.memory.now inv.made
          (InRatifier (Announce c.args.input c.announces.mask)) c.announces.memory c.draw.new.self
          c.perform_at.new.self c.draw.result _ inv.steps c.draw.ensures
          (announce_step t q c.args.input c.announces.mask c.least-register.result c.without-mask.result
          c.perform_at.result c.draw.result _ c.requires.input c.announces-test.true c.least-register.ensures.member
          c.without-mask.ensures.taken c.perform_at.ensures);
    }

-- In the next two proofs `first` are the stores of the announcement, after which no register is left to announce.
-- `joined` adds the accesses of `prefer`.
pub prefer-preference-requires-clause-may : goal.prefer-preference-requires-clause-may
prefer-preference-requires-clause-may g c n word at before mid op steps drawn is =
    let t : QuorumTable = g.Q.Quorums.table c.args.q.now in
    let start = first_place t Ratifier c.args.input in
    let inv = c.announces.invariant in
    let first =
    subst (λ mask. AreSteps t (DrawsAndMakes g.M.Drawing.draws g.M.Memory.makes c.args.site.object) start
    c.args.memory.now inv.made (leads.Go (InRatifier (Announce c.args.input mask))) c.announces.memory)
    c.announces-test.false inv.steps in
    c.requires.may (n + inv.made) word at before mid op
    (joined t (DrawsAndMakes g.M.Drawing.draws g.M.Memory.makes c.args.site.object) start c.args.memory.now inv.made
    (InRatifier (Announce c.args.input 0)) c.announces.memory first n (leads.Go at) before steps) drawn is

pub checks-init : goal.checks-init
checks-init g c =
    let t : QuorumTable = g.Q.Quorums.table c.args.q.now in
    let start = first_place t Ratifier c.args.input in
    let inv = c.announces.invariant in
    let preference = c.prefer-preference.result in
    let more = c.prefer-preference.ensures.steps in
    let first =
    subst (λ mask. AreSteps t (DrawsAndMakes g.M.Drawing.draws g.M.Memory.makes c.args.site.object) start
    c.args.memory.now inv.made (leads.Go (InRatifier (Announce c.args.input mask))) c.announces.memory)
    c.announces-test.false inv.steps in
    record {
      value = c.prefer-preference.ensures.value;
      made = more.0 + inv.made;
      count = omega (arith, inv.count, more.2);
      room = omega (
        arith,
        inv.room,
        more.1,
        more.2,
        ap count_ones c.read_quorum-mask.ensures,
        largest_bound t.read t.values preference c.prefer-preference.ensures.value,
      );
      few = omega (
        arith,
        inv.few,
        more.1,
        ap count_ones c.read_quorum-mask.ensures,
        largest_bound t.read t.values preference c.prefer-preference.ensures.value,
      );
      steps = subst (λ mask. AreSteps t (DrawsAndMakes g.M.Drawing.draws g.M.Memory.makes c.args.site.object) start
          c.args.memory.now (more.0 + inv.made) (checks_of preference mask) c.prefer-preference.new.memory)
          (sym c.read_quorum-mask.ensures)
          (joined t (DrawsAndMakes g.M.Drawing.draws g.M.Memory.makes c.args.site.object) start c.args.memory.now
          inv.made (InRatifier (Announce c.args.input 0)) c.announces.memory first more.0
          (checks_of preference (t.read preference)) c.prefer-preference.new.memory more.3);
    }

pub overflow_sub-left-in-checks : goal.overflow_sub-left-in-checks
overflow_sub-left-in-checks g c = omega (arith, c.checks.invariant.room, some_ones c.checks.mask c.checks-test.true)

-- If a proof below has `before`, that is the accesses up to the load, which is of the least register that is left.
pub returns-then-perform_at-ne0-clause-steps : goal.returns-then-perform_at-ne0-clause-steps
returns-then-perform_at-ne0-clause-steps g c =
    let t : QuorumTable = g.Q.Quorums.table c.args.q.now in
    let q : IsQuorumTable t = g.met.Q.Quorums.lawful c.args.q.now in
    let start = first_place t Ratifier c.args.input in
    let inv = c.checks.invariant in
    let preference = c.prefer-preference.result in
    let before =
    subst (λ (follows : Next). AreSteps t (DrawsAndMakes g.M.Drawing.draws g.M.Memory.makes c.args.site.object) start
    c.args.memory.now inv.made follows c.checks.memory) (checks_some preference c.checks.mask c.checks-test.true)
    inv.steps in (
      suc inv.made,
      omega (arith, inv.count, inv.room, some_ones c.checks.mask c.checks-test.true),
      rw (c.undecided.ensures) (one_more t g.M.Drawing.draws g.M.Memory.makes c.args.site.object start
          c.args.memory.now inv.made (InRatifier (Check preference c.checks.mask)) c.checks.memory
          c.draw-in-checks.new.self c.perform_at-in-checks.new.self c.draw-in-checks.result
          (leads.Out (answer false preference)) before c.draw-in-checks.ensures
          (contested_step t q preference c.checks.mask c.least-register-in-checks.result c.perform_at-in-checks.result
          c.draw-in-checks.result _ c.perform_at-in-checks.ensures inv.value c.if-perform_at-ne0.true
          c.least-register-in-checks.ensures.member)),
    )

pub returns-then-perform_at-ne0-clause-few : goal.returns-then-perform_at-ne0-clause-few
returns-then-perform_at-ne0-clause-few g c =
    let inv = c.checks.invariant in
    omega (arith, inv.count, inv.few, some_ones c.checks.mask c.checks-test.true)

pub checks-preserved : goal.checks-preserved
checks-preserved g c =
    let t : QuorumTable = g.Q.Quorums.table c.args.q.now in
    let q : IsQuorumTable t = g.met.Q.Quorums.lawful c.args.q.now in
    let start = first_place t Ratifier c.args.input in
    let inv = c.checks.invariant in
    let preference = c.prefer-preference.result in
    let before =
    subst (λ (follows : Next). AreSteps t (DrawsAndMakes g.M.Drawing.draws g.M.Memory.makes c.args.site.object) start
    c.args.memory.now inv.made follows c.checks.memory) (checks_some preference c.checks.mask c.checks-test.true)
    inv.steps in
    let fewer = c.without-mask-in-checks.ensures.fewer c.least-register-in-checks.ensures.member.member in
    record {
      value = inv.value;
      made = suc inv.made;
      count = omega (arith, inv.count, inv.room, some_ones c.checks.mask c.checks-test.true);
      room = omega (arith, inv.room, fewer);
      few = omega (arith, inv.few, fewer);
      steps = one_more t g.M.Drawing.draws g.M.Memory.makes c.args.site.object start c.args.memory.now inv.made
          (InRatifier (Check preference c.checks.mask)) c.checks.memory c.draw-in-checks.new.self
          c.perform_at-in-checks.new.self c.draw-in-checks.result
          (checks_of preference c.without-mask-in-checks.result) before c.draw-in-checks.ensures
          (clear_step t q preference c.checks.mask c.least-register-in-checks.result c.without-mask-in-checks.result
          c.perform_at-in-checks.result c.draw-in-checks.result _ c.perform_at-in-checks.ensures inv.value
          c.if-perform_at-ne0.false c.least-register-in-checks.ensures.member
          c.without-mask-in-checks.ensures.taken);
    }
