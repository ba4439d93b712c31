-- Proof of `through_last`: takes a process through a last object, from its first access to its output.
use Rattle.std.proofs.Common.{◌≡◌, ◌+◌, true, refl, sym, ap, subst, arith}
use Rattle.mb_quorum.specs.Quorum.{QuorumTable}
use Rattle.mb_deciding.specs.{Next, LastPlace, InLast, LastReaches, answer}
use Rattle.mb_deciding.specs.declared.place.pc.Next.TheVariants as leads
use Rattle.mb_deciding.proofs.ManySteps.{one_more}
use Rattle.mb_deciding.proofs.OneStep.{last_step}
use Rattle.mb_deciding.proofs.place.straight.through_last.Goals as goal

pub perform_at-seen-requires : goal.perform_at-seen-requires
perform_at-seen-requires g c =
    c.requires.may 0 c.draw.result (InLast (record { input = c.args.input })) c.args.memory.now c.draw.new.self
    c.next.result (refl, refl) c.draw.ensures c.next.ensures

pub returns-clause-steps : goal.returns-clause-steps
returns-clause-steps g c =
    let t : QuorumTable = g.Q.Quorums.table c.args.q.now in
    let place : LastPlace = record { input = c.args.input } in
    let follows : Next = leads.Out (answer true c.after.result.value) in
    let ends : c.after.result ≡ answer true c.after.result.value =
    ap (λ b. answer b c.after.result.value) c.after.ensures.decided in (
      1,
      omega (arith, c.requires.room),
      one_more t g.M.Drawing.draws g.M.Memory.makes c.args.site.object (InLast place) c.args.memory.now 0 (InLast place)
          c.args.memory.now c.draw.new.self c.perform_at-seen.new.self c.draw.result follows (refl, refl) c.draw.ensures
          (last_step t place _ c.next.result c.perform_at-seen.result c.draw.result follows c.next.ensures
          c.perform_at-seen.ensures
          (subst (λ out. LastReaches t place c.perform_at-seen.result (leads.Out out)) ends
          (c.after.ensures.reached t (sym c.values.ensures)))),
    )
