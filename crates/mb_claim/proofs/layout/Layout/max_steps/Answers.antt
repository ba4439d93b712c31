-- Proof of `Layout::max_steps`: the most accesses that a claim can make.
use Rattle.std.proofs.Common.{◌≡◌, ◌≤◌, ◌+◌, suc, drop, arith, ap, ◌∙◌, subst}
use Rattle.mb_deciding.specs.Vocabulary.{most_turns, largest_quorum}
use Rattle.mb_deciding.specs.Course.{IsFitKind}
use Rattle.mb_claim.specs.{quorums_of, kinds_of, most_on_objects}
use Rattle.mb_claim.proofs.Bounds.{row_steps}
use Rattle.mb_claim.proofs.StepsLeft.{most_from}
use Rattle.mb_claim.proofs.LayoutObjects.{none_left}
use Rattle.mb_claim.proofs.layout.Layout.max_steps.Goals.{in-Conciliator, in-Ratifier, in-LastObject}
use Rattle.mb_claim.proofs.layout.Layout.max_steps.Goals as goal

pub kind_of-requires : goal.kind_of-requires
kind_of-requires c = let layout = c.args.self.now in omega (arith, layout.counted)

pub loop-object-preserved : goal.loop-object-preserved
loop-object-preserved c =
    let layout = c.args.self.now in
    let t = quorums_of layout in
    let values : c.loop-consumer.consumer ≡ t.values =
    omega (arith, c.loop-consumer-test.false, c.loop-consumer.auto.consumer-end, c.consumers-consumer-end.ensures) in
    let write = c.loop-consumer.invariant.write ∙ ap (largest_quorum t.write) values in
    let read = c.loop-consumer.invariant.read ∙ ap (largest_quorum t.read) values in
    let steps : c.match-kind_of.steps ≡ most_turns t c.kind_of.result =
    elim c.match-kind_of.branch [
      | in-Conciliator w ↦ omega (arith, ap (most_turns t) w.in-Conciliator.is, w.steps-is)
      | in-Ratifier w ↦ omega (arith, ap (most_turns t) w.in-Ratifier.is, w.steps-is, write, read)
      | in-LastObject w ↦ omega (arith, ap (most_turns t) w.in-LastObject.is, w.steps-is)
    ] in
    let few = c.loop-consumer.invariant in
    let small : c.match-kind_of.steps ≤ 130 =
    elim c.match-kind_of.branch [
      | in-Conciliator w ↦ omega (arith, subst IsFitKind w.in-Conciliator.is c.kind_of.ensures.fit, w.steps-is)
      | in-Ratifier w ↦ omega (arith, few.write_small, few.read_small, w.steps-is)
      | in-LastObject w ↦ omega (arith, w.steps-is)
    ] in
    let one : suc c.loop-object.object ≡ c.loop-object.object + 1 = omega arith in
    record {
      sum = omega (
        arith,
        steps,
        c.loop-object.invariant.sum,
        most_from t (kinds_of layout) c.loop-object.object c.kind_of.result c.kind_of.ensures.exact,
        ap (λ o. most_on_objects t (drop o (kinds_of layout))) one,
      );
      small = omega (arith, small, c.loop-object.invariant.small);
    }

pub returns : goal.returns
returns c =
    let layout = c.args.self.now in
    let none = none_left (quorums_of layout) (kinds_of layout) c.loop-object.object (omega (arith, layout.counted)) in
    omega (arith, none, c.loop-object.invariant.sum, row_steps (quorums_of layout) layout.shape layout.pairs)
