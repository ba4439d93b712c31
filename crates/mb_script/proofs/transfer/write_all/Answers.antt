-- Proof of `write_all`: it writes the whole text.
use Rattle.std.proofs.Common.{arith, ◌∙◌}
use Rattle.std.proofs.lemmas.Grind.{common_steps}
use Rattle.mb_script.proofs.KnownBytes.{Appends-more, take-rest}
use Rattle.mb_script.proofs.transfer.write_all.Goals as goal

pub loop-at-preserved : goal.loop-at-preserved
loop-at-preserved g c = record {
  within = let e = c.in-Ok.ensures.bound in grind (arith, common_steps);
  held = Appends-more _ _ _ c.loop-at.at c.in-Ok.n c.args.text.now c.loop-at.invariant.held
      (rw take-rest at c.in-Ok.ensures.bytes);
  works = c.in-Ok.ensures.works c.if-n-gt0.true ∙ c.loop-at.invariant.works;
}
