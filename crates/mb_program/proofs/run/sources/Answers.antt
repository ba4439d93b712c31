-- Proof of `sources`, which returns the sources of the consumers' random words, one for each consumer.
use Rattle.std.proofs.Common.{◌+◌, ◌++◌, ◌∙◌, ap, ap₂, sym, ℕ, [], ◌∷◌}
use Rattle.mb_program.specs.Source.{source_from}
use Rattle.mb_program.proofs.RunItems.{map_more}
use Rattle.mb_program.proofs.run.sources.Goals as goal

pub loop-c-preserved : goal.loop-c-preserved
loop-c-preserved g c = (
  c.in_ok-push.ensures.items ∙ ap₂ (λ xs x. xs ++ x ∷ []) c.loop-c.invariant.0 c.source_of.ensures
      ∙ sym (map_more (source_from c.args.seed) c.loop-c.c),
  c.in_ok-push.ensures.len ∙ ap (λ (n : ℕ). n + 1) c.loop-c.invariant.1,
)
