use Rattle.std.proofs.Common.{sym, ◌∙◌}
use Rattle.mb_channel.proofs.Whole.{closes}
use Rattle.mb_channel.proofs.list.List.end.Goals as goal

pub returns-then-ends-rights : goal.returns-then-ends-rights
returns-then-ends-rights g c = let closed = c.close_with-closed in record {
  whole = closes c.args.chair.id c.args.chair.me.0 _ _ closed.ensures.values.2 c.requires.ready.0
      c.word-lock.result c.word-ends.result c.take-homes.result
      c.word-lock.ensures c.if-lock-eq0.true c.word-ends.ensures
      (c.if-ends-rights.true ∙ sym (c.requires.counts c.if-rights-lt18446744073709551615.true))
      c.take-homes.ensures.value;
}
