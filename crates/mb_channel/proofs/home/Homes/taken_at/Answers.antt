use Rattle.std.proofs.Common.{refl}
use Rattle.atomic_table.proofs.Lists.{at_index}
use Rattle.mb_channel.proofs.home.Homes.taken_at.Goals as goal

pub returns-clause-taken : goal.returns-clause-taken
returns-clause-taken g c = (
  c.index_mut.result.now,
  c.count_taken.new.self,
  at_index c.args.self.now.list.items c.args.at c.index_mut.result.now c.requires.there c.index_mut.ensures.value,
  refl,
  (c.count_taken.ensures.looked, c.count_taken.ensures.taken),
)

pub returns-clause-drawn : goal.returns-clause-drawn
returns-clause-drawn g c = (
  c.index_mut.result.now,
  c.count_taken.new.self,
  at_index c.args.self.now.list.items c.args.at c.index_mut.result.now c.requires.there c.index_mut.ensures.value,
  refl,
  (c.count_taken.ensures.looked, c.count_taken.ensures.drawn),
)
