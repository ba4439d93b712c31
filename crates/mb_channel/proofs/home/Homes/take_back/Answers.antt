use Rattle.std.proofs.Common.{sym, ap, ◌∙◌, ◌<◌, ◌-◌, refl, subst}
use mathlib.Core.Option.{some-injective}
use Rattle.atomic_table.proofs.Lists.{at_index}
use Rattle.mb_channel.specs.declared.home.Home.{Home}
use Rattle.mb_channel.specs.Homes.{out_of}
use Rattle.mb_channel.proofs.home.Homes.take_back.Goals as goal

pub take_back-requires-clause-segment : goal.take_back-requires-clause-segment
take_back-requires-clause-segment g c = let s = c.requires.segment in
    let here = at_index c.args.self.now.list.items (c.args.at - c.args.self.now.first) c.index_mut.result.now
    c.requires.there c.index_mut.ensures.value in
    s.2.0 ∙ ap (λ (h : Home _). h.hub.seat.table_id) (some-injective s.0 c.index_mut.result.now (sym s.1 ∙ here))

pub take_back-requires-clause-out : goal.take_back-requires-clause-out
take_back-requires-clause-out g c = let s = c.requires.segment in
    let here = at_index c.args.self.now.list.items (c.args.at - c.args.self.now.first) c.index_mut.result.now
    c.requires.there c.index_mut.ensures.value in
    subst (λ (h : Home _). 0 < out_of h) (some-injective s.0 c.index_mut.result.now (sym s.1 ∙ here)) s.2.1

pub returns-clause-list : goal.returns-clause-list
returns-clause-list g c = (
  c.index_mut.result.now,
  c.take_back.new.self,
  at_index c.args.self.now.list.items (c.args.at - c.args.self.now.first) c.index_mut.result.now c.requires.there
      c.index_mut.ensures.value,
  refl,
  (c.take_back.ensures.back, c.take_back.ensures.done),
)
