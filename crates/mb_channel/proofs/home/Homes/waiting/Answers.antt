use Rattle.std.proofs.Common.{refl, ◌∙◌}
use Rattle.mb_channel.proofs.Lengths.{looked_on, looked_same}
use Rattle.mb_channel.proofs.home.Homes.waiting.Goals as goal

pub loop-init : goal.loop-init
loop-init g c = record { first = (refl, refl); looked = looked_same c.args.self.now.list.items }

pub returns-in-Some-clause-looked : goal.returns-in-Some-clause-looked
returns-in-Some-clause-looked g c = looked_on c.args.self.now.list.items c.loop.self.list.items
    c.waiting_now.new.self.list.items c.loop.invariant.looked c.waiting_now.ensures.looked

pub loop-preserved : goal.loop-preserved
loop-preserved g c = record {
  first = (let a = c.waiting_now.ensures.first in let b = c.loop.invariant.first in (a.0 ∙ b.0, a.1 ∙ b.1));
  looked = looked_on c.args.self.now.list.items c.loop.self.list.items
      c.waiting_now.new.self.list.items c.loop.invariant.looked c.waiting_now.ensures.looked;
}
