use Rattle.std.proofs.Common.{arith, refl, ◌∙◌, ◌≡◌}
use Rattle.mb_channel.specs.Lengths.{HasLooked, drawn_there}
use Rattle.mb_channel.proofs.Lengths.{looked_long, looked_same, looks_more, sums_more}
use Rattle.mb_channel.proofs.home.Homes.drawn.Goals as goal

pub loop-at-init : goal.loop-at-init
loop-at-init g c = let hs = c.args.self.now.list.items in
    record { first = (refl, refl); long = refl; looked = looked_same hs; drawn = refl }

pub returns-in_err-drawn-clause-looked : goal.returns-in_err-drawn-clause-looked
returns-in_err-drawn-clause-looked g c = looks_more c.args.self.now.list.items c.loop-at.self.list.items
    c.drawn_at.new.self.list.items c.loop-at.at (λ _ h. c.drawn_at.result ≡ drawn_there h)
    c.loop-at.invariant.looked c.drawn_at.ensures.drawn

pub loop-at-preserved : goal.loop-at-preserved
loop-at-preserved g c =
    let hs = c.args.self.now.list.items in let gs = c.loop-at.self.list.items in
    let us = c.drawn_at.new.self.list.items in
    let looked = looks_more hs gs us c.loop-at.at (λ _ h. c.drawn_at.result ≡ drawn_there h)
    c.loop-at.invariant.looked c.drawn_at.ensures.drawn in record {
      first = (let a = c.drawn_at.ensures.first in let b = c.loop-at.invariant.first in (a.0 ∙ b.0, a.1 ∙ b.1));
      long = looked_long hs us looked;
      looked = looked;
      drawn = (let more = sums_more drawn_there gs us c.loop-at.at c.drawn_at.result (λ h u. HasLooked h u)
          c.drawn_at.ensures.drawn in let before = c.loop-at.invariant.drawn in let sum = c.in_ok-drawn.ensures
          in omega arith);
    }
