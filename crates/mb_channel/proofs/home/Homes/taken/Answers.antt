use Rattle.std.proofs.Common.{arith, refl, ◌∙◌, ◌≡◌}
use Rattle.mb_channel.specs.Lengths.{HasLooked, drawn_there, taken_there}
use Rattle.mb_channel.proofs.Lengths.{looked_long, looked_same, looks_more, sums_more, sums_same}
use Rattle.mb_channel.proofs.home.Homes.taken.Goals as goal

pub loop-at-init : goal.loop-at-init
loop-at-init g c = let hs = c.args.self.now.list.items in
    record { first = (refl, refl); long = refl; looked = looked_same hs; taken = refl; drawn = refl }

pub returns-in_err-taken-clause-looked : goal.returns-in_err-taken-clause-looked
returns-in_err-taken-clause-looked g c = looks_more c.args.self.now.list.items c.loop-at.self.list.items
    c.taken_at.new.self.list.items c.loop-at.at (λ _ h. c.taken_at.result ≡ taken_there h)
    c.loop-at.invariant.looked c.taken_at.ensures.taken

pub returns-in_err-taken-clause-drawn : goal.returns-in_err-taken-clause-drawn
returns-in_err-taken-clause-drawn g c = sums_same drawn_there c.loop-at.self.list.items
    c.taken_at.new.self.list.items c.loop-at.at (λ h u. HasLooked h u) c.taken_at.ensures.drawn
    ∙ c.loop-at.invariant.drawn

pub loop-at-preserved : goal.loop-at-preserved
loop-at-preserved g c =
    let hs = c.args.self.now.list.items in let gs = c.loop-at.self.list.items in
    let us = c.taken_at.new.self.list.items in
    let looked = looks_more hs gs us c.loop-at.at (λ _ h. c.taken_at.result ≡ taken_there h)
    c.loop-at.invariant.looked c.taken_at.ensures.taken in record {
      first = (let a = c.taken_at.ensures.first in let b = c.loop-at.invariant.first in (a.0 ∙ b.0, a.1 ∙ b.1));
      long = looked_long hs us looked;
      looked = looked;
      taken = (let more = sums_more taken_there gs us c.loop-at.at c.taken_at.result (λ h u. HasLooked h u)
          c.taken_at.ensures.taken in let before = c.loop-at.invariant.taken in let sum = c.in_ok-taken.ensures
          in omega arith);
      drawn = sums_same drawn_there gs us c.loop-at.at (λ h u. HasLooked h u) c.taken_at.ensures.drawn
          ∙ c.loop-at.invariant.drawn;
    }
