use Rattle.std.proofs.Common.{[], ap, arith, length, refl, sym}
use Rattle.mb_channel.specs.Lengths.{drawn_there, sum_of, taken_there}
use Rattle.mb_channel.proofs.Lengths.{looked_same}
use Rattle.mb_channel.proofs.home_samples.sample_waiting.Goals as goal

pub returns-clause-waiting : goal.returns-clause-waiting
returns-clause-waiting c l h g is a b x y = let t = ap (sum_of taken_there) is in let d = ap (sum_of drawn_there) is in
    omega (arith, t, d, a, b, x, y)

pub returns-clause-more : goal.returns-clause-more
returns-clause-more c l h is a b waiting = let t = ap (sum_of taken_there) is in
    let d = ap (sum_of drawn_there) is in absurd (omega (arith, t, d, a, b, waiting))

pub returns-clause-looked : goal.returns-clause-looked
returns-clause-looked c h = ((refl, refl), tt)

pub returns-clause-added : goal.returns-clause-added
returns-clause-added c h g looked = looked.1

pub returns-clause-had : goal.returns-clause-had
returns-clause-had c l first waiting = (
  l,
  refl,
  l.list.items,
  record { gone = []; all = refl; number = sym first; freed = tt },
  looked_same l.list.items,
  waiting,
)

pub returns-clause-given : goal.returns-clause-given
returns-clause-given c hs sum = let n = ap length sum.1 in absurd (omega (arith, n))
