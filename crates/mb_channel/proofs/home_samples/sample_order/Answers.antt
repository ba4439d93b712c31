use Rattle.std.proofs.Common.{ℕ, zero, suc, [], ◌∷◌, ◌<◌, ◌≡◌, ap, arith, inl, ⊎_elim}
use Rattle.mb_channel.specs.Types.{Home}
use Rattle.mb_channel.specs.HomeSamples.{place}
use Rattle.mb_channel.specs.Homes.{came_back}
use Rattle.mb_channel.specs.LifeSamples.{one_got, two_sent}
use Rattle.mb_channel.specs.Lives.{count_sent, start}
use Rattle.mb_channel.proofs.home_samples.sample_order.Goals as goal

behind_two : (h g : Home ℕ) (k : ℕ) → came_back h ≡ one_got ∷ two_sent ∷ [] → 0 < k → 0 < start (h ∷ g ∷ []) k
behind_two h g zero same lt = absurd (omega (arith, lt))
behind_two h g (suc k) same lt = let e : count_sent (came_back h) ≡ 2 = ap count_sent same in omega arith

pub returns-clause-first : goal.returns-clause-first
returns-clause-first c h g same q up = ⊎_elim
    (λ l. let e = behind_two h g q.segment same l in omega arith)
    (λ l. let e = l.1 in omega arith) up

pub returns-clause-unsent : goal.returns-clause-unsent
returns-clause-unsent c h g same keeps = let e : count_sent (came_back h) ≡ 0 = ap count_sent same in
    let l = keeps (place 1 0) (inl (omega arith)) in absurd (omega arith)
