use Rattle.std.proofs.Common.{ap, arith, length, refl, sym, true≢false, ◌∙◌}
use Rattle.mb_channel.specs.Ends.{view_of}
use Rattle.mb_channel.specs.Homes.{Sat}
use Rattle.mb_channel.proofs.home_samples.sample_lengths.Goals as goal

pub returns-clause-log : goal.returns-clause-log
returns-clause-log c n e = refl

pub returns-clause-wakes : goal.returns-clause-wakes
returns-clause-wakes c n e = refl

pub returns-clause-nothing : goal.returns-clause-nothing
returns-clause-nothing c e = refl

pub returns-clause-silent : goal.returns-clause-silent
returns-clause-silent c n e same = let l = ap (λ x. length (view_of x).lengths) same in absurd (omega (arith, l))

pub returns-clause-holder : goal.returns-clause-holder
returns-clause-holder c told s v gives = true≢false (sym gives.1 ∙ ap (λ (m : Sat _). m.0.holds) gives.0)
