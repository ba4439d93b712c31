use Rattle.std.proofs.Common.{subst, sym, ◌∙◌, ◌<◌}
use mathlib.Core.Option.{some-injective}
use Rattle.mb_channel.specs.Types.{Home}
use Rattle.mb_channel.specs.Homes.{IsDone, IsOver}
use Rattle.mb_channel.specs.Closing.{IsClosedOff, IsFinished}
use Rattle.mb_channel.proofs.Freed.{all_homes}
use Rattle.mb_channel.proofs.Views.{there}
use Rattle.mb_channel.proofs.laws.closed_is_true.Goals as goal

pub returns-clause-last : goal.returns-clause-last
returns-clause-last g c s k id n v at is = let x = (k.told id v at).last n is in (
  x.0,
  x.1,
  all_homes k.homes IsClosedOff (λ j h e.
      let o = x.2 j (subst (λ m. j < m) x.0 (there k.homes j h e)) in
      let over = subst (λ (y : Home _). IsOver y) (some-injective o.0 h (sym o.1 ∙ e)) o.2 in
      λ s k n view. c.over_is_true.ensures.over_all s k n _ view over),
)

pub returns-clause-empty : goal.returns-clause-empty
returns-clause-empty g c s k id n v at is takes here = all_homes k.homes IsFinished (λ j h e.
    let lt : j < v.at = subst (λ m. j < m) (((k.told id v at).last n is).0 ∙ sym here) (there k.homes j h e) in
    let d = (k.fits id v at).takes takes j lt in
    let done = subst (λ (x : Home _). IsDone x) (some-injective d.0 h (sym d.1 ∙ e)) d.2 in
    λ s k n view. let o = c.over_is_true.ensures.over s k n _ view done in (o.0, o.2))

pub returns-clause-alone : goal.returns-clause-alone
returns-clause-alone g c s k id v at is = (k.told id v at).alone is

pub returns-clause-shut : goal.returns-clause-shut
returns-clause-shut g c s k id v at is = (k.told id v at).shut is

pub returns-clause-over : goal.returns-clause-over
returns-clause-over g c s k id j v at is lt = let o = (k.told id v at).over is j lt in
    (o.0, o.1, λ s k n view. c.over_is_true.ensures.over_all s k n _ view o.2)

pub returns-clause-leads : goal.returns-clause-leads
returns-clause-leads g c s k j lt = let o = k.leads j lt in
    (o.0, o.1, λ s k n view. c.over_is_true.ensures.over_all s k n _ view o.2)

pub returns-clause-behind : goal.returns-clause-behind
returns-clause-behind g c s k id j v at is lt = let d = (k.fits id v at).takes is j lt in
    (d.0, d.1, λ s k n view. let o = c.over_is_true.ensures.over s k n _ view d.2 in (o.0, o.2))
