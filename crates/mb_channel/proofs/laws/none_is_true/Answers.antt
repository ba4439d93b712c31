use Rattle.std.proofs.Common.{subst, sym, ◌∙◌, ◌<◌}
use mathlib.Core.Option.{some-injective}
use Rattle.mb_channel.specs.Types.{Home}
use Rattle.mb_channel.specs.Homes.{IsDone}
use Rattle.mb_channel.specs.Closing.{IsFinished}
use Rattle.mb_channel.proofs.Closing.{none_waits}
use Rattle.mb_channel.proofs.Freed.{all_homes}
use Rattle.mb_channel.proofs.Views.{there}
use Rattle.mb_channel.proofs.laws.none_is_true.Goals as goal

pub returns : goal.returns
returns g c = record {
  none = λ s k id r st v w at saw more. let x = none_waits s k id r st v w at saw more in
      all_homes k.homes IsFinished (λ j h e.
      let d = x.1 j (subst (λ m. j < m) x.0 (there k.homes j h e)) in
      let done = subst (λ (y : Home _). IsDone y) (some-injective d.0 h (sym d.1 ∙ e)) d.2 in
      λ s k n view. let o = c.over_is_true.ensures.over s k n _ view done in (o.0, o.2));
}
