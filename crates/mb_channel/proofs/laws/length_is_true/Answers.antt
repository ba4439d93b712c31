use Rattle.std.proofs.Common.{Some}
use Rattle.mb_channel.specs.Lengths.{IsKnown}
use Rattle.mb_channel.proofs.Freed.{all_homes}
use Rattle.mb_channel.proofs.Lengths.{told_of_list}
use Rattle.mb_channel.proofs.laws.length_is_true.Goals as goal

pub returns : goal.returns
returns g c = record {
  list = λ s k id n r st v w at gives. told_of_list s k id r (Some n) st v w at gives;
  known = λ hs. all_homes hs IsKnown (λ j h e. λ s k n view. c.knowledge_is_true.ensures.so s k n _ view);
}
