-- Proof of `laws::width_is_the_least`: the width for m values (`width_of`) is the least b with `m <= 2^b`.
use Rattle.mb_quorum.specs.WidthLaw.{width_is_least}
use Rattle.mb_quorum.proofs.laws.width_is_the_least.Goals as goal

pub returns : goal.returns
returns c m = width_is_least m
