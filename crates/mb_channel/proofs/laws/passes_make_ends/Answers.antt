use Rattle.mb_channel.proofs.Theorems.{passes_are_ends}
use Rattle.mb_channel.proofs.laws.passes_make_ends.Goals as goal

pub returns : goal.returns
returns g c = record { life = passes_are_ends }
