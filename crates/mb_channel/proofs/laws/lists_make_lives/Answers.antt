use Rattle.mb_channel.proofs.Lives.{have_lived}
use Rattle.mb_channel.proofs.laws.lists_make_lives.Goals as goal

pub returns : goal.returns
returns g c = record { life = have_lived }
