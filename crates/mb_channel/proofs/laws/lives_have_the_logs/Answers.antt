use Rattle.mb_channel.proofs.LogsTold.{all_tell}
use Rattle.mb_channel.proofs.laws.lives_have_the_logs.Goals as goal

pub returns : goal.returns
returns g c = record { logs = all_tell }
