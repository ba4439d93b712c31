use Rattle.std.proofs.Common.{refl}
use Rattle.mb_channel.proofs.Rests.{begins_ending}
use Rattle.mb_channel.proofs.rest.Ending.new.Goals as goal

pub returns : goal.returns
returns g c = λ hs s. begins_ending hs c.args.homes _ s refl c.new.ensures.items
