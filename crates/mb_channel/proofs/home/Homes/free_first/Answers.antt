use Rattle.std.proofs.Common.{refl}
use Rattle.mb_channel.proofs.Audits.{first_fates}
use Rattle.mb_channel.proofs.Freed.{stands_freed}
use Rattle.mb_channel.proofs.home.Homes.free_first.Goals as goal

pub returns-in-Ok-clause-stands : goal.returns-in-Ok-clause-stands
returns-in-Ok-clause-stands g c = λ hs s. stands_freed hs c.args.self.now _ c.in-Some.home s c.in-Some.ensures.items
    c.in-Ok.ensures.freed.0 refl

pub returns-in-Ok-clause-fates : goal.returns-in-Ok-clause-fates
returns-in-Ok-clause-fates g c = λ hs s. first_fates hs _ c.args.self.now c.in-Some.home c.in-Ok.left s
    c.in-Some.ensures.items c.in-Ok.ensures.freed.0 c.in-Ok.ensures.freed.1
