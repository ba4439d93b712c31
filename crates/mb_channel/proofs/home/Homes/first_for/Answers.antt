use Rattle.std.proofs.Common.{arith}
use Rattle.mb_channel.proofs.Freed.{goes_first, goes_last}
use Rattle.mb_channel.proofs.home.Homes.first_for.Goals as goal

pub returns-then-takes : goal.returns-then-takes
returns-then-takes g c = (omega arith, goes_first c.args.takes c.args.self.now c.if-takes.true)

pub returns : goal.returns
returns g c = goes_last c.args.takes c.args.self.now c.saturating_sub.result _ c.checked_add.result c.if-takes.false
    (omega arith) c.checked_add.ensures
