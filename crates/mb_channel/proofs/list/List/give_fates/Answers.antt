use Rattle.std.proofs.Common.{arith}
use Rattle.mb_channel.proofs.Audits.{unlocks_taken}
use Rattle.mb_channel.proofs.list.List.give_fates.Goals as goal

pub store-requires : goal.store-requires
store-requires g c = let shape = c.args.self.now.shape in let table = c.args.self.now.table.shared.table_id in
    let chair = c.args.chair.now in (
      c.requires.list,
      omega (arith, shape.0),
      unlocks_taken g.F.Taken.told table.slots chair.id chair.me c.requires.held.0 c.requires.held.1 c.requires.taken,
    )
