use Rattle.std.proofs.Common.{arith}
use Rattle.mb_channel.proofs.Lengths.{unlocks_looked}
use Rattle.mb_channel.proofs.list.List.give_length.Goals as goal

pub store-requires : goal.store-requires
store-requires g c = let shape = c.args.self.now.shape in let table = c.args.self.now.table.shared.table_id in
    let chair = c.args.chair.now in (
      c.requires.list,
      omega (arith, shape.0),
      unlocks_looked g.N.Length.told table.slots chair.id chair.me c.requires.held.0 c.requires.held.1
          c.requires.waiting,
    )
