use Rattle.mb_channel.proofs.Chairs.{unlocks_same}
use Rattle.mb_channel.proofs.list.List.unlock.Goals as goal

pub give-requires-clause-lawful : goal.give-requires-clause-lawful
give-requires-clause-lawful g c = let h = c.requires.held in let r = c.requires.homes in
    unlocks_same 1 c.args.chair.now.id c.args.chair.now.me r.0 r.2 r.3 r.1 h.0 h.1 r.4
