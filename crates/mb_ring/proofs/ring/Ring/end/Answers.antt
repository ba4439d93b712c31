use Rattle.std.proofs.Common.{rules}
use Rattle.mb_ring.proofs.Endings.{closes}
use Rattle.mb_ring.proofs.ring.Ring.end.Goals as goal

pub returns : goal.returns
returns g c =
    let closed = c.close_with-closed in
    let told = closes c.args.hub.seat.id c.args.hub.seat.me.0 _ _ c.args.self.size c.word-drawn.result
    c.word-taken.result c.requires.hub c.requires.back closed.ensures.values.2 (search rules) c.word-drawn.ensures
    c.word-taken.ensures in
    record { whole = (told.0, told.1, (told.2, told.3), told.6) }
