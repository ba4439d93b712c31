use Rattle.mb_segment.proofs.Endings.{closes}
use Rattle.mb_segment.proofs.Fates.{fates}
use Rattle.mb_segment.proofs.segment.Segment.end.Goals as goal

pub returns : goal.returns
returns g c =
    let closed = c.close_with-closed in
    let told = closes c.args.hub.seat.id c.args.hub.seat.me.0 _ _ c.word-drawn.result c.word-taken.result
    c.requires.hub
    c.requires.back closed.ensures.values.2 c.word-drawn.ensures c.word-taken.ensures in
    record {
      whole = (told.0, told.1, (told.2, told.3), told.5);
      fates = fates c.args.hub.seat.id c.args.hub.seat.me.0 _ _ c.requires.hub c.requires.back closed.ensures.values.2;
    }
