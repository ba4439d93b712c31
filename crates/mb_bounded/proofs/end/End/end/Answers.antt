use Rattle.std.proofs.Common.{ap, map, subst, ◌∷◌}
use Rattle.mb_ring.specs.Vocabulary.{IsWhole, hub_view, view_in}
use Rattle.mb_bounded.specs.Types.{Pass, View}
use Rattle.mb_bounded.specs.Ends.{past_account}
use Rattle.mb_bounded.specs.Lives.{IsLife}
use Rattle.mb_bounded.proofs.Endings.{tells}
use Rattle.mb_bounded.proofs.end.End.end.Goals as goal

pub returns-in-Ok-clause-whole : goal.returns-in-Ok-clause-whole
returns-in-Ok-clause-whole g c =
    let others = c.args.others.items in
    let hub = c.take-desk.result.hub in
    let last = c.parts-hall.result.2 in
    let whole = c.end.ensures.whole in (
      whole.0,
      whole.2,
      subst (λ (p : Pass _). IsLife ((view_in p).account ∷ map past_account others) whole.0) c.parts-hall.ensures.2
          (tells (hub_view hub) (hub_view c.take_all.new.hub) (view_in last) others whole.0
          (ap (λ (v : View _). v.ends) c.take-desk.ensures.desk.0.1) c.take_all.ensures.ends
          (subst (λ (v : View _). IsWhole v.ends whole.0) c.take_back.ensures.hub whole.1)),
    )
