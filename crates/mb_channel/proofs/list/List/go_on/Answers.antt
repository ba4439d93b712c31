use Rattle.std.proofs.Common.{sym, ap, ◌∙◌, subst}
use Rattle.mb_channel.specs.Homes.{MayGive, unlocked}
use Rattle.mb_channel.proofs.Stays.{unlocks_on}
use Rattle.mb_channel.proofs.list.List.go_on.Goals as goal

pub give-requires-clause-lawful : goal.give-requires-clause-lawful
give-requires-clause-lawful g c = let y = c.requires.homes in let h = c.requires.held in let far = c.requires.far in
    subst (λ f. MayGive f 1 c.args.chair.now.id c.args.chair.now.me) (sym c.requires.picked)
    (unlocks_on c.args.takes c.args.next 1 c.args.chair.now.id c.args.chair.now.me y.0 y.2 y.3 y.1 h.0 h.1 h.2 y.4
    far.0 far.1)

pub returns-clause-view : goal.returns-clause-view
returns-clause-view g c = let e = c.give.ensures.view in
    (e.0 ∙ ap (λ f. f (unlocked c.args.chair.now.me.0)) c.requires.picked, e.1)
