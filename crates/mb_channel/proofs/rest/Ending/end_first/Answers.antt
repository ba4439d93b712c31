use Rattle.std.proofs.Common.{ap, ◌++◌, ◌∷◌, ◌∙◌, []}
use Rattle.mb_channel.proofs.Rests.{one_ends}
use Rattle.mb_channel.proofs.rest.Ending.end_first.Goals as goal

pub returns-in-Ok-clause-ending : goal.returns-in-Ok-clause-ending
returns-in-Ok-clause-ending g c = λ hs is. one_ends hs c.args.self.now _ c.in-Some.home c.in-Ok.left is
    c.in-Some.ensures.items
    (c.push_back_reserved.ensures.items ∙ ap (λ l. l ++ c.in-Ok.left ∷ []) c.reserve.ensures.items)
    c.in-Ok.ensures.whole
