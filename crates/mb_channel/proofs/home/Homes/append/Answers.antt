use Rattle.std.proofs.Common.{ap, ◌∙◌, ◌++◌, ◌∷◌, []}
use Rattle.mb_channel.proofs.home.Homes.append.Goals as goal

pub returns-clause-more : goal.returns-clause-more
returns-clause-more g c = (
  c.in_ok-home.home,
  c.in_ok-home.ensures,
  c.push_back_reserved.ensures.items ∙ ap
      (λ l. l ++ c.in_ok-home.home ∷ []) c.reserve.ensures.items,
)
