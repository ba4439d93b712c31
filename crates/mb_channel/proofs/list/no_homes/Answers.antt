use Rattle.std.proofs.Common.{ap, ◌∙◌, ◌++◌, ◌∷◌, []}
use Rattle.mb_channel.proofs.list.no_homes.Goals as goal

pub returns : goal.returns
returns g c = (
  c.none.result,
  c.in_ok-push.ensures.items ∙ ap
      (λ l. l ++ c.none.result ∷ []) c.new-homes.ensures.items,
  c.none.ensures.0,
  c.none.ensures.1,
)
