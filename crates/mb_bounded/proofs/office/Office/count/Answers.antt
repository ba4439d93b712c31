use Rattle.std.proofs.Common.{ap, refl, ◌∙◌}
use Rattle.mb_bounded.specs.Desks.{Sat, settled}
use Rattle.mb_bounded.proofs.office.Office.count.Goals as goal

pub returns-clause-counted : goal.returns-clause-counted
returns-clause-counted g c = let d = c.take-desk.result in (
  d,
  refl,
  refl,
  ap (λ (m : Sat _). m.0) c.put.ensures.given ∙ ap (λ (m : Sat _). settled d m.0) c.take-desk.ensures.taken,
)
