use Rattle.std.proofs.Common.{ap, sym, ◌∙◌, ◌∷◌}
use Rattle.std.specs.Prelude.{Some}
use Rattle.atomic_table.specs.Table.{rest}
use Rattle.mb_bounded.specs.Desks.{Sat}
use Rattle.mb_bounded.proofs.office.Office.take.Goals as goal

pub slot_mut-requires : goal.slot_mut-requires
slot_mut-requires g c =
    let x = c.try_lock.ensures.locked c.if-try_lock.true in
    let e = ap (λ (m : Sat _). m.1) x.1 in (
      c.try_lock.ensures.office ∙ (c.loop.invariant.2 ∙ c.requires.office),
      (Some x.0, e ∙ ap (λ l. (0, Some x.0) ∷ rest l) (sym e)),
    )
