use Rattle.std.proofs.Common.{List, [], refl, subst, sym, ◌∷◌}
use Rattle.std.specs.Prelude.{Option}
use Rattle.atomic_table.specs.Table.{opening}
use Rattle.mb_bounded.specs.Types.{Desk}
use Rattle.mb_bounded.specs.Desks.{Keeps, first_view}
use Rattle.mb_bounded.proofs.DeskMoves.{opens}
use Rattle.mb_bounded.proofs.office.Office.new.Goals as goal

pub new-requires : goal.new-requires
new-requires g c =
    subst (λ (l : List (Option (Desk _))). Keeps c.args.ring.now (opening (0 ∷ []) l (first_view c.args.ring.now)))
    (sym c.in_ok-desks.ensures) (opens c.args.ring.now _ (c.requires.ring, c.requires.hub) refl refl)
