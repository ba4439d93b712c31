use Rattle.std.proofs.Common.{◌∷◌, [], List, subst, sym}
use Rattle.atomic_table.specs.Table.{opening}
use Rattle.mb_channel.specs.declared.home.Homes.{Homes}
use Rattle.mb_channel.specs.Homes.{Keeps, first_view}
use Rattle.mb_channel.proofs.Whole.{opens}
use Rattle.mb_channel.proofs.list.List.new.Goals as goal

pub new-requires : goal.new-requires
new-requires g c = let x = c.in_ok-homes.ensures in
    subst (λ (l : List (Homes _)). Keeps (opening (0 ∷ 1 ∷ 1 ∷ 1 ∷ 1 ∷ []) l first_view)) (sym x.1) (opens x.0 x.2 x.3)
