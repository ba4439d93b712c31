-- Proof of `laws::paths_lead_to_one_place`: what a consumer has done on a lane leads to at most one place.
use Rattle.std.proofs.Common.{ap}
use Rattle.mb_world.proofs.LastAccess.{PathEnd, older_path, path_end}
use Rattle.mb_world.proofs.OnePlace.{one_place}
use Rattle.mb_world.proofs.laws.paths_lead_to_one_place.Goals as goal

pub returns-clause-one : goal.returns-clause-one
returns-clause-one c cs d p done ks js ns ms held other table path same =
    let e =
    one_place cs d p (λ xs s r. c.prefixes_have_one_stage.ensures cs d xs s r table)
    (λ x xs s. c.claims_have_one_next_op.ensures.going cs d x xs s) done
    (path_end ks ns held) (path_end js ms other) path same in
    (ap (λ (z : PathEnd). z.cells) e, ap (λ (z : PathEnd). z.notes) e, ap (λ (z : PathEnd). z.held) e)

pub returns-clause-older : goal.returns-clause-older
returns-clause-older c cs d p later older ks ns held path =
    let was = older_path cs d p later older (path_end ks ns held) path in
    (was.0.cells, was.0.notes, was.0.held, was.1)
