-- Proof of `steps::parts_fit_on`: the two parts of a consumer still fit after each access that it may make, whatever it
-- finds.
use Rattle.mb_claim.specs.declared.access.Stage.TheVariants as stage
use Rattle.mb_world.proofs.FitSteps.{fits_empty, fits_past, fits_stepped, fits_taken, not_passed}
use Rattle.mb_world.proofs.steps.parts_fit_on.Goals as goal

pub returns-clause-looks : goal.returns-clause-looks
returns-clause-looks c cs d q p v x fit may = fits_past cs d x fit q p v may

pub returns-clause-claims : goal.returns-clause-claims
returns-clause-claims c cs d k t x fit gave here = fits_stepped cs d x fit k t gave here

pub returns-clause-takes : goal.returns-clause-takes
returns-clause-takes c cs d q k v x fit here = fits_taken cs d x fit q k v here

pub returns-clause-empty : goal.returns-clause-empty
returns-clause-empty c cs d = fits_empty cs d

pub returns-clause-going : goal.returns-clause-going
returns-clause-going c cs d k x table fit going =
    not_passed cs d x fit k (λ s q. c.prefixes_have_one_stage.ensures cs d (x.claimed k) s stage.Going table q going)
