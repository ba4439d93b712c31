-- Proof of `steps::places_lead_on`: a prefix of a lane path puts its producer at one place.
use Rattle.mb_cells.proofs.steps.places_lead_on.Goals as goal
use Rattle.mb_cells.proofs.OneStep.{start_at}
use Rattle.mb_cells.proofs.Places.{goes_on, one_place, prefix_at, somewhere, steps_only}

pub returns-clause-start : goal.returns-clause-start
returns-clause-start c = start_at

pub returns-clause-step : goal.returns-clause-step
returns-clause-step c = goes_on

pub returns-clause-prefix : goal.returns-clause-prefix
returns-clause-prefix c = prefix_at

pub returns-clause-place : goal.returns-clause-place
returns-clause-place c = λ cells p done prefix.
    let s = somewhere cells p done prefix in (s.entries, (s.phase, s.at))

pub returns-clause-one : goal.returns-clause-one
returns-clause-one c = one_place

pub returns-clause-only : goal.returns-clause-only
returns-clause-only c = λ cells p es phase a done at prefix. let n = steps_only cells p es phase a done at prefix in
    (n.entries, (n.then, n.step))
