-- Proof of `steps::lanes_lead_on`: each access of a producer leads from its place, as a plain value, to the next.
use Rattle.mb_cells.proofs.steps.lanes_lead_on.Goals as goal
use Rattle.mb_cells.proofs.LaneSteps.{finished_lane, lane_prefix, offered_lane, pushed_lane, same_lane, some_lane, start_lane}
use Rattle.mb_cells.proofs.NextAccesses.{fetches_only, kinds_only, stores_only}

pub returns-clause-start : goal.returns-clause-start
returns-clause-start c = start_lane

pub returns-clause-lane : goal.returns-clause-lane
returns-clause-lane c = some_lane

pub returns-clause-one : goal.returns-clause-one
returns-clause-one c = same_lane

pub returns-clause-prefix : goal.returns-clause-prefix
returns-clause-prefix c = lane_prefix

pub returns-clause-offered : goal.returns-clause-offered
returns-clause-offered c = offered_lane

pub returns-clause-pushed : goal.returns-clause-pushed
returns-clause-pushed c = pushed_lane

pub returns-clause-finished : goal.returns-clause-finished
returns-clause-finished c = finished_lane

pub returns-clause-fetches : goal.returns-clause-fetches
returns-clause-fetches c = fetches_only

pub returns-clause-stores : goal.returns-clause-stores
returns-clause-stores c = stores_only

pub returns-clause-only : goal.returns-clause-only
returns-clause-only c = kinds_only
