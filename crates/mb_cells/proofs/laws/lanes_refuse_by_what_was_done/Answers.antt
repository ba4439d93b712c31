-- Proof of `laws::lanes_refuse_by_what_was_done`: a lane refuses a call exactly because of what its producer has done.
use Rattle.mb_cells.proofs.LaneRefusals.{busy, closed, free, full, held, idle, may_finish, over}
use Rattle.mb_cells.proofs.laws.lanes_refuse_by_what_was_done.Goals as goal

pub returns-clause-closed : goal.returns-clause-closed
returns-clause-closed c = λ size h p lane lawful here. closed size h p lawful lane here

pub returns-clause-busy : goal.returns-clause-busy
returns-clause-busy c = λ size h p lane lawful here. busy size h p lawful lane here

pub returns-clause-full : goal.returns-clause-full
returns-clause-full c = λ size h p lane lawful here. full size h p lawful lane here

pub returns-clause-free : goal.returns-clause-free
returns-clause-free c = λ size h p lane lawful here. free size h p lawful lane here

pub returns-clause-idle : goal.returns-clause-idle
returns-clause-idle c = λ size h p lane lawful here. idle size h p lawful lane here

pub returns-clause-finish_closed : goal.returns-clause-finish_closed
returns-clause-finish_closed c = λ size h p lane lawful here. over size h p lawful lane here

pub returns-clause-finish_busy : goal.returns-clause-finish_busy
returns-clause-finish_busy c = λ size h p lane lawful here. held size h p lawful lane here

pub returns-clause-finish_free : goal.returns-clause-finish_free
returns-clause-finish_free c = λ size h p lane lawful here. may_finish size h p lawful lane here
