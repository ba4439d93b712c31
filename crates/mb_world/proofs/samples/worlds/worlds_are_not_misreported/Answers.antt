-- Proof of `samples::worlds::worlds_are_not_misreported`: a report and diaries that are not of the small world.
use Rattle.std.proofs.Common.{◌≡◌, ℕ, arith}
use Rattle.mb_quorum.specs.declared.table.TableName.TheVariants.{Unary}
use Rattle.mb_world.specs.PathSamples.{two_cells}
use Rattle.mb_world.proofs.SampleReports.{no_item_missing, no_loss_taken, no_rest, no_silence}
use Rattle.mb_world.proofs.samples.worlds.worlds_are_not_misreported.Goals as goal

pub returns-clause-left : goal.returns-clause-left
returns-clause-left c = no_item_missing

pub returns-clause-lost : goal.returns-clause-lost
returns-clause-lost c = no_loss_taken

pub returns-clause-silent : goal.returns-clause-silent
returns-clause-silent c = no_silence c.samples_are_lawful.ensures.lost.1

pub returns-clause-begun : goal.returns-clause-begun
returns-clause-begun c = no_rest
    (λ xs s r. c.prefixes_have_one_stage.ensures two_cells 1 xs s r
    (c.named_tables_are_lawful.ensures.lawful Unary 2 (omega arith))) c.worlds_go_on.ensures.going

-- a diary of consumer 0 is not one of consumer 1
pub returns-clause-consumer : goal.returns-clause-consumer
returns-clause-consumer c d = let e : ◌≡◌ {A = ℕ} 0 1 = d.consumer in omega (arith, e)

-- a diary of lane 1 is not one of lane 0
pub returns-clause-lane : goal.returns-clause-lane
returns-clause-lane c d = let e : ◌≡◌ {A = ℕ} 1 0 = d.lane in omega (arith, e)
