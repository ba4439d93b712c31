-- Proof of `laws::readers_keep_to_lanes`: each load of a reader is on some lane, and its loads on one lane are a reader
-- path by themselves.
use Rattle.mb_cells.proofs.laws.readers_keep_to_lanes.Goals as goal
use Rattle.mb_cells.proofs.ReaderParts.{lane_path, path_of_parts, some_lane_on}

pub returns-clause-part : goal.returns-clause-part
returns-clause-part c = lane_path

pub returns-clause-all : goal.returns-clause-all
returns-clause-all c = some_lane_on

pub returns-clause-whole : goal.returns-clause-whole
returns-clause-whole c = path_of_parts
