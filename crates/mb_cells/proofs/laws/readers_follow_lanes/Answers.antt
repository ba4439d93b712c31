-- Proof of `laws::readers_follow_lanes`: the cells that a reader has met on a lane are the first cells of that lane, in
-- the order of linking.
use Rattle.mb_cells.proofs.laws.readers_follow_lanes.Goals as goal
use Rattle.mb_cells.specs.{Reader, part}
use Rattle.mb_cells.proofs.Histories.{met_start}
use Rattle.mb_cells.proofs.Parts.{Has-of_part}
use Rattle.mb_cells.proofs.ReaderChains.{HasMet-more, on_chain}
use Rattle.mb_cells.proofs.ReaderParts.{gave_item, gave_link, met_own, one_way}

pub returns-clause-met : goal.returns-clause-met
returns-clause-met c = met_start

pub returns-clause-chains : goal.returns-clause-chains
returns-clause-chains c = on_chain

pub returns-clause-part : goal.returns-clause-part
returns-clause-part c = λ size h r p ks l met.
    met_start size h r p ks l (HasMet-more r p (part (Reader r) h) h ks (Has-of_part (Reader r) h) met)

pub returns-clause-own : goal.returns-clause-own
returns-clause-own c = met_own

pub returns-clause-whole : goal.returns-clause-whole
returns-clause-whole c = λ h r p ks met. HasMet-more r p (part (Reader r) h) h ks (Has-of_part (Reader r) h) met

pub returns-clause-one_way : goal.returns-clause-one_way
returns-clause-one_way c = one_way

pub returns-clause-link : goal.returns-clause-link
returns-clause-link c = gave_link

pub returns-clause-item : goal.returns-clause-item
returns-clause-item c = gave_item
