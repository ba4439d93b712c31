-- Proof of `steps::put_lists_grow`: the put list of a lane grows by the entry of each link store, and by nothing else.
use Rattle.std.proofs.Common.{refl}
use Rattle.mb_cells.proofs.steps.put_lists_grow.Goals as goal
use Rattle.mb_cells.specs.{Item}
use Rattle.mb_cells.proofs.PutLists.{put_list-end, put_list-fetch, put_list-kept, put_list-link, put_list-load, put_list-other}

pub returns-clause-link : goal.returns-clause-link
returns-clause-link c = put_list-link

pub returns-clause-fetch : goal.returns-clause-fetch
returns-clause-fetch c = put_list-fetch

pub returns-clause-item : goal.returns-clause-item
returns-clause-item c = λ h p q k v. put_list-kept h p q (Item k) v refl

pub returns-clause-end : goal.returns-clause-end
returns-clause-end c = put_list-end

pub returns-clause-load : goal.returns-clause-load
returns-clause-load c = put_list-load

pub returns-clause-other : goal.returns-clause-other
returns-clause-other c = λ h p q v w ne link. put_list-other h p q v w ne
