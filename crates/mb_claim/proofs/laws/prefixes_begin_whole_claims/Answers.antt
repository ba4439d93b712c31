-- Proof of `laws::prefixes_begin_whole_claims`: the prefixes of claims are exactly the beginnings of whole claim paths.
use Rattle.std.proofs.Common.{◌++◌, refl}
use Rattle.mb_claim.proofs.Prefixes.{completed, begun, whole_stage, ended_path}
use Rattle.mb_claim.proofs.laws.prefixes_begin_whole_claims.Goals as goal

pub returns-clause-completed : goal.returns-clause-completed
returns-clause-completed c cs d xs s = completed cs.table d cs.kinds 0 d xs s

pub returns-clause-begun : goal.returns-clause-begun
returns-clause-begun c cs d later xs output =
    begun cs.table d cs.kinds 0 d later xs (later ++ xs) output refl

pub returns-clause-whole : goal.returns-clause-whole
returns-clause-whole c cs d xs output = whole_stage cs.table d cs.kinds 0 d xs output

pub returns-clause-ended : goal.returns-clause-ended
returns-clause-ended c cs d xs s = ended_path cs.table d cs.kinds 0 d xs s
