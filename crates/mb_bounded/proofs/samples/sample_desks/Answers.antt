use Rattle.std.proofs.Common.{arith}
use Rattle.mb_bounded.proofs.DeskMoves.{opens}
use Rattle.mb_bounded.proofs.Refused.{deserted, out_}
use Rattle.mb_bounded.proofs.samples.sample_desks.Goals as goal

pub returns-clause-counted : goal.returns-clause-counted
returns-clause-counted c = λ r. (omega arith, omega arith)

pub returns-clause-one_more : goal.returns-clause-one_more
returns-clause-one_more c = λ r n. let m = n.0 in absurd (omega arith)

pub returns-clause-new : goal.returns-clause-new
returns-clause-new c = opens

pub returns-clause-deserted : goal.returns-clause-deserted
returns-clause-deserted c = deserted

pub returns-clause-out : goal.returns-clause-out
returns-clause-out c = out_
