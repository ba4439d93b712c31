-- What the loop of `Board::finish` keeps: the list has the stages of the claims so far, in their order.
use Rattle.std.proofs.Common.{◌≡◌, map, take}
use Rattle.mb_claim.specs.{claim_stage}
use Rattle.mb_claim.proofs.board.Board.finish.Given as goal

abbrev pub invariant-loop-claim : goal.invariant-loop-claim
invariant-loop-claim g l = l.stages.items ≡ map claim_stage (take l.claim-index l.fn.self.claims)
