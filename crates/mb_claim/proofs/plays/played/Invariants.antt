-- What the loop of `played` keeps: the board is the board of a run after the steps so far (`IsBoard`).
use Rattle.std.proofs.Common.{take}
use Rattle.mb_claim.specs.{IsBoard}
use Rattle.mb_claim.proofs.plays.played.Given as goal

abbrev pub invariant-loop-consumer : goal.invariant-loop-consumer
invariant-loop-consumer g l = IsBoard l.layout (take l.consumer-index l.steps) l.board
