-- What the loop of `Board::begin` keeps: each number so far has a claim, of the consumer of that number, which has made
-- no access.
use Rattle.std.proofs.Common.{◌≡◌, ◌<◌, ℕ, [], length, get_or}
use Rattle.mb_claim.specs.{Claim, consumer_of, IsClaimIn}
use Rattle.mb_claim.proofs.board.Board.begin.Given as goal

abbrev pub invariant-loop-consumer : goal.invariant-loop-consumer
invariant-loop-consumer g l = record {
  made : length l.claims.items ≡ l.consumer;
  own : (c : ℕ) (d : Claim) → c < length l.claims.items → consumer_of (get_or l.claims.items c d) ≡ c;
  standing : (c : ℕ) (d : Claim) → c < length l.claims.items → IsClaimIn l.layout (get_or l.claims.items c d) [];
}
