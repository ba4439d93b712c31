-- Proof of `Board::begin`: a board with all words 0 and each claim before its first access, and room for `steps`
-- entries.
use Rattle.std.proofs.Common.{◌≡◌, ◌∙◌, [], sym, arith}
use Rattle.mb_claim.specs.{Claim, consumer_of, IsClaimIn}
use Rattle.mb_claim.proofs.Lists.{all_push, length-push}
use Rattle.mb_claim.proofs.board.Board.begin.Goals as goal

pub loop-consumer-preserved : goal.loop-consumer-preserved
loop-consumer-preserved g c =
    let layout = c.args.layout.now in
    let old = c.loop-consumer in
    let claim = c.new-in-loop-consumer in
    rw (c.in_ok-push.ensures.items) (record {
      made = omega (arith, length-push old.claims.items claim.result, old.invariant.made);
      own =
          all_push (λ k (a : Claim). consumer_of a ≡ k) old.claims.items claim.result old.invariant.own
          (claim.ensures.consumer ∙ sym old.invariant.made);
      standing =
          all_push (λ k (a : Claim). IsClaimIn layout a []) old.claims.items claim.result old.invariant.standing
          claim.ensures.path;
    })
