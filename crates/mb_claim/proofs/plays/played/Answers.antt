-- Proof of `played`: the run of steps that are all of consumers of the layout.
use Rattle.std.proofs.Common.{List, map, sym, subst, Ok, Err, IfOk, Result}
use Rattle.std.proofs.lemmas.List.{take_all}
use Rattle.mb_claim.specs.{ClaimEntry, Stage, IsBoard, claims_in, claim_stage, IsPlayed}
use Rattle.mb_claim.proofs.PlaySteps.{board_played}
use Rattle.mb_claim.proofs.plays.played.Goals as goal

-- if P and Q of a value give R, and both hold of a result that is `Ok`, R holds of it
if_ok : {X E : Type 0} (P Q R : X → Type 0) → ((x : X) → P x → Q x → R x) → (r : Result X E) → IfOk r P → IfOk r Q
    → IfOk r R
if_ok P Q R joins (Ok x) p q = joins x p q
if_ok P Q R joins (Err e) p q = tt

pub returns : goal.returns
returns g c =
    let layout = c.args.layout.now in
    let steps = c.args.steps.now in
    let board = c.loop-consumer.board in
    let whole = take_all c.loop-consumer.consumer-index steps c.loop-consumer-test.false in
    let ran : IsBoard layout steps board = subst
    (λ steps. IsBoard layout steps board) whole c.loop-consumer.invariant in
    let cs = claims_in layout 1 in
    if_ok _ _ _ (λ run es ss.
    subst (λ (xs : List Stage). IsPlayed cs steps run.entries.items xs) (sym ss)
    (subst (λ (xs : List ClaimEntry). IsPlayed cs steps xs (map claim_stage board.claims)) (sym es)
    (board_played layout steps board ran)))
    c.finish.result c.finish.ensures.entries c.finish.ensures.stages
