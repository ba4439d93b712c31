-- Proof of `Claim::after`: goes on after the next access, and returns how far the claim has come.
use Rattle.std.proofs.Common.{◌∷◌, sym, subst}
use Rattle.mb_claim.specs.ObjectTypes.{Turn}
use Rattle.mb_deciding.specs.Vocabulary.{act_of}
use Rattle.mb_claim.specs.OneClaim.{IsClaimIn}
use Rattle.mb_claim.proofs.claim.Claim.after.Goals as goal

pub returns-in-Go-clause-path : goal.returns-in-Go-clause-path
returns-in-Go-clause-path c xs next of is finds =
    let turn : Turn = record { act = act_of next.op c.args.seen; word = c.args.word } in
    subst (λ o. IsClaimIn c.args.layout.now c.follow.new.self (record { object = o; turn = turn } ∷ xs)) (sym is.object)
    (c.follow.ensures.path c.args.self.now.place c.args.self.now.begun xs turn of
    (λ kind v turns at. c.in-Go.ensures.reached kind v turns next.op at is.op finds))

pub returns-in-Out-clause-path : goal.returns-in-Out-clause-path
returns-in-Out-clause-path c xs next of is finds =
    let turn : Turn = record { act = act_of next.op c.args.seen; word = c.args.word } in
    subst (λ o. IsClaimIn c.args.layout.now c.follow-in-Out.new.self (record { object = o; turn = turn } ∷ xs))
    (sym is.object)
    (c.follow-in-Out.ensures.path c.args.self.now.place c.args.self.now.begun xs turn of
    (λ kind v turns at. c.in-Out.ensures.reached kind v turns next.op at is.op finds))
