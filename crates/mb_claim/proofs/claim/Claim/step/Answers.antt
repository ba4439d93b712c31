-- Proof of `Claim::step`: makes the next access in this memory, and returns how far the claim has come.
use Rattle.std.proofs.Common.{refl}
use Rattle.mb_claim.specs.ObjectTypes.{Turn}
use Rattle.mb_deciding.specs.Vocabulary.{act_of}
use Rattle.mb_claim.specs.Types.{ClaimOp}
use Rattle.mb_claim.proofs.claim.Claim.step.Goals as goal

pub step-out-requires-clause-may : goal.step-out-requires-clause-may
step-out-requires-clause-may g c op is =
    let next : ClaimOp = record { object = c.args.self.now.object; op = op } in
    c.requires.may next (record { object = refl; op = is })

pub returns-clause-step : goal.returns-clause-step
returns-clause-step g c =
    let step = c.step-out.ensures.step in
    let next : ClaimOp = record { object = c.args.self.now.object; op = step.op } in
    let turn : Turn = record { act = act_of step.op step.seen; word = c.args.word } in
    record {
      next = next;
      seen = step.seen;
      is = record { object = refl; op = step.is };
      made = step.made;
      path = λ xs of can. c.follow.ensures.path c.args.self.now.place c.args.self.now.begun xs
          turn of (λ kind v turns at. step.reached kind v turns at can);
    }
