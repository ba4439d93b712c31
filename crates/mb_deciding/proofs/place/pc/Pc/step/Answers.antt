-- Proof of `Pc::step`: makes the next access, to the object with this number in this memory.
use Rattle.std.proofs.Common.{◌∷◌, subst}
use Rattle.mb_deciding.specs.{IsReached, act_of}
use Rattle.mb_deciding.proofs.place.pc.Pc.step.Goals as goal

pub returns-in-Go-clause-step : goal.returns-in-Go-clause-step
returns-in-Go-clause-step g c =
    record {
      op = c.next-op.result;
      seen = c.perform-seen.result;
      is = c.next-op.ensures;
      made = c.perform-seen.ensures;
      reached = λ kind v turns here can.
          subst (λ to. IsReached (g.Q.Quorums.table c.args.q.now) kind v to
          (record { act = act_of c.next-op.result c.perform-seen.result; word = c.args.word } ∷ turns))
          c.in-Go.is (c.after.ensures.reached kind v turns c.next-op.result here c.next-op.ensures can);
    }

pub returns-in-Out-clause-step : goal.returns-in-Out-clause-step
returns-in-Out-clause-step g c =
    record {
      op = c.next-op.result;
      seen = c.perform-seen.result;
      is = c.next-op.ensures;
      made = c.perform-seen.ensures;
      reached = λ kind v turns here can.
          subst (λ to. IsReached (g.Q.Quorums.table c.args.q.now) kind v to
          (record { act = act_of c.next-op.result c.perform-seen.result; word = c.args.word } ∷ turns))
          c.in-Out.is (c.after.ensures.reached kind v turns c.next-op.result here c.next-op.ensures can);
    }
