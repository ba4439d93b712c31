-- Proof of `laws::reports_have_one_assignment`: one assignment of items to competitors agrees with the report,
-- nothing follows an end mark, and the report is settled.
use Rattle.std.proofs.Common.{sym, subst}
use Rattle.mb_world.specs.Imports.{IsPoolLawful}
use Rattle.mb_world.specs.Plan.{consumers_of, size_of}
use Rattle.mb_world.proofs.Assigned.{agrees, taker}
use Rattle.mb_world.proofs.Recorded.{noted, right}
use Rattle.mb_world.proofs.Settled.{settled}
use Rattle.mb_world.proofs.laws.reports_have_one_assignment.Goals as goal

pub returns : goal.returns
returns c plan hs r sound is =
    let known = c.sound_histories_are_known.ensures plan hs sound in
    let right_notes = right plan hs known r is in
    let agreement = agrees (consumers_of plan) r right_notes in
    record {
      assignment = taker (consumers_of plan) r right_notes;
      given = agreement.given;
      left = agreement.left;
      ends = record {
        silent = λ later older p e. c.end_marks_are_last.ensures.producer (size_of plan) later older p
            (subst (λ h. IsPoolLawful (size_of plan) h) (sym e) sound.pool_lawful);
        noted = noted plan hs known r is;
      };
      settled = settled (taker (consumers_of plan) r right_notes) r agreement;
    }
