-- Proof of `end_with_refusal`: it writes clap's help or version to `writer`, or its refusal to `errors`, if it can.
use Rattle.std.proofs.Common.{ap}
use Rattle.mb_script.specs.Vocabulary.{meter}
use Rattle.mb_program.specs.declared.outcome.ProgramExit.TheVariants as ending
use Rattle.mb_program.proofs.Told.{told_errors, told_nobody, told_output}
use Rattle.mb_program.proofs.program.end_with_refusal.Goals.{in-Ok, in-Ok-2, in-Err}
use Rattle.mb_program.proofs.program.end_with_refusal.Goals as goal

pub returns : goal.returns
returns g c =
    let output = meter g.O.CountedWrite.held g.O.CountedWrite.failures in
    let errors = meter g.E.CountedWrite.held g.E.CountedWrite.failures in (
      c.match-format.printed,
      ap (λ kind. ending.Refused kind c.match-format.printed) c.kind.ensures,
      elim c.match-format.branch [
        | in-Ok w ↦ told_errors output errors _ _ _ _ _ _ w.use_stderr.result w.print-printed.result
            _ w.as_bytes.result.now w.use_stderr.ensures
            w.if-use_stderr.true w.writer-is w.errors-is w.printed-is w.print-printed.ensures
        | in-Ok-2 w ↦ told_output output errors _ _ _ _ _ _ w.use_stderr.result
            w.print-printed-in-Ok-2.result _ w.as_bytes-in-Ok-2.result.now w.use_stderr.ensures
            w.if-use_stderr.false w.writer-is w.errors-is w.printed-is w.print-printed-in-Ok-2.ensures
        | in-Err w ↦ told_nobody output errors _ _ _ _ _ _ w.writer-is w.errors-is w.printed-is
      ],
    )
