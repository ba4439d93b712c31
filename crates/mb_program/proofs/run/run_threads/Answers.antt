-- Proof of `run_threads`: it lets producers and consumers work in threads, one for each, and writes the report of what
-- they did and nothing else.
use Rattle.std.proofs.Common.{◌∙◌, refl}
use Rattle.mb_program.specs.declared.fault.RunFault.TheVariants.{NoMemory, WriteFault}
use Rattle.mb_program.proofs.RunEnds.{ends_half_written, ends_without_report, ends_without_text, ends_written}
use Rattle.mb_program.proofs.run.run_threads.Goals as goal

pub returns-in_err-report : goal.returns-in_err-report
returns-in_err-report g c =
    let said = c.in_err-report.ensures in
    ends_without_report _ _ _ _ c.in_err-report.field-0.0 c.from_residual.ensures.1 said.no_device said.refused

pub returns-in_err-text : goal.returns-in_err-text
returns-in_err-text g c =
    ends_without_text _ _ _ _ NoMemory c.in_ok-report.report c.from_residual-in_err-text.ensures.1
    refl c.in_ok-report.ensures.refused

pub returns-in_err-write_all : goal.returns-in_err-write_all
returns-in_err-write_all g c =
    let made = c.in_ok-report.ensures in
    let wrote = c.in_err-write_all.ensures in
    ends_half_written _ _ _ _ _ WriteFault c.in_ok-report.report c.as_bytes.result.now
    c.from_residual-in_err-write_all.ensures.1 refl made.refused
    (c.in_ok-report.report, made.report, c.as_bytes.ensures.value ∙ c.in_ok-text.ensures) wrote.err wrote.fault

pub returns : goal.returns
returns g c =
    let made = c.in_ok-report.ensures in
    let wrote = c.in_ok-write_all.ensures in
    ends_written _ _ _ _ _ c.in_ok-report.report c.as_bytes.result.now made.refused
    (c.in_ok-report.report, made.report, c.as_bytes.ensures.value ∙ c.in_ok-text.ensures) wrote.ok wrote.works
