-- Proof of `command_of`: it reads the command line, whose first word is the program's name.
use Rattle.std.proofs.Common.{map, subst, sym, ap, ◌≡◌, ◌∙◌}
use Rattle.clap.specs.Words.{fault_of}
use Rattle.clap.specs.declared.error.ErrorKind.TheVariants.{OutOfMemory}
use Rattle.mb_program.proofs.Commands.{alone_taken, alone_named, error_kept, found_in, named_in, not_some, only_memory, refused_by, told_in, unnamed}
use Rattle.mb_program.proofs.Programs.{faults_alike, program_is_free}
use Rattle.mb_program.specs.CommandLine.{IsRefusalOf, program}
use Rattle.mb_program.specs.RunOptions.{HasOptions}
use Rattle.mb_program.proofs.command.command_of.Goals as goal

pub returns-in_err-matches-clause-alone : goal.returns-in_err-matches-clause-alone
returns-in_err-matches-clause-alone g c =
    λ name choice alone.
    error_kept (λ kind. kind ≡ OutOfMemory) _ c.in_err-matches.field-0.0 c.from_residual-in_err-matches.ensures.1
    (only_memory (map g.S.AsStr.text c.args.words.now) _ c.in_err-matches.field-0.0 c.in_ok-command.ensures
    (ap (fault_of program) alone ∙ alone_taken name choice)
    (c.in_err-matches.ensures.kinds (program_is_free _ c.in_ok-command.ensures)))

pub returns-in_err-matches-clause-refused : goal.returns-in_err-matches-clause-refused
returns-in_err-matches-clause-refused g c =
    λ choice none named.
    error_kept (λ kind. kind ≡ OutOfMemory) _ c.in_err-matches.field-0.0 c.from_residual-in_err-matches.ensures.1
    (only_memory (map g.S.AsStr.text c.args.words.now) _ c.in_err-matches.field-0.0 c.in_ok-command.ensures none
    (c.in_err-matches.ensures.kinds (program_is_free _ c.in_ok-command.ensures)))

pub returns-in_default-clause-alone : goal.returns-in_default-clause-alone
returns-in_default-clause-alone g c =
    λ name choice alone.
    let named = alone_named _ _ c.in_ok-matches.matches name choice c.in_ok-command.ensures alone
    c.in_ok-matches.ensures.ok.2 in
    absurd (not_some _ c.in_default.is (c.choice_of.ensures.each choice named))

pub returns-in_default-clause-refused : goal.returns-in_default-clause-refused
returns-in_default-clause-refused g c =
    λ choice none named.
    let found = named_in _ _ c.in_ok-matches.matches choice c.in_ok-command.ensures
    c.in_ok-matches.ensures.ok.2 named in
    absurd (not_some _ c.in_default.is (c.choice_of.ensures.each choice found))

pub returns-clause-choice : goal.returns-clause-choice
returns-clause-choice g c =
    told_in _ _ c.in_ok-matches.matches c.in-Some.choice c.in_ok-command.ensures
    c.in_ok-matches.ensures.ok.2 c.in-Some.ensures.named

pub returns-clause-taken : goal.returns-clause-taken
returns-clause-taken g c =
    let same = faults_alike _ (map g.S.AsStr.text c.args.words.now) c.in_ok-command.ensures in
    sym same ∙ c.in_ok-matches.ensures.kinds (program_is_free _ c.in_ok-command.ensures)

pub returns-clause-options : goal.returns-clause-options
returns-clause-options g c =
    let found = found_in _ _ c.in_ok-matches.matches c.in_ok-command.ensures c.in_ok-matches.ensures.ok.2 in
    subst (λ at. HasOptions at c.in-Some.choice) found c.in-Some.ensures.options

pub returns-in_err-matches-clause-kinds : goal.returns-in_err-matches-clause-kinds
returns-in_err-matches-clause-kinds g c =
    let words = map g.S.AsStr.text c.args.words.now in
    error_kept (λ kind. IsRefusalOf words kind) _ c.in_err-matches.field-0.0 c.from_residual-in_err-matches.ensures.1
    (refused_by words _ c.in_err-matches.field-0.0 c.in_ok-command.ensures
    (c.in_err-matches.ensures.kinds (program_is_free _ c.in_ok-command.ensures)))

pub returns-in_default-clause-kinds : goal.returns-in_default-clause-kinds
returns-in_default-clause-kinds g c =
    unnamed _ _ c.in_ok-matches.matches _ c.choice_of.result c.in_ok-command.ensures
    c.in_ok-matches.ensures.ok.2
    (c.in_ok-matches.ensures.kinds (program_is_free _ c.in_ok-command.ensures)) c.in_default.is
    c.choice_of.ensures.each c.in_ok-error.ensures.kind
