-- Proof of `program`, which returns the program with its commands, as clap describes it.
use Rattle.std.proofs.Common.{◌∙◌, ap, ap₂}
use Rattle.std.proofs.lemmas.Result.{IfOk-weaker}
use Rattle.clap.specs.Words.{App, with_subcommand}
use Rattle.mb_program.proofs.command.program.Goals as goal

-- the three commands are added one by one to the program without commands
pub returns : goal.returns
returns c =
    let ratify = ap (λ (a : App). a.top) c.named_subcommand.ensures.app in
    let replay = ap (λ (a : App). a.top) c.named_subcommand-2.ensures.app in
    let run = c.in_ok-run_command.ensures.app in
    let with_ratify = c.in_ok-subcommand.ensures.shape c.named_subcommand.ensures.local
    ∙ ap₂ with_subcommand c.in_ok-root_command.ensures ratify in
    let with_replay = c.in_ok-subcommand-2.ensures.shape c.named_subcommand-2.ensures.local
    ∙ ap₂ with_subcommand with_ratify replay in
    IfOk-weaker c.subcommand-3.result _ _ (λ r added. (
      run.0,
      run.1,
      added.shape c.in_ok-run_command.ensures.local ∙ ap₂ with_subcommand with_replay (ap (λ (a : App). a.top) run.2),
    ))
    c.subcommand-3.ensures
