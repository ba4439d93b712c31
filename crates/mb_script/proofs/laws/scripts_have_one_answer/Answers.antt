-- Proof of `laws::scripts_have_one_answer`: a script has at most one answer: its events have at most one replay, and
-- what they did has at most one report.
use Rattle.std.proofs.Common.{◌≡◌, Result, Ok, sym, ◌∙◌, subst}
use Rattle.mb_script.specs.declared.fault.Fault.{Fault}
use Rattle.mb_script.specs.ReplayText.{IsReplayText}
use Rattle.mb_script.specs.Scripts.{Script}
use Rattle.mb_script.proofs.OneAnswer.{one_answer}
use Rattle.mb_script.proofs.laws.scripts_have_one_answer.Goals as goal

pub returns : goal.returns
returns c =
    λ bytes text other a b.
    let both : ◌≡◌ {A = Result Script Fault} (Ok b.script) (Ok a.script) = sym b.read ∙ a.read in
    let same : b.script ≡ a.script = cc in
    one_answer bytes text other a.script c.named_tables_are_lawful.ensures.lawful c.history_extends.ensures.empty
    c.replays_do_not_differ.ensures.replay c.replays_do_not_differ.ensures.lawful c.worlds_are_sound.ensures.sound
    c.histories_have_one_report.ensures a.read a.replayed
    (subst (λ (s : Script). IsReplayText s.plan s.events other) same b.replayed)
