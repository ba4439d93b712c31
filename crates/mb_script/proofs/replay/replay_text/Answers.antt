-- Proof of `replay_text`, which returns the transcript of the events in a new world, and then the report of that world.
use Rattle.std.proofs.Common.{[], ◌∙◌}
use Rattle.mb_script.proofs.Replays.{IsReplayText-made}
use Rattle.mb_script.proofs.replay.replay_text.Goals as goal

pub returns : goal.returns
returns g c =
    IsReplayText-made _ _ _ _ _ _ _
    (c.in_ok-push_transcript.ensures.added [] c.in_ok-world.ensures.empty)
    c.new-text.ensures.bytes
    (c.in_ok-push_transcript.ensures.setup ∙ c.in_ok-world.ensures.setup)
    c.in_ok-report.ensures.exact c.in_ok-report.ensures.main_theorem c.in_ok-push_report.ensures
