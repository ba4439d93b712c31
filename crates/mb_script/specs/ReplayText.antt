-- The text of a replay: the transcript of its events, and then the report of what they did.
use Rattle.std.specs.Prelude.{ℕ, ◌≡◌, List, [], ◌++◌}
use Rattle.mb_world.specs.declared.event.Answer.{Answer}
use Rattle.mb_world.specs.declared.event.Event.{Event}
use Rattle.mb_world.specs.Plan.{Plan}
use Rattle.mb_world.specs.Theorem.{MainTheorem, ReportView}
use Rattle.mb_world.specs.Reporting.{IsReportOf}
use Rattle.mb_world.specs.Replay.{IsReplay}
use Rattle.mb_world.specs.World.{WorldHistory, histories_of, pool_accesses}
use Rattle.mb_script.specs.ReportText.{report_text}
use Rattle.mb_script.specs.Transcript.{transcript_text}

-- the text is that of the replay of these events in a new world of this plan
pub record IsReplayText (plan : Plan) (events : List Event) (text : List ℕ) : Type 0 where
  -- the events have these answers, and lead from the empty history to this history
  pub answers : List Answer
  pub history : WorldHistory
  pub replayed : IsReplay plan events answers [] history
  -- the report of that history
  pub report : ReportView
  pub reported : IsReportOf plan (histories_of history) report
  -- the main theorem holds of the report
  pub main_theorem : MainTheorem (pool_accesses history) (λ c. c) report
  -- the text is the transcript, and then the text of the report
  pub written : text ≡ transcript_text events answers ++ report_text report
