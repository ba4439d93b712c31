-- A replay and its transcript go on by one event. At the end the transcript and the report are the text of a replay.
use Rattle.std.proofs.Common.{◌≡◌, ℕ, List, [], ◌∷◌, ◌++◌, Option, ap, sym, ◌∙◌, subst, append_assoc}
use Rattle.std.proofs.lemmas.List.{append-nil}
use Rattle.mb_world.specs.declared.event.Answer.{Answer}
use Rattle.mb_world.specs.declared.event.Event.{Event}
use Rattle.mb_world.specs.declared.setup.Setup.{Setup}
use Rattle.mb_world.specs.EventSteps.{EventAdds}
use Rattle.mb_world.specs.Plan.{Plan}
use Rattle.mb_world.specs.Replay.{HasAnswer, IsReplay, with_access}
use Rattle.mb_world.specs.Theorem.{MainTheorem, ReportView}
use Rattle.mb_world.specs.Reporting.{IsReportOf}
use Rattle.mb_world.specs.Setups.{plan_in}
use Rattle.mb_world.specs.World.{WorldAccess, WorldHistory, histories_of, pool_accesses}
use Rattle.mb_world.specs.WorldState.{IsWorldAfter, WorldState}
use Rattle.mb_script.specs.ReplayText.{IsReplayText}
use Rattle.mb_script.specs.ReportText.{report_text}
use Rattle.mb_script.specs.Transcribed.{IsTranscribed}
use Rattle.mb_script.specs.Transcript.{entry_text, transcript_text}

-- if one more event has an answer after a replay, the replay goes on to the history with that event's access, if any
pub IsReplay-more : (plan : Plan) (e : Event) (r : Answer) (a : Option WorldAccess) (es : List Event) (rs : List Answer)
    (was now : WorldHistory) → IsReplay plan es rs was now → HasAnswer plan e r a now
    → IsReplay plan (es ++ e ∷ []) (rs ++ r ∷ []) was (with_access a now)
IsReplay-more plan e r a [] [] was now here entry =
    (a, subst (HasAnswer plan e r a) here entry, ap (with_access a) here)
IsReplay-more plan e r a [] (s ∷ rs) was now here entry = absurd here
IsReplay-more plan e r a (d ∷ es) [] was now here entry = absurd here
IsReplay-more plan e r a (d ∷ es) (s ∷ rs) was now here entry =
    (here.0, here.1, IsReplay-more plan e r a es rs (with_access here.0 was) now here.2 entry)

-- the transcript of a replay with one event more has that event's line at its end
pub transcript_text-more : (plan : Plan) (e : Event) (r : Answer) (es : List Event) (rs : List Answer)
    (was now : WorldHistory) → IsReplay plan es rs was now
    → transcript_text (es ++ e ∷ []) (rs ++ r ∷ []) ≡ transcript_text es rs ++ entry_text e r
transcript_text-more plan e r [] [] was now here = append-nil (entry_text e r)
transcript_text-more plan e r [] (s ∷ rs) was now here = absurd here
transcript_text-more plan e r (d ∷ es) [] was now here = absurd here
transcript_text-more plan e r (d ∷ es) (s ∷ rs) was now here =
    ap (λ (t : List ℕ). entry_text d s ++ t) (transcript_text-more plan e r es rs _ now here.2)
    ∙ sym (append_assoc (entry_text d s) (transcript_text es rs) (entry_text e r))

-- if an event is added to a replay, and its line to the text, the text stays the transcript
pub IsTranscribed-more : (events more : List Event) (e : Event) (r : Answer) (was : WorldHistory)
    (then now : WorldState)
    (old text new : List ℕ) → IsTranscribed events was then old text → more ≡ events ++ e ∷ [] → now.setup ≡ then.setup
    → ((h : WorldHistory) → IsWorldAfter h then → EventAdds e r now h) → new ≡ text ++ entry_text e r
    → IsTranscribed more was now old new
IsTranscribed-more events more e r was then now old text new done last same adds written =
    let added = adds done.history done.left in
    let replayed = subst (λ s. IsReplay (plan_in s) events done.answers was done.history) (sym same) done.replayed in
    let one_more = IsReplay-more (plan_in now.setup) e r added.access events done.answers was
    done.history replayed added.entry in
    let line = transcript_text-more (plan_in then.setup) e r events done.answers was done.history done.replayed in
    let all = ap (λ es. transcript_text es (done.answers ++ r ∷ [])) last ∙ line in
    record {
      answers = done.answers ++ r ∷ [];
      history = with_access added.access done.history;
      replayed = subst (λ es. IsReplay (plan_in now.setup) es (done.answers ++ r ∷ []) was
          (with_access added.access done.history)) (sym last) one_more;
      left = added.left;
      written = written ∙ ap (λ (t : List ℕ). t ++ entry_text e r) done.written
          ∙ append_assoc old (transcript_text events done.answers) (entry_text e r)
          ∙ ap (λ (t : List ℕ). old ++ t) (sym all);
    }

-- the transcript and the report of a world are the text of a replay
pub IsReplayText-made : (setup : Setup) (events : List Event) (world : WorldState)
    (report : ReportView) (none text all : List ℕ)
    → IsTranscribed events [] world none text → none ≡ [] → world.setup ≡ setup
    → ((h : WorldHistory) → IsWorldAfter h world → IsReportOf (plan_in world.setup) (histories_of h) report)
    → ((h : WorldHistory) → IsWorldAfter h world → MainTheorem (pool_accesses h) (λ c. c) report)
    → all ≡ text ++ report_text report → IsReplayText (plan_in setup) events all
IsReplayText-made setup events world report none text all done empty same exact main_theorem written =
    let plan = ap plan_in same in
    record {
      answers = done.answers;
      history = done.history;
      replayed = subst (λ plan. IsReplay plan events done.answers [] done.history) plan done.replayed;
      report = report;
      reported = subst (λ plan. IsReportOf plan (histories_of done.history) report) plan (exact done.history done.left);
      main_theorem = main_theorem done.history done.left;
      written = written
          ∙ ap (λ (t : List ℕ). t ++ report_text report)
          (done.written ∙ ap (λ (t : List ℕ). t ++ transcript_text events done.answers) empty);
    }
