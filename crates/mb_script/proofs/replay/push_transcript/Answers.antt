-- Proof of `push_transcript`: it applies the events in their order, and appends the line of each with its answer.
use Rattle.std.proofs.Common.{◌∙◌}
use Rattle.std.proofs.lemmas.List.{take_more}
use Rattle.mb_script.proofs.Replays.{IsTranscribed-more}
use Rattle.mb_script.proofs.replay.push_transcript.Goals as goal

pub loop-event-preserved : goal.loop-event-preserved
loop-event-preserved g c = record {
  setup = c.apply-answer.ensures.setup ∙ c.loop-event.invariant.setup;
  added = λ was after. IsTranscribed-more _ _ _ _ was _ _ _ _ _ (c.loop-event.invariant.added was after)
      (take_more c.args.events.now c.loop-event.event-index _ c.loop-event-test.true)
      c.apply-answer.ensures.setup c.apply-answer.ensures.adds c.in_ok-push_entry.ensures;
}
