-- Loop invariants of `push_transcript`, which applies the events in their order, and appends the line of each with its
-- answer.
use Rattle.std.proofs.Common.{◌≡◌, take, string_bytes}
use Rattle.mb_world.specs.World.{WorldHistory}
use Rattle.mb_world.specs.WorldState.{IsWorldAfter}
use Rattle.mb_script.specs.Transcribed.{IsTranscribed}
use Rattle.mb_script.proofs.replay.push_transcript.Given as goal

-- the world's setup is as at first, the events so far are applied to it, and their transcript is appended
abbrev pub invariant-loop-event : goal.invariant-loop-event
invariant-loop-event g l = record {
  setup : l.world.setup ≡ l.fn.world.setup;
  added : (was : WorldHistory) → IsWorldAfter was l.fn.world
      → IsTranscribed (take l.event-index l.events) was l.world (string_bytes l.fn.text) (string_bytes l.text);
}
