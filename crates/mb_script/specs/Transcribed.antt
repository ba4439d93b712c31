-- What the replay of some events adds to a text.
use Rattle.std.specs.Prelude.{ℕ, ◌≡◌, List, ◌++◌}
use Rattle.mb_world.specs.declared.event.Answer.{Answer}
use Rattle.mb_world.specs.declared.event.Event.{Event}
use Rattle.mb_world.specs.Replay.{IsReplay}
use Rattle.mb_world.specs.Setups.{plan_in}
use Rattle.mb_world.specs.World.{WorldHistory}
use Rattle.mb_world.specs.WorldState.{IsWorldAfter, WorldState}
use Rattle.mb_script.specs.Transcript.{transcript_text}

-- after a history, the replay of these events has left the world in this state, and appended its transcript to the text
pub record IsTranscribed (events : List Event) (was : WorldHistory) (world : WorldState)
    (old new : List ℕ) : Type 0 where
  -- the events have these answers, and lead to this history
  pub answers : List Answer
  pub history : WorldHistory
  pub replayed : IsReplay (plan_in world.setup) events answers was history
  -- the world is in the state of that history, and the transcript stands at the end of the text
  pub left : IsWorldAfter history world
  pub written : new ≡ old ++ transcript_text events answers
