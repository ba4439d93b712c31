-- The transcript: a line for each event, with its words and its answer. Of a step it leaves out the random word.
use Rattle.std.specs.Prelude.{ℕ, List, [], ◌∷◌, ◌++◌, codes}
use Rattle.std.specs.Fmt.{decimal}
use Rattle.mb_claim.specs.declared.access.Stage.{Stage}
use Rattle.mb_claim.specs.declared.access.Stage.TheVariants as stage
use Rattle.mb_cells.specs.declared.answer.Finish.{Finish}
use Rattle.mb_cells.specs.declared.answer.Finish.TheVariants as finish
use Rattle.mb_cells.specs.declared.answer.Look.{Look}
use Rattle.mb_cells.specs.declared.answer.Look.TheVariants as look
use Rattle.mb_cells.specs.declared.answer.Offer.{Offer}
use Rattle.mb_cells.specs.declared.answer.Offer.TheVariants as offer
use Rattle.mb_cells.specs.declared.answer.Push.{Push}
use Rattle.mb_cells.specs.declared.answer.Push.TheVariants as push
use Rattle.mb_world.specs.declared.event.Answer.{Answer}
use Rattle.mb_world.specs.declared.event.Answer.TheVariants.{NoLane, NoConsumer, Offered, Pushed, Finished, Looked, Claimed, Took}
use Rattle.mb_world.specs.declared.event.Event.{Event}
use Rattle.mb_world.specs.declared.event.Event.TheVariants as event
use Rattle.mb_script.specs.ActText.{act_text}

-- ---- the text of an event
-- the words of an event, except the random word of a step
abbrev pub event_text : Event → List ℕ
event_text (event.Offer lane item) = codes "offer " ++ decimal lane ++ codes " " ++ decimal item
event_text (event.Push lane) = codes "push " ++ decimal lane
event_text (event.Finish lane) = codes "finish " ++ decimal lane
event_text (event.Step consumer lane word) = codes "step " ++ decimal consumer ++ codes " " ++ decimal lane

-- ---- the text of an answer
-- the text of the answer to an offer: the cell of the item, or why it has none
abbrev pub offer_text : Offer → List ℕ
offer_text (offer.Cell cell) = codes "cell " ++ decimal cell
offer_text offer.Full = codes "full"
offer_text offer.Busy = codes "busy"
offer_text offer.Closed = codes "closed"

-- the text of the answer to a push: the cell whose item was stored, the cell that was linked, or that neither was
abbrev pub push_text : Push → List ℕ
push_text (push.Item cell) = codes "item " ++ decimal cell
push_text (push.Link cell) = codes "link " ++ decimal cell
push_text push.Idle = codes "idle"

-- the text of the answer to a finish: the end mark was stored, an item is not linked yet, or the lane had ended before
abbrev pub finish_text : Finish → List ℕ
finish_text finish.Ended = codes "ended"
finish_text finish.Busy = codes "busy"
finish_text finish.Closed = codes "closed"

-- the text of the answer to a look: the head or link leads to no cell yet, leads to this cell, or is the end mark
abbrev pub look_text : Look → List ℕ
look_text look.Nothing = codes "nothing"
look_text (look.Cell cell) = codes "found " ++ decimal cell
look_text look.Ended = codes "ended"

-- the text of a claim's stage: how the claim has ended, or nothing if it goes on
abbrev pub stage_text : Stage → List ℕ
stage_text stage.Going = []
stage_text stage.Won = codes " won"
stage_text (stage.Lost winner) = codes " lost " ++ decimal winner
stage_text stage.Undecided = codes " undecided"

-- the text of the answer to an event. No event of a script has the answer `NoLane` or `NoConsumer`
abbrev pub answer_text : Answer → List ℕ
answer_text NoLane = codes "no lane"
answer_text NoConsumer = codes "no consumer"
answer_text (Offered answer) = offer_text answer
answer_text (Pushed answer) = push_text answer
answer_text (Finished answer) = finish_text answer
answer_text (Looked answer) = look_text answer
answer_text (Claimed cell object act stage) =
    codes "cell " ++ decimal cell ++ codes " o" ++ decimal object ++ codes " " ++ act_text act ++ stage_text stage
answer_text (Took cell item) = codes "took " ++ decimal item

-- ---- the lines of a transcript
-- the line of an event with its answer
abbrev pub entry_text : Event → Answer → List ℕ
entry_text e r = event_text e ++ codes " " ++ answer_text r ++ codes "\n"

-- a line for each event with its answer, in their order, up to the end of the shorter list
abbrev pub transcript_text : List Event → List Answer → List ℕ
transcript_text [] rs = []
transcript_text (e ∷ es) [] = []
transcript_text (e ∷ es) (r ∷ rs) = entry_text e r ++ transcript_text es rs
