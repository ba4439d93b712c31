-- Lists of calls of a pool with their answers, the newest first, and what they alone say.
use Rattle.std.specs.Prelude.{Bool, List, None, Option, Some, [], false, if◌then◌else◌, map, nat_eq, reverse, true, unwrap_or, ℕ, ◌+◌, ◌<◌, ◌||◌, ◌∷◌, ◌≡◌, ◌⊎◌}
use Rattle.mb_cells.specs.declared.answer.Offer.TheVariants as offer
use Rattle.mb_cells.specs.declared.answer.Push.TheVariants as push
use Rattle.mb_cells.specs.declared.answer.Finish.TheVariants as finish
use Rattle.mb_cells.specs.declared.answer.Look.TheVariants as look
use Rattle.mb_cells.specs.declared.lane.LaneStage.TheVariants as stage
use Rattle.mb_cells.specs.Types.{Finish, LaneStage, Look, Offer, Push}
use Rattle.mb_cells.specs.Size.{PoolSize}
use Rattle.mb_cells.specs.LanePath.{Entry}
use Rattle.mb_cells.specs.Lanes.{entry_of, push_if}
use Rattle.mb_cells.specs.Standing.{is_full, offer_by_found, stage_finish_refusal, stage_offer_refusal, stage_push_answer}
use Rattle.mb_cells.specs.State.{IsAfter, PoolState, SameSize, cell_count, lane_count}
use Rattle.mb_cells.specs.Calls.{FinishMeets, OfferMeets, PushMeets}

-- a call on a lane that may change the pool, with its answer
pub data Call : Type 0 where
  -- an offer has its lane, its item and its answer, a push or a finish its lane and its answer
  Offered : ℕ → ℕ → Offer → Call
  Pushed : ℕ → Push → Call
  Finished : ℕ → Finish → Call

-- the call, on a lane of the pool, leads from the old state to the new: what the clauses `meets` and `size` say of it
abbrev pub Leads : PoolState → Call → PoolState → Type 0
Leads old (Offered p x r) new = (p < lane_count old) × OfferMeets old p x r new × SameSize old new
Leads old (Pushed p r) new = (p < lane_count old) × PushMeets old p r new × SameSize old new
Leads old (Finished p r) new = (p < lane_count old) × FinishMeets old p r new × SameSize old new

-- these calls, the newest first, lead from a new pool of this size to this state. Each is on a lane of the pool
abbrev pub HasMade : PoolSize → List Call → PoolState → Type 0
HasMade size [] s = (lane_count s ≡ size.lanes) × (cell_count s ≡ size.cells) × IsAfter [] s
HasMade size (c ∷ older) s = (was : PoolState) × (HasMade size older was × Leads was c s)

-- the item of cell k after an offer with this answer, if it was y before
abbrev pub item_by_offer : ℕ → ℕ → Offer → ℕ → ℕ
item_by_offer k x (offer.Cell n) y = if nat_eq n k then x else y
item_by_offer k x offer.Full y = y
item_by_offer k x offer.Busy y = y
item_by_offer k x offer.Closed y = y

-- the item of the offer that returned cell k, or 0 if none did
abbrev pub item_by : ℕ → List Call → ℕ
item_by k [] = 0
item_by k (Offered p x r ∷ older) = item_by_offer k x r (item_by k older)
item_by k (Pushed p r ∷ older) = item_by k older
item_by k (Finished p r ∷ older) = item_by k older

-- the cell that a push with this answer linked, if it linked one
abbrev pub link_by_push : Push → Option ℕ
link_by_push (push.Item k) = None
link_by_push (push.Link k) = Some k
link_by_push push.Idle = None

-- the cells that pushes on lane p linked, the last first
abbrev pub linked_cells_by : ℕ → List Call → List ℕ
linked_cells_by p [] = []
linked_cells_by p (Offered q x r ∷ older) = linked_cells_by p older
linked_cells_by p (Pushed q r ∷ older) =
    if nat_eq p q then push_if (link_by_push r) (linked_cells_by p older)
    else linked_cells_by p older
linked_cells_by p (Finished q r ∷ older) = linked_cells_by p older

-- the put list of lane p: the cells that were linked, each with the item offered for it, the first linked first
abbrev pub put_list_by : ℕ → List Call → List Entry
put_list_by p calls = reverse (map (entry_of (λ k. item_by k calls)) (linked_cells_by p calls))

-- whether this answer of a finish says that the end mark was stored
abbrev pub is_end : Finish → Bool
is_end finish.Ended = true
is_end finish.Busy = false
is_end finish.Closed = false

-- whether a finish of lane p returned Ended
abbrev pub has_ended_by : ℕ → List Call → Bool
has_ended_by p [] = false
has_ended_by p (Offered q x r ∷ older) = has_ended_by p older
has_ended_by p (Pushed q r ∷ older) = has_ended_by p older
has_ended_by p (Finished q r ∷ older) =
    if nat_eq p q then is_end r || has_ended_by p older else has_ended_by p older

-- what a look past the last cell of lane p returns, or at its head if it has no cell
abbrev pub lane_end_by : ℕ → List Call → Look
lane_end_by p calls = if has_ended_by p calls then look.Ended else look.Nothing

-- the stage after an offer of x with this answer, if it was `was` before
abbrev pub stage_by_offer : ℕ → Offer → LaneStage → LaneStage
stage_by_offer x (offer.Cell n) was = stage.Offered n x
stage_by_offer x offer.Full was = stage.Full
stage_by_offer x offer.Busy was = was
stage_by_offer x offer.Closed was = was

-- the stage after a push with this answer, if it was `was` before
abbrev pub stage_by_push : Push → LaneStage → LaneStage
stage_by_push (push.Item k) was = stage.Stored k
stage_by_push (push.Link k) was = stage.Open
stage_by_push push.Idle was = was

-- the stage after a finish with this answer, if it was `was` before
abbrev pub stage_by_finish : Finish → LaneStage → LaneStage
stage_by_finish finish.Ended was = stage.Ended (is_full was)
stage_by_finish finish.Busy was = was
stage_by_finish finish.Closed was = was

-- the stage of lane p after these calls: only a call on p that does not return Busy, Closed or Idle sets it
abbrev pub stage_by : ℕ → List Call → LaneStage
stage_by p [] = stage.Open
stage_by p (Offered q x r ∷ older) =
    if nat_eq p q then stage_by_offer x r (stage_by p older) else stage_by p older
stage_by p (Pushed q r ∷ older) =
    if nat_eq p q then stage_by_push r (stage_by p older) else stage_by p older
stage_by p (Finished q r ∷ older) =
    if nat_eq p q then stage_by_finish r (stage_by p older) else stage_by p older

-- how many fetch-adds an offer with this answer made, if the stage was `was` before
abbrev pub fetch_adds_by_offer : Offer → LaneStage → ℕ
fetch_adds_by_offer (offer.Cell n) was = 1
fetch_adds_by_offer offer.Full was = if is_full was then 0 else 1
fetch_adds_by_offer offer.Busy was = 0
fetch_adds_by_offer offer.Closed was = 0

-- how many offers made a fetch-add: those that returned a cell, and the first Full of each lane
abbrev pub fetch_adds_by : List Call → ℕ
fetch_adds_by [] = 0
fetch_adds_by (Offered p x r ∷ older) =
    fetch_adds_by older + fetch_adds_by_offer r (stage_by p older)
fetch_adds_by (Pushed p r ∷ older) = fetch_adds_by older
fetch_adds_by (Finished p r ∷ older) = fetch_adds_by older

-- an offer returned cell k
abbrev pub WasGivenBy : ℕ → List Call → Type 0
WasGivenBy k [] = ⊥
WasGivenBy k (Offered p x r ∷ older) = (r ≡ offer.Cell k) ⊎ WasGivenBy k older
WasGivenBy k (Pushed p r ∷ older) = WasGivenBy k older
WasGivenBy k (Finished p r ∷ older) = WasGivenBy k older

-- the answer r of a call follows from the calls before it. If the lane's stage refuses an offer or a finish, r is that
-- refusal. Else an offer has the cell of the next fetch-add, or Full if there is none, and a finish has Ended
abbrev pub IsAnswerBy : ℕ → Call → List Call → Type 0
IsAnswerBy cells (Offered p x r) older =
    r ≡ unwrap_or (stage_offer_refusal (stage_by p older))
    (offer_by_found cells (fetch_adds_by older))
IsAnswerBy cells (Pushed p r) older = r ≡ stage_push_answer (stage_by p older)
IsAnswerBy cells (Finished p r) older =
    r ≡ unwrap_or (stage_finish_refusal (stage_by p older)) finish.Ended
