-- A producer's place as a plain value: what each call returns there, and what follows. Also which words a pool has.
use Rattle.std.specs.Prelude.{Bool, List, None, Option, Some, [], false, if◌then◌else◌, is_some, nat_lt, true, unwrap_or, ℕ, ◌+◌, ◌<◌, ◌∷◌, ◌≡◌}
use Rattle.std.specs.Option.{option_map_or}
use Rattle.mb_cells.specs.declared.lane.LaneStage.TheVariants as stage
use Rattle.mb_cells.specs.declared.answer.Offer.TheVariants as offer
use Rattle.mb_cells.specs.declared.answer.Push.TheVariants as push
use Rattle.mb_cells.specs.declared.answer.Finish.TheVariants as finish
use Rattle.mb_cells.specs.Place as phase
use Rattle.mb_cells.specs.Types.{Counter, END, Finish, Head, Item, Lane, LaneStage, Link, Offer, Push, Word}
use Rattle.mb_cells.specs.Size.{PoolSize}
use Rattle.mb_cells.specs.Memory.{History}
use Rattle.mb_cells.specs.LanePath.{Entry, fetch, store}
use Rattle.mb_cells.specs.Place.{LaneIsAt, Phase}

-- ---- the place of a producer
-- the cell of the entry that was linked last, or None if there is none
abbrev pub last_of : List Entry → Option ℕ
last_of [] = None
last_of (e ∷ _) = Some e.cell

-- the stage of a producer in this phase: what its next calls need to know of the phase
abbrev pub stage_of : Phase → LaneStage
stage_of phase.Open = stage.Open
stage_of (phase.Offered e) = stage.Offered e.cell e.value
stage_of (phase.Stored e) = stage.Stored e.cell
stage_of (phase.Full e) = stage.Full
stage_of (phase.Ended None) = stage.Ended false
stage_of (phase.Ended (Some e)) = stage.Ended true

-- `lane` is the place of a producer p that has done this
pub record IsLaneAfter (cells p : ℕ) (lane : Lane) (done : History) : Type 0 where
  pub entries : List Entry
  pub phase : Phase
  pub at : LaneIsAt cells p entries phase done
  pub last : lane.last ≡ last_of entries
  pub stage : lane.stage ≡ stage_of phase

-- the place of a producer that has done nothing
abbrev pub new_lane : Lane
new_lane = record { last = None; stage = stage.Open }

-- ---- an offer at a place
-- what an offer returns at this stage without an access, or None if it makes its fetch-add
abbrev pub stage_offer_refusal : LaneStage → Option Offer
stage_offer_refusal (stage.Ended full) = Some offer.Closed
stage_offer_refusal (stage.Offered cell item) = Some offer.Busy
stage_offer_refusal (stage.Stored cell) = Some offer.Busy
stage_offer_refusal stage.Full = Some offer.Full
stage_offer_refusal stage.Open = None

-- what an offer returns without an access: Closed after the end mark, Busy while an offered item is not linked, Full
-- after a fetch-add that found no cell, if no end mark came later. Else None
abbrev pub offer_refusal : Lane → Option Offer
offer_refusal lane = stage_offer_refusal lane.stage

-- what an offer returns whose fetch-add gave n
abbrev pub offer_by_found : ℕ → ℕ → Offer
offer_by_found cells n = if nat_lt n cells then offer.Cell n else offer.Full

-- what an offer returns at this place, if the counter holds n
abbrev pub offer_answer : ℕ → ℕ → Lane → Offer
offer_answer cells n lane = unwrap_or (offer_refusal lane) (offer_by_found cells n)

-- the place after an offer whose fetch-add gave n
abbrev pub lane_after_offer : ℕ → ℕ → ℕ → Lane → Lane
lane_after_offer cells item n lane =
    record { last = lane.last; stage = if nat_lt n cells then stage.Offered n item else stage.Full }

-- ---- a push at a place
-- the link word of the cell linked last, or the head of lane p if there is none
abbrev pub link_after : ℕ → Option ℕ → Word
link_after p None = Head p
link_after p (Some k) = Link k

-- the word in which the next link or the end mark of the lane is stored
abbrev pub next_link : ℕ → Lane → Word
next_link p lane = link_after p lane.last

-- the store of a push, if it makes one, by the stage and by the word that the next link goes to
abbrev pub stage_push_store : Word → LaneStage → Option (Word × ℕ)
stage_push_store link (stage.Offered cell item) = Some (Item cell, item)
stage_push_store link (stage.Stored cell) = Some (link, cell + 1)
stage_push_store link (stage.Ended full) = None
stage_push_store link stage.Full = None
stage_push_store link stage.Open = None

-- the store of a push, if it makes one, by the producer's place: first the item, then the link
abbrev pub push_store : ℕ → Lane → Option (Word × ℕ)
push_store p lane = stage_push_store (next_link p lane) lane.stage

-- what a push returns at this stage
abbrev pub stage_push_answer : LaneStage → Push
stage_push_answer (stage.Offered cell item) = push.Item cell
stage_push_answer (stage.Stored cell) = push.Link cell
stage_push_answer (stage.Ended full) = push.Idle
stage_push_answer stage.Full = push.Idle
stage_push_answer stage.Open = push.Idle

-- what a push returns at this place
abbrev pub push_answer : Lane → Push
push_answer lane = stage_push_answer lane.stage

-- which cell was linked last after a push at this stage, if it was `last` before
abbrev pub last_after_push : Option ℕ → LaneStage → Option ℕ
last_after_push last (stage.Offered cell item) = last
last_after_push last (stage.Stored cell) = Some cell
last_after_push last (stage.Ended full) = last
last_after_push last stage.Full = last
last_after_push last stage.Open = last

-- the stage after a push
abbrev pub stage_after_push : LaneStage → LaneStage
stage_after_push (stage.Offered cell item) = stage.Stored cell
stage_after_push (stage.Stored cell) = stage.Open
stage_after_push (stage.Ended full) = stage.Ended full
stage_after_push stage.Full = stage.Full
stage_after_push stage.Open = stage.Open

-- the place after a push's store
abbrev pub lane_after_push : Lane → Lane
lane_after_push lane =
    record { last = last_after_push lane.last lane.stage; stage = stage_after_push lane.stage }

-- ---- a finish at a place
-- what a finish returns at this stage without an access, or None if it stores the end mark
abbrev pub stage_finish_refusal : LaneStage → Option Finish
stage_finish_refusal (stage.Ended full) = Some finish.Closed
stage_finish_refusal (stage.Offered cell item) = Some finish.Busy
stage_finish_refusal (stage.Stored cell) = Some finish.Busy
stage_finish_refusal stage.Full = None
stage_finish_refusal stage.Open = None

-- what a finish returns without an access: Closed after the end mark, Busy while an offered item is not linked, or None
abbrev pub finish_refusal : Lane → Option Finish
finish_refusal lane = stage_finish_refusal lane.stage

-- what a finish returns at this place
abbrev pub finish_answer : Lane → Finish
finish_answer lane = unwrap_or (finish_refusal lane) finish.Ended

-- whether at this stage the producer's last access was a fetch-add that found no cell
abbrev pub is_full : LaneStage → Bool
is_full (stage.Offered cell item) = false
is_full (stage.Stored cell) = false
is_full (stage.Ended full) = false
is_full stage.Full = true
is_full stage.Open = false

-- the place after the store of the end mark
abbrev pub lane_after_finish : Lane → Lane
lane_after_finish lane = record { last = lane.last; stage = stage.Ended (is_full lane.stage) }

-- ---- the history after each call
-- the history, or the part, after an offer of x while the counter holds n. A refused offer leaves it as it was
abbrev pub history_after_offer : ℕ → ℕ → ℕ → Lane → History → History
history_after_offer p x n lane h =
    if is_some (offer_refusal lane) then h else (fetch p (record { cell = n; value = x }) ∷ h)

-- the history, or the part, after a push: with the push's store in front, if it makes one
abbrev pub history_after_push : ℕ → Lane → History → History
history_after_push p lane h = option_map_or (λ s. store p s.0 s.1 ∷ h) (push_store p lane) h

-- the history, or the part, after a finish: with the end mark's store in front, if it is not refused
abbrev pub history_after_finish : ℕ → Lane → History → History
history_after_finish p lane h =
    if is_some (finish_refusal lane) then h else (store p (next_link p lane) END ∷ h)

-- ---- the words of a pool
-- the word is one of a pool of this size
abbrev pub IsPoolWord : PoolSize → Word → Type 0
IsPoolWord size Counter = Unit {0}
IsPoolWord size (Head p) = p < size.lanes
IsPoolWord size (Link k) = k < size.cells
IsPoolWord size (Item k) = k < size.cells

-- the word is a head, a link or an item of a pool of this size
abbrev pub IsLaneWord : PoolSize → Word → Type 0
IsLaneWord size Counter = ⊥
IsLaneWord size (Head p) = p < size.lanes
IsLaneWord size (Link k) = k < size.cells
IsLaneWord size (Item k) = k < size.cells
