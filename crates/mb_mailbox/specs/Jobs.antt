-- The workers of a run: before which call they stop, what consumers have read, and the ends that they give back.
use Rattle.std.specs.Prelude.{ℕ, suc, ◌≡◌, ◌≢◌, ◌+◌, ◌-◌, ◌*◌, ◌^◌, ◌<◌, ◌≤◌, ◌⊎◌, ◌++◌, Bool, List, [], ◌∷◌, false, length, slice_index_or, true}
use Rattle.mb_mailbox.specs.Imports.{END, Has, HasLoaded, HasMet, Head, History, Link, Load, Look, PoolAccess, PoolAct, Stream, Word, look_of, place_past}
use Rattle.mb_cells.specs.declared.answer.Look.TheVariants as look
use Rattle.std.specs.Int.{from_bool}
use Rattle.mb_mailbox.specs.Calls.{ArePassed, HasCalled}
use Rattle.mb_mailbox.specs.Consumers.{ConsumerView}
use Rattle.mb_mailbox.specs.Producers.{FoundNoCell, IsSameLane, is_over}
use Rattle.mb_mailbox.specs.Steps.{notes_on}
use Rattle.mb_mailbox.specs.declared.gate.Who.{Who}
use Rattle.mb_mailbox.specs.declared.gate.Who.TheVariants as who
use Rattle.mb_mailbox.specs.declared.crew.jobs.PollDone.{PollDone}
use Rattle.mb_mailbox.specs.declared.crew.jobs.PutDone.{PutDone}
use Rattle.mb_mailbox.specs.declared.crew.jobs.PutJob.{PutJob}

-- ---- stops, accesses and lists
-- a worker may be stopped before its call of this number: the gate may stop it there, or the number is 2^64 - 1
abbrev pub IsStopBefore : (Who → ℕ → Type 0) → Who → ℕ → Type 0
IsStopBefore may_stop w call = may_stop w call ⊎ (call ≡ 2 ^ 64 - 1)

-- how many accesses a consumer has made
abbrev pub accesses_made : ConsumerView → ℕ
accesses_made s = length s.reader.part + length s.seat.part

-- `whole` begins with `front`
abbrev pub IsFront : List ℕ → List ℕ → Type 0
IsFront front whole = (rest : List ℕ) × (front ++ rest ≡ whole)

-- ---- what a consumer has read
-- the consumer has the same tables and the same numbers as before
pub record IsSameConsumer (old new : ConsumerView) : Type 0 where
  pub cells : new.reader.table ≡ old.reader.table
  pub reader : new.reader.reader ≡ old.reader.reader
  pub claims : new.seat.table ≡ old.seat.table
  pub consumer : new.seat.consumer ≡ old.seat.consumer

-- the consumer has loaded the end mark of lane p, past cells that it met there. It has one note on that lane for each
-- of these cells
pub record HasReadToEnd (p : ℕ) (s : ConsumerView) : Type 0 where
  pub cells : List ℕ
  pub met : HasMet s.reader.reader p cells s.reader.part
  pub end : HasLoaded s.reader.reader (place_past p cells) END s.reader.part
  pub notes : length (notes_on p s.notes) ≡ length cells

-- the consumer has read each marked lane to its end, and has a note on each cell there
abbrev pub HasReadMarked : List Bool → ConsumerView → Type 0
HasReadMarked marks s = (p : ℕ) → slice_index_or marks p false ≡ true → HasReadToEnd p s

-- how many lanes are marked
abbrev pub count_marks : List Bool → ℕ
count_marks [] = 0
count_marks (b ∷ bs) = from_bool b + count_marks bs

-- whether a look, which says what a load of a head or link found, says that it found the end mark
abbrev pub is_ended : Look → Bool
is_ended look.Nothing = false
is_ended look.Ended = true
is_ended (look.Cell k) = false

-- whether an access of this word is a load of a head or a link that finds the end mark
abbrev pub tells_end : Word → PoolAct → Bool
tells_end (Head p) (Load v) = is_ended (look_of v)
tells_end (Link k) (Load v) = is_ended (look_of v)
tells_end _ _ = false

-- how many of these accesses load an end mark
abbrev pub ends_met : History → ℕ
ends_met [] = 0
ends_met (a ∷ older) = from_bool (tells_end a.word a.act) + ends_met older

-- some lanes are marked, perhaps none, each of them from `from` on and below `end`. The consumer has read each to its
-- end mark. It has loaded as many end marks as lanes are marked. So it has loaded the end mark of each marked
-- lane once, and no other end mark: a cell is in one lane
pub record HasReadEnds (from end : ℕ) (s : ConsumerView) : Type 0 where
  pub marks : List Bool
  pub within : (p : ℕ) → slice_index_or marks p false ≡ true → (from ≤ p) × (p < end)
  pub read : HasReadMarked marks s
  pub once : ends_met s.reader.part ≡ count_marks marks

-- if one of these accesses is to the head of lane p, then p is at least `from` and below `end`
abbrev pub IsOnLanes : ℕ → ℕ → History → Type 0
IsOnLanes from end reads = (a : PoolAccess) (p : ℕ) → Has reads a → a.word ≡ Head p → (from ≤ p) × (p < end)

-- ---- the ends of workers
-- consumer c was stopped before its call of number `call`, counted from 1, and has made `made` accesses. These are at
-- least as many as it had calls before that one, and at most the budget times as many
pub record IsStoppedPoll (may_stop : Who → ℕ → Type 0) (budget c made : ℕ) : Type 0 where
  pub call : ℕ
  pub first : 1 ≤ call
  pub within : call ≤ suc made
  pub most : made ≤ budget * (call - 1)
  pub stop : IsStopBefore may_stop (who.Consumer c) call

-- a consumer has made calls, and the gate let each through. Each call draws the words of this source after those of
-- the call before it. If the consumer was stopped, it was stopped before the call that was to come next
pub record HasPolled (may_stop may_pass : Who → ℕ → Type 0) (from end budget : ℕ) (source : Stream) (stopped : Bool)
    (old new : ConsumerView) : Type 0 where
  pub calls : ℕ
  pub left : Stream
  pub called : HasCalled may_pass from end budget calls source left old new
  pub stop : stopped ≡ true → IsStopBefore may_stop (who.Consumer old.seat.consumer) (suc calls)

module _ {Z : Type 0} (may_stop may_pass : Who → ℕ → Type 0) where
  -- `d` is the end of job `j`: the producer, of the same lane, put a beginning of its list, and ended its lane. If it
  -- was not stopped, `full` counts the rest of the list. If that is not 0, a fetch-add of the producer found no cell.
  -- If it was stopped, `full` is 0. If it was stopped and the run is not aborted, it put less than its list, and was
  -- stopped before the call for the next item. In that case, if a fetch-add of it found no cell, one did so before this
  -- job. If the run is not aborted, the gate let each of its calls through: one for each item that it put, and one for
  -- the item that found no cell, if there is one
  pub record IsPutEnd (j : PutJob Z) (d : PutDone Z) : Type 0 where
    pub same : IsSameLane j.producer d.producer
    pub over : is_over d.producer ≡ true
    pub front : IsFront d.producer.items j.list.items
    pub full : d.stopped ≡ false → length d.producer.items + d.full ≡ length j.list.items
    pub found : d.stopped ≡ false → d.full ≢ 0 → FoundNoCell d.producer
    pub none : d.stopped ≡ true → d.full ≡ 0
    pub short : d.stopped ≡ true → d.aborted ≡ false → length d.producer.items < length j.list.items
    pub had_cells : d.stopped ≡ true → d.aborted ≡ false → FoundNoCell d.producer → FoundNoCell j.producer
    pub stop : d.stopped ≡ true → d.aborted ≡ false
        → IsStopBefore may_stop (who.Producer j.producer.seat.lane) (suc (length d.producer.items))
    pub passed : d.aborted ≡ false → ArePassed may_pass (who.Producer j.producer.seat.lane) (length d.producer.items)
    pub passed_full : d.aborted ≡ false → d.stopped ≡ false → d.full ≢ 0
        → may_pass (who.Producer j.producer.seat.lane) (suc (length d.producer.items))

  -- `d` is the end of consumer `s`, whose tables and numbers it has: if it was not stopped, it has read each lane from
  -- `from` on and below `end` to its end mark. If the run is not aborted, it has made its calls with this budget and
  -- the words of this source, and nothing else. What follows is of a consumer that had made no access before. If it was
  -- not stopped, it has loaded one end mark for each of these lanes. In any case it has loaded one for each of these
  -- lanes that it has read to its end, and no other. If the run is not aborted, it has loaded no head of another lane.
  -- If it was stopped and the run is not aborted, it was stopped before a call, and has loaded fewer end marks than
  -- there are of these lanes
  pub record IsPollEnd (from end budget : ℕ) (source : Stream) (s : ConsumerView) (d : PollDone Z) : Type 0 where
    pub same : IsSameConsumer s d.consumer
    pub read : d.stopped ≡ false → (p : ℕ) → from ≤ p → p < end → HasReadToEnd p d.consumer
    pub ends : d.stopped ≡ false → accesses_made s ≡ 0 → ends_met d.consumer.reader.part ≡ end - from
    pub marked : accesses_made s ≡ 0 → HasReadEnds from end d.consumer
    pub stop : d.stopped ≡ true → d.aborted ≡ false → accesses_made s ≡ 0
        → IsStoppedPoll may_stop budget s.seat.consumer (accesses_made d.consumer)
    pub unread : d.stopped ≡ true → d.aborted ≡ false → accesses_made s ≡ 0
        → ends_met d.consumer.reader.part < end - from
    pub only : d.aborted ≡ false → accesses_made s ≡ 0 → IsOnLanes from end d.consumer.reader.part
    pub polled : d.aborted ≡ false → HasPolled may_stop may_pass from end budget source d.stopped s d.consumer
