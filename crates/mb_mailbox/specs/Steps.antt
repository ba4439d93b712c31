-- The polls of a consumer on a lane: their accesses, and what these come to.
use Rattle.std.specs.Prelude.{ℕ, ◌≡◌, ◌≢◌, ◌++◌, ◌≤◌, Bool, true, false, List, [], ◌∷◌}
use Rattle.std.specs.Prelude.{Option, Some, None, length, map, slice_get, slice_set}
use Rattle.std.specs.Option.{option_map_or}
use Rattle.mb_world.specs.Reporting.{values_put}
use Rattle.mb_mailbox.specs.Imports.{END, HasRead, History, Lost, Note, Parts, Stream, Took, Undecided}
use Rattle.mb_mailbox.specs.Imports.{WorldAccess, WorldHistory, cells_met, claim_accesses, claims_at}
use Rattle.mb_mailbox.specs.Imports.{has_ended, linked_cells, next_u64, place_past, pool_accesses}
use Rattle.mb_mailbox.specs.declared.consumer.Poll.{Poll}
use Rattle.mb_mailbox.specs.declared.consumer.Poll.TheVariants as poll
use Rattle.mb_mailbox.specs.Consumers.{ConsumerView, parts_of}
use Rattle.mb_mailbox.specs.Emptiness.{HasFoundEmpty}
use Rattle.mb_mailbox.specs.ConsumerStep.{ConsumerStep}

-- ---- random words
-- the words (the last first) are the next of the source `s`, and `t` is the source after them
abbrev pub AreDrawn : Stream → List ℕ → Stream → Type 0
AreDrawn s [] t = t ≡ s
AreDrawn s (w ∷ ws) t = (u : Stream) × AreDrawn s ws u × ((w, t) ≡ next_u64 u)

-- the random words of the claims' accesses among these accesses
abbrev pub drawn_words : WorldHistory → List ℕ
drawn_words done = map (λ a. a.step.turn.word) (claim_accesses done)

-- ---- accesses one after another
-- the parts of a consumer after these accesses, the newest first
abbrev pub parts_after : WorldHistory → ConsumerView → Parts
parts_after done s = parts_of
    (record s.reader { part = pool_accesses done ++ s.reader.part })
    (record s.seat { part = claim_accesses done ++ s.seat.part })

-- from consumer `s` on, each of these accesses (the newest first) is the next one on lane p, by the parts before it.
-- The newest comes to this answer, or to none yet. Each older one comes to none
abbrev pub LeadTo : ℕ → Option Poll → WorldHistory → ConsumerView → Type 0
LeadTo p answer [] s = answer ≡ None
LeadTo p answer (a ∷ older) s =
    ConsumerStep (claims_at s.seat.table) s.seat.consumer p (parts_after older s) a answer
    × LeadTo p None older s

-- ---- the notes that come with answers
-- the note that comes with an answer
abbrev pub note_with : Option Poll → Option Note
note_with (Some (poll.Took x)) = Some (Took x)
note_with (Some (poll.Lost w)) = Some (Lost w)
note_with (Some poll.Undecided) = Some Undecided
note_with _ = None

-- the notes on lane p, or none if there is no such lane
abbrev pub notes_on : ℕ → List (List Note) → List Note
notes_on p notes = option_map_or (λ ns. ns) (slice_get notes p) []

-- the notes of all lanes, with one more on lane p if there is a note to add
abbrev pub with_note : ℕ → Option Note → List (List Note) → List (List Note)
with_note p None notes = notes
with_note p (Some n) notes = slice_set notes p (notes_on p notes ++ n ∷ [])

-- ---- what a consumer is after accesses
-- the consumer made these accesses on lane p, the newest first, and nothing else. Its parts have just these more. Its
-- notes have just the one more that comes with the answer, if one does
pub record HasDone (p : ℕ) (done : WorldHistory) (answer : Option Poll) (old new : ConsumerView)
    : Type 0 where
  pub reader : new.reader ≡ record old.reader { part = pool_accesses done ++ old.reader.part }
  pub seat : new.seat ≡ record old.seat { part = claim_accesses done ++ old.seat.part }
  pub notes : new.notes ≡ with_note p (note_with answer) old.notes

-- ---- steps and polls
-- the consumer made one step on lane p: one access, which comes to this answer or to none
pub record IsStep (p : ℕ) (answer : Option Poll) (s t : Stream) (old new : ConsumerView)
    : Type 0 where
  pub access : WorldAccess
  pub done : HasDone p (access ∷ []) answer old new
  pub leads : LeadTo p answer (access ∷ []) old
  pub drawn : AreDrawn s (drawn_words (access ∷ [])) t

-- the consumer made n steps on lane p. The last comes to this answer, or to none yet
pub record AreSteps (p n : ℕ) (answer : Option Poll) (s t : Stream) (old new : ConsumerView)
    : Type 0 where
  pub accesses : WorldHistory
  pub done : HasDone p accesses answer old new
  pub lead : LeadTo p answer accesses old
  pub drawn : AreDrawn s (drawn_words accesses) t
  pub count : length accesses ≡ n

-- what the accesses of a poll come to: its answer, or none if it is spent
abbrev pub outcome : Poll → Option Poll
outcome poll.Spent = None
outcome answer = Some answer

-- the consumer made a poll of lane p with this budget and this answer
pub record IsPollOf (p budget : ℕ) (answer : Poll) (s t : Stream) (old new : ConsumerView)
    : Type 0 where
  -- the accesses that it made, the newest first. The parts have just these more, and the notes the answer's, if any
  pub accesses : WorldHistory
  pub done : HasDone p accesses (outcome answer) old new
  -- each is the next one on the lane, and the poll ends with the first that comes to an answer
  pub lead : LeadTo p (outcome answer) accesses old
  -- `t` is the source after one word for each access of a claim
  pub drawn : AreDrawn s (drawn_words accesses) t
  -- there are no more accesses than the budget, and just as many if it is spent
  pub within : length accesses ≤ budget
  pub spent : answer ≡ poll.Spent → length accesses ≡ budget

-- ---- what an answer says of the lane
-- the consumer has a note on each cell that it met on lane p
abbrev pub HasNoteOnEach : ℕ → ConsumerView → Type 0
HasNoteOnEach p s = length (notes_on p s.notes) ≡ length (cells_met p s.reader.part)

-- the consumer has loaded the end mark past the last cell that it met on lane p, or in the head if it met none
abbrev pub HasLoadedEnd : ℕ → ConsumerView → Type 0
HasLoadedEnd p s = HasRead (place_past p (cells_met p s.reader.part)) END s.reader.part

-- the consumer has met all cells of lane p. The part of the lane's producer is `theirs`, and the consumer has one note
-- there for each item that this part puts. `over` says whether the lane has ended
pub record HasReadWhole (p : ℕ) (theirs : History) (over : Bool) (s : ConsumerView) : Type 0 where
  pub cells : cells_met p s.reader.part ≡ linked_cells p theirs
  pub notes : length (notes_on p s.notes) ≡ length (values_put p theirs)
  pub ended : has_ended p theirs ≡ over

-- what holds of lane p after accesses that came to this answer
pub record AnswerTells (p : ℕ) (answer : Option Poll) (old new : ConsumerView) : Type 0 where
  -- if there is an answer, the consumer has a note on each cell that it met on the lane. So it holds no claim there
  pub noted : answer ≢ None → HasNoteOnEach p new
  -- if the answer is `Ended`, the consumer has loaded the end mark
  pub ended : answer ≡ Some poll.Ended → HasLoadedEnd p new
  -- if the answer is `Nothing`, the consumer had met the whole lane at the moment of its last load
  pub empty : answer ≡ Some poll.Nothing → HasFoundEmpty p old new
  -- The next two clauses are about a lane whose producer was returned before the consumer was issued. With the answer
  -- `Nothing` the consumer has met all that was put, and the lane has not ended. With `Ended` it has met all that was
  -- put, and the lane has ended.
  pub known_nothing : (theirs : History) → slice_get old.reader.known p ≡ Some (Some theirs)
      → answer ≡ Some poll.Nothing → HasReadWhole p theirs false new
  pub known_ended : (theirs : History) → slice_get old.reader.known p ≡ Some (Some theirs)
      → answer ≡ Some poll.Ended → HasReadWhole p theirs true new
