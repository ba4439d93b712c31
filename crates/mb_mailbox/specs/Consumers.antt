-- A consumer of a mailbox: what its two seats did, and where it stands on each lane.
use Rattle.std.specs.Prelude.{ℕ, ◌≡◌, List, [], ◌∷◌, Some, None, length, reverse, slice_get}
use Rattle.mb_mailbox.specs.Imports.{Claim, Claims, Cursor, EndsAs, Fits, HasNotPassed, IsClaimIn, Layout, Note}
use Rattle.mb_mailbox.specs.Imports.{Parts, ReaderSeatView, SeatView, TableSize, cells_met, claim_stage}
use Rattle.mb_mailbox.specs.Imports.{claims_in, consumer_of, name_of, note_of, part_on, place_past, word_of}
use Rattle.mb_mailbox.specs.Mailboxes.{MailboxView}
use Rattle.mb_world.specs.declared.place.Place.{Place}
use Rattle.mb_world.specs.declared.place.Place.TheVariants.{At, Before}

-- what proofs see of a consumer: its seat among the readers of the cells, its seat among the consumers of the claims,
-- its place on each lane, and its notes there
pub record ConsumerView : Type 0 where
  pub reader : ReaderSeatView
  pub seat : SeatView
  pub places : List Place
  pub notes : List (List Note)

-- the two parts of a consumer with these seats: what it loaded from the cells, and what it did for its claim on each
-- cell
abbrev pub parts_of : ReaderSeatView → SeatView → Parts
parts_of reader seat =
    record { reads = reader.part; claimed = λ k. part_on seat.consumer k seat.part }

-- the claims of consumer c on these cells (the last first) have ended with these notes, one for each, in that order
abbrev pub AreEnds : Claims → ℕ → List ℕ → List Note → Parts → Type 0
AreEnds cs c [] [] x = Unit {0}
AreEnds cs c (k ∷ ks) (n ∷ ns) x = EndsAs cs c k n x × AreEnds cs c ks ns x
AreEnds cs c _ _ x = ⊥

-- the consumer stands before the link of the last cell that it met on lane p, or before the head if it met none. Its
-- claims on the cells that it met there have ended, each as its note says
pub record ConsumerIsBefore (cs : Claims) (c p : ℕ) (x : Parts) (notes : List Note) (at : Cursor)
    : Type 0 where
  pub word : word_of at ≡ place_past p (cells_met p x.reads)
  pub ended : AreEnds cs c (cells_met p x.reads) (reverse notes) x

-- the consumer holds a claim on cell k, the last that it met on lane p, and has loaded neither the item nor the link
-- there. That cell has no note. The consumer's claims on the cells met before have ended, each as its note says
pub record ConsumerIsAt (layout : Layout) (cs : Claims) (c p : ℕ) (x : Parts) (notes : List Note) (k : ℕ)
    (claim : Claim) : Type 0 where
  pub cells : List ℕ
  pub met : cells_met p x.reads ≡ k ∷ cells
  pub ended : AreEnds cs c cells (reverse notes) x
  pub own : consumer_of claim ≡ c
  pub path : IsClaimIn layout claim (x.claimed k)
  pub unnoted : note_of (claim_stage claim) ≡ None
  pub left : HasNotPassed k x

-- consumer c stands at this place on lane p, by its parts and its notes there
abbrev pub StandsOn : Layout → Claims → ℕ → ℕ → Parts → List Note → Place → Type 0
StandsOn layout cs c p x notes (Before at) = ConsumerIsBefore cs c p x notes at
StandsOn layout cs c p x notes (At k claim) = ConsumerIsAt layout cs c p x notes k claim

-- this holds of each consumer
pub record IsConsumer (s : ConsumerView) : Type 0 where
  -- the consumer knows the size of its table of claims
  pub size : TableSize
  pub table : s.seat.table.size ≡ Some size
  -- the reader's seat has the same number as the seat of the claims
  pub same : s.reader.reader ≡ s.seat.consumer
  -- the two parts of the consumer fit each other
  pub fit : Fits (claims_in size.layout size.cells) s.seat.consumer (parts_of s.reader s.seat)
  -- it has a place and a list of notes for each lane, which agree with its two parts
  pub places_count : length s.places ≡ s.reader.table.size.lanes
  pub notes_count : length s.notes ≡ s.reader.table.size.lanes
  pub lanes : (p : ℕ) (place : Place) (notes : List Note) → slice_get s.places p ≡ Some place
      → slice_get s.notes p ≡ Some notes
      → StandsOn size.layout (claims_in size.layout size.cells) s.seat.consumer p
      (parts_of s.reader s.seat) notes place

-- the consumer is one of the mailbox
pub record IsConsumerOf (m : MailboxView) (s : ConsumerView) : Type 0 where
  pub cells : s.reader.table ≡ m.cells
  pub claims : s.seat.table ≡ name_of m.claims
