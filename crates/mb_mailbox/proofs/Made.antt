-- The calls of the two tables make the steps of a consumer. This follows from the contracts of these calls.
use Rattle.std.proofs.Common.{◌≡◌, ◌<◌, ℕ, List, refl, sym, ap, ◌∙◌, subst, arith}
use Rattle.std.specs.Prelude.{Option, Some, None, slice_set}
use Rattle.mb_claim.specs.declared.access.Stage.TheVariants as stage
use Rattle.mb_cells.specs.declared.answer.Look.{Look}
use Rattle.mb_shared_cells.specs.Vocabulary.{ItemMakes, LookMakes}
use Rattle.mb_mailbox.specs.Imports.{CellsName, ClaimAccess, ClaimTable, Cursor, History, Item, Look, Note, ReaderSeatView, SeatView, Stage, Stream}
use Rattle.mb_mailbox.specs.Imports.{ToCells, ToClaims, Took, claims_at, consumer_count, load, look_of, next_u64, note_of, with_access, word_of}
use Rattle.mb_mailbox.specs.declared.consumer.Poll.{Poll}
use Rattle.mb_mailbox.specs.declared.consumer.Poll.TheVariants as poll
use Rattle.mb_mailbox.specs.Consumers.{ConsumerView, IsConsumerOf, parts_of}
use Rattle.mb_mailbox.specs.Mailboxes.{MailboxView}
use Rattle.mb_mailbox.specs.Moves.{moved_to}
use Rattle.mb_mailbox.specs.LaneNotes.{NotesView}
use Rattle.mb_mailbox.specs.NoteLists.{HasAllRoom, NotesGrow}
use Rattle.mb_mailbox.specs.ConsumerStep.{ConsumerStep, link_answer, stage_answer}
use Rattle.mb_mailbox.specs.Steps.{IsStep, note_with, with_note}
use Rattle.mb_world.specs.declared.place.Place.{Place}

-- the consumer with these seats, places and notes
abbrev pub at_views : ReaderSeatView → SeatView → List Place → List (List Note) → ConsumerView
at_views reader seat places notes = record { reader = reader; seat = seat; places = places; notes = notes }

-- what holds of `moved_to`, the consumer after its move, holds of the consumer with the same seats, places and notes
pub moved_has : (P : ConsumerView → Type 0)
    → (s : ConsumerView) (p : ℕ) (place : Place) (o : Option Note) (reads : History)
    (made : List ClaimAccess)
    (reader : ReaderSeatView) (seat : SeatView) (places : List Place) (notes : List (List Note))
    → P (moved_to p place o reads made s)
    → reader ≡ record s.reader { part = reads } → seat ≡ record s.seat { part = made }
    → places ≡ slice_set s.places p place → notes ≡ with_note p o s.notes
    → P (at_views reader seat places notes)
moved_has P s p place o reads made reader seat places notes done e f g h =
    subst P (λ i. at_views (sym e i) (sym f i) (sym g i) (sym h i)) done

-- ---- loads of links
-- a load of the link before which the consumer stands is a step
pub look_made : (s old : ConsumerView) (p : ℕ) (at : Cursor) (reader : ReaderSeatView)
    (places : List Place) (l : Look) (answer : Option Poll)
    → s ≡ old → LookMakes s.reader at l reader → answer ≡ link_answer l → note_with answer ≡ None
    → ((v : ℕ) → ConsumerStep (claims_at s.seat.table) s.seat.consumer p (parts_of s.reader s.seat)
    (ToCells (load s.reader.reader (word_of at) v)) (link_answer (look_of v)))
    → (t : Stream) → IsStep p answer t t old (at_views reader s.seat places s.notes)
look_made s old p at reader places l answer is m e quiet next t =
    subst (λ o. IsStep p answer t t o (at_views reader s.seat places s.notes)) is
    (record {
      access = ToCells (load s.reader.reader (word_of at) m.0);
      done = record { reader = m.2.1; seat = refl; notes = sym (ap (λ o. with_note p o s.notes) quiet) };
      leads = (
        subst (λ o. ConsumerStep (claims_at s.seat.table) s.seat.consumer p
            (parts_of s.reader s.seat) (ToCells (load s.reader.reader (word_of at) m.0)) o)
            (sym (e ∙ ap link_answer m.1)) (next m.0),
        refl,
      );
      drawn = refl;
    })

-- ---- loads of items
-- a load of the item of a claim that is won is a step
pub item_made : (s old : ConsumerView) (p k v : ℕ) (reader : ReaderSeatView) (places : List Place)
    (notes : List (List Note))
    → s ≡ old → ItemMakes s.reader k v reader → notes ≡ with_note p (Some (Took v)) s.notes
    → ConsumerStep (claims_at s.seat.table) s.seat.consumer p (parts_of s.reader s.seat)
    (ToCells (load s.reader.reader (Item k) v)) (Some (poll.Took v))
    → (t : Stream) → IsStep p (Some (poll.Took v)) t t old (at_views reader s.seat places notes)
item_made s old p k v reader places notes is m put next t =
    subst (λ o. IsStep p (Some (poll.Took v)) t t o (at_views reader s.seat places notes)) is
    (record {
      access = ToCells (load s.reader.reader (Item k) v);
      done = record { reader = m.1; seat = refl; notes = put };
      leads = (next, refl);
      drawn = refl;
    })

-- ---- accesses of claims
-- the note that comes with the answer of a claim's access is the note of the claim's stage
note_of_answer : (st : Stage) → note_with (stage_answer st) ≡ note_of st
note_of_answer stage.Going = refl
note_of_answer stage.Won = refl
note_of_answer (stage.Lost w) = refl
note_of_answer stage.Undecided = refl

-- an access of the consumer's claim is a step, which draws one random word
pub claim_made : (s old : ConsumerView) (p word : ℕ) (a : ClaimAccess) (st : Stage)
    (seat : SeatView) (places : List Place)
    (notes : List (List Note)) (answer : Option Poll) → s ≡ old → seat ≡ with_access a s.seat → a.step.turn.word ≡ word
    → answer ≡ stage_answer st → notes ≡ with_note p (note_of st) s.notes
    → ConsumerStep (claims_at s.seat.table) s.seat.consumer p (parts_of s.reader s.seat) (ToClaims a) (stage_answer st)
    → (t u : Stream) → (word, u) ≡ next_u64 t
    → IsStep p answer t u old (at_views s.reader seat places notes)
claim_made s old p word a st seat places notes answer is made drawn_word tells put next t u drawn =
    subst (λ o. IsStep p answer t u o (at_views s.reader seat places notes)) is
    (record {
      access = ToClaims a;
      done = record {
        reader = refl;
        seat = made;
        notes = put ∙ ap (λ o. with_note p o s.notes)
            (sym (note_of_answer st) ∙ ap note_with (sym tells));
      };
      leads = (
        subst (λ o. ConsumerStep (claims_at s.seat.table) s.seat.consumer p
            (parts_of s.reader s.seat) (ToClaims a) o) (sym tells) next,
        refl,
      );
      drawn = (t, refl, subst (λ w. (w, u) ≡ next_u64 t) (sym drawn_word) drawn);
    })

-- ---- room for notes
-- if there was room for as many notes as cells, there still is after the notes have grown by one, or by none
pub room_stays : (p cells : ℕ) (o : Option Note) (old new : NotesView) → NotesGrow p o old new
    → HasAllRoom cells old → HasAllRoom cells new
room_stays p cells o old new g wide = let same = g.room in omega (arith, same, wide)

-- ---- a consumer of the mailbox
-- the consumer's table of claims has the size of the mailbox's. By `cells_size` this holds of its table of cells, too
pub claims_size : (m : MailboxView) (s now : ConsumerView) → s ≡ now → IsConsumerOf m now
    → s.seat.table.size ≡ Some (record { layout = m.claims.layout; cells = m.claims.cells })
claims_size m s now is belongs =
    ap (λ (v : ConsumerView). v.seat.table.size) is ∙ ap (λ (t : ClaimTable). t.size) belongs.claims

pub cells_size : (m : MailboxView) (s now : ConsumerView) → s ≡ now → IsConsumerOf m now
    → s.reader.table.size ≡ m.cells.size
cells_size m s now is belongs =
    ap (λ (v : ConsumerView). v.reader.table.size) is ∙ ap (λ (t : CellsName). t.size) belongs.cells

-- if the consumer's number is below the number of values of its table, it is below the mailbox's number of consumers
pub known_in : (m : MailboxView) (s now : ConsumerView) → s ≡ now → IsConsumerOf m now
    → (n : ℕ) → n ≡ s.seat.consumer → n < (claims_at s.seat.table).table.values
    → s.seat.consumer < consumer_count m.claims.layout
known_in m s now is belongs n exact known =
    subst (λ (t : ClaimTable). s.seat.consumer < (claims_at t).table.values)
    (ap (λ (v : ConsumerView). v.seat.table) is ∙ belongs.claims)
    (subst (λ x. x < (claims_at s.seat.table).table.values) exact known)
