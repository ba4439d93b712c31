-- `IsConsumer` holds of a consumer that has done nothing.
use Rattle.std.proofs.Common.{◌≡◌, ℕ, List, [], refl, sym, ◌∙◌, subst}
use Rattle.mb_shared_cells.specs.Vocabulary.{PartList}
use Rattle.mb_world.specs.PartSteps.{no_parts}
use Rattle.mb_mailbox.specs.Imports.{Claims, Fits, Note, ReaderSeatView, SeatView, claims_in, name_of}
use Rattle.mb_mailbox.specs.Consumers.{IsConsumer, StandsOn, parts_of}
use Rattle.mb_mailbox.specs.LaneNotes.{NotesView}
use Rattle.mb_mailbox.specs.Mailboxes.{MailboxView}
use Rattle.mb_mailbox.specs.NewConsumers.{AreHeads, AreNoNotes}
use Rattle.mb_world.specs.declared.place.Place.{Place}
use Rattle.mb_mailbox.proofs.Made.{at_views}

-- the seats of consumer n that has done nothing: its reader's, and by `new_seat` the one of the claims
abbrev pub new_reader : MailboxView → ℕ → PartList → ReaderSeatView
new_reader m n known = record { table = m.cells; reader = n; known = known; part = [] }

abbrev pub new_seat : MailboxView → ℕ → SeatView
new_seat m n = record { table = name_of m.claims; consumer = n; part = [] }

module _ (lanes cells : ℕ) (fresh : NotesView) (none : AreNoNotes lanes cells fresh) where
  -- `IsConsumer` holds of a consumer that has done nothing
  pub is_new : ((cs : Claims) (c : ℕ) → Fits cs c no_parts)
      → (m : MailboxView) (n : ℕ) (known : PartList) (places : List Place) → AreHeads lanes places
      → lanes ≡ m.cells.size.lanes → IsConsumer (at_views (new_reader m n known) (new_seat m n) places fresh.lists)
  is_new fits m n known places heads wide = record {
    size = record { layout = m.claims.layout; cells = m.claims.cells };
    table = refl;
    same = refl;
    fit = fits (claims_in m.claims.layout m.claims.cells) n;
    places_count = heads.count ∙ wide;
    notes_count = none.count ∙ wide;
    lanes = λ p place notes e f.
        subst (λ (z : Place × List Note). StandsOn m.claims.layout (claims_in m.claims.layout m.claims.cells) n p
        (parts_of (new_reader m n known) (new_seat m n)) z.1 z.0)
        (λ j. (sym (heads.each p place e) j, sym (none.empty p notes f) j))
        (record { word = refl; ended = tt });
  }
