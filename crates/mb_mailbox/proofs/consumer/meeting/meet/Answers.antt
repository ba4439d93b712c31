-- Proof of `meet`: loads the link at a cursor before which the consumer stands.
use Rattle.std.proofs.Common.{[], ◌≡◌, ◌≢◌, ◌∙◌, ◌+◌, ◌<◌, ℕ, ap, refl, subst, sym}
use Rattle.std.specs.Prelude.{None, Some, slice_set}
use Rattle.mb_cells.specs.Vocabulary.{look_of}
use Rattle.mb_shared_cells.specs.Vocabulary.{LookMakes}
use Rattle.mb_world.specs.declared.place.Place.{TheVariants.At, TheVariants.Before}
use Rattle.mb_mailbox.specs.Imports.{END, IsAccessAfter, IsClaimIn, Look, MayRead, PoolSize, TableSize, consumer_count, load, word_of}
use Rattle.mb_mailbox.specs.Consumers.{ConsumerView, IsConsumer}
use Rattle.mb_mailbox.specs.{ConsumerStep.link_answer, Mailboxes.MailboxView}
use Rattle.mb_mailbox.specs.Moves.{HasPlace, reads_with_link}
use Rattle.mb_mailbox.specs.Pursuits.{at_link, with_fields}
use Rattle.mb_mailbox.proofs.Beginnings.{standing_going, standing_own}
use Rattle.mb_mailbox.proofs.Lists.{get_some, set_here, set_same, set_twice, some_same}
use Rattle.mb_mailbox.proofs.Made.{at_views, cells_size, claims_size, known_in, look_made, moved_has}
use Rattle.mb_mailbox.proofs.Meeting.{look_tells, no_cell, quiet}
use Rattle.mb_mailbox.proofs.Polls.{history_extends}
use Rattle.mb_mailbox.proofs.consumer.meeting.meet.{Given.Over, Goals.After-consumer, Goals.After-has_history}
use Rattle.mb_mailbox.proofs.consumer.meeting.meet.Goals as goal

module _ (g : Over) (c : After-has_history g) where
  -- the consumer, which stands before the link
  abbrev seen : ConsumerView
  seen = at_link c.args.lane c.args.at (with_fields c.args.fields.now)

  place_is : HasPlace c.args.lane (Before c.args.at) seen
  place_is =
      let there = get_some c.args.fields.now.places.items c.args.lane c.requires.lane in
      set_here c.args.fields.now.places.items c.args.lane (Before c.args.at) there.0 there.1

pub link-requires-clause-may : goal.link-requires-clause-may
link-requires-clause-may g c =
    let at = (goal.at.link-requires-clause-may g c).After-has_history in
    let f = with_fields c.args.fields.now in
    let size : f.reader.table.size ≡ c.mailbox.inside.cells.size =
    cells_size c.args.mailbox.now f f refl c.requires.belongs
    ∙ sym (ap (λ (v : MailboxView). v.cells.size) c.mailbox.view_is) in
    subst (λ (z : PoolSize). MayRead z.lanes (word_of c.args.at) f.reader.part) size
    (c.consumers_move_on.ensures.may_look (seen g at) c.args.lane c.args.at c.requires.is c.has_history.ensures
    (place_is g at))

pub returns-clause-looks : goal.returns-clause-looks
returns-clause-looks g c places t =
    let at = (goal.at.returns-clause-looks g c).After-has_history in
    let s = seen g at in
    history_extends c.args.lane (link_answer (look_of c.link.result)) t t s
    (at_views c.link.new.seat s.seat places s.notes)
    (look_made s s c.args.lane c.args.at c.link.new.seat places (look_of c.link.result)
    (link_answer (look_of c.link.result)) refl c.link.ensures.makes refl (quiet (look_of c.link.result))
    (λ v. c.places_tell_steps.ensures.looks s c.args.lane v c.args.at c.requires.is (place_is g at)) t)

pub returns-clause-waits : goal.returns-clause-waits
returns-clause-waits g c some =
    let at = (goal.at.returns-clause-waits g c).After-has_history in
    let s = seen g at in
    let m = c.link.ensures.makes in
    let none = no_cell c.looks_tell_links.ensures.nothing c.looks_tell_links.ensures.ended
    (look_of c.link.result) m.0 m.1 some in (
      moved_has IsConsumer s c.args.lane (Before c.args.at) None (reads_with_link s c.args.at m.0) s.seat.part
          c.link.new.seat s.seat s.places s.notes
          (c.consumers_move_on.ensures.waits s c.args.lane m.0 c.args.at c.requires.is c.has_history.ensures
          (place_is g at) none) m.2.1 refl (sym (set_same s.places c.args.lane (Before c.args.at)
          (place_is g at))) refl,
      look_tells c.args.lane c.args.at s (record s { reader = c.link.new.seat }) c.link.new.seat
          (c.answers_tell_lanes.ensures.nothing s c.args.lane c.args.at c.link.new.seat c.requires.is
          c.has_history.ensures (place_is g at))
          (c.answers_tell_lanes.ensures.ended s c.args.lane c.args.at c.link.new.seat c.requires.is
          c.has_history.ensures (place_is g at)) (look_of c.link.result) m some,
    )

pub returns-clause-finds : goal.returns-clause-finds
returns-clause-finds g c k found =
    let at = (goal.at.returns-clause-finds g c).After-has_history in
    let s = seen g at in
    let f = with_fields c.args.fields.now in
    let layout = c.args.mailbox.now.claims.layout in
    let d = s.seat.consumer in
    let known : d < consumer_count layout =
    known_in c.args.mailbox.now f f refl c.requires.belongs c.consumer.result c.consumer.ensures.exact
    c.consumer.ensures.known in
    let new = c.claims_begin_objects.ensures.new layout d known in
    let m = subst (λ (l : Look). LookMakes s.reader c.args.at l c.link.new.seat) found c.link.ensures.makes in
    let is = c.looks_tell_links.ensures.cell m.0 k (sym m.1) in
    let real : k + 1 ≢ END = λ z. is.1 (is.0 ∙ z) in
    let comes = subst (λ n. IsAccessAfter s.reader.table.size s.reader.known
    (load s.reader.reader (word_of c.args.at) n) s.reader.part) is.0 m.2.0 in
    let size : TableSize = record { layout = layout; cells = c.args.mailbox.now.claims.cells } in
    let is_size = claims_size c.args.mailbox.now f f refl c.requires.belongs in
    let turns = λ (z : TableSize) (there : s.seat.table.size ≡ Some z).
    subst (λ (y : TableSize). IsClaimIn y.layout new.0 []) (some_same size z (sym is_size ∙ there)) new.2 in
    let done = c.consumers_move_on.ensures.finds s c.args.lane k c.args.at new.0
    c.requires.is c.has_history.ensures (place_is g at) real comes
    (standing_own layout d 0 d new.0 new.1) (standing_going layout d 0 d new.0 new.1) turns in
    let there : c.link.new.seat ≡ record s.reader { part = reads_with_link s c.args.at (k + 1) } =
    m.2.1 ∙ ap (λ (n : ℕ). record s.reader { part = reads_with_link s c.args.at n }) is.0 in
    record {
      lane = c.requires.lane;
      claim = new.0;
      standing = new.1;
      is = moved_has IsConsumer s c.args.lane (At k new.0) None (reads_with_link s c.args.at (k + 1))
          s.seat.part c.link.new.seat s.seat
          (slice_set f.places c.args.lane (At k new.0)) s.notes done there refl
          (sym (set_twice f.places c.args.lane (Before c.args.at) (At k new.0))) refl;
    }

pub returns-clause-within : goal.returns-clause-within
returns-clause-within g c k e = (
  (c.looks_tell_links.ensures.cell c.link.result k e).0,
  subst (λ (z : PoolSize). k < z.cells) (ap (λ (v : MailboxView). v.cells.size) c.mailbox.view_is)
      (c.link.ensures.within k e),
)
