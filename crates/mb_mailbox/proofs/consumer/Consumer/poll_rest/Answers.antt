use Rattle.std.proofs.Common.{[], ◌≡◌, ◌∙◌, ◌+◌, ◌-◌, ◌<◌, ◌≤◌, ◌≢◌, ◌⊎◌, ℕ, List, ap, arith, inl, inr, refl, subst, sym}
use Rattle.std.specs.Prelude.{None, Option, Some, slice_set}
use Rattle.std.proofs.lemmas.Option.{slice_get_within}
use Rattle.mb_cells.specs.declared.answer.Look.TheVariants as look
use Rattle.mb_mailbox.specs.declared.consumer.Poll.TheVariants as poll
use Rattle.mb_shared_cells.specs.Vocabulary.{LookMakes}
use Rattle.mb_world.specs.declared.place.Place.{Place, TheVariants.At, TheVariants.Before}
use Rattle.mb_mailbox.specs.Imports.{Claim, END, IsAccessAfter, IsClaimIn, IsStanding, Look, MayRead, PoolSize, ReaderSeatView, TableSize, consumer_count, load, word_of}
use Rattle.mb_mailbox.specs.Consumers.{ConsumerView, IsConsumer, IsConsumerOf}
use Rattle.mb_mailbox.specs.{ConsumerStep.link_answer, Jobs.accesses_made, Mailboxes.MailboxView}
use Rattle.mb_mailbox.specs.{Came.PollCameTo, declared.consumer.Poll.Poll, Steps.{AnswerTells, AreSteps, note_with, outcome}}
use Rattle.mb_mailbox.specs.{Moves.{HasPlace, reads_with_link}, Pursuits.{IsPursuit, with_fields}}
use Rattle.mb_mailbox.proofs.Beginnings.{standing_going, standing_own}
use Rattle.mb_mailbox.proofs.Ending.{left_by, pursuit_came, still_of}
use Rattle.mb_mailbox.proofs.Grown.{steps_grow}
use Rattle.mb_mailbox.proofs.Lists.{set_same, some_same}
use Rattle.mb_mailbox.proofs.Made.{at_views, cells_size, claims_size, known_in, look_made, moved_has}
use Rattle.mb_mailbox.proofs.{Polls.{no_steps, history_extends, poll_came, poll_of}, Telling.tells_none}
use Rattle.mb_mailbox.proofs.consumer.Consumer.poll_rest.{Given.Over, Goals.After-consumer, Goals.After-look}
use Rattle.mb_mailbox.proofs.consumer.Consumer.poll_rest.Goals as goal

-- a poll of a consumer that holds a claim on the lane: `run_held` goes on with it
module _ (g : Over) (c : goal.After-run_held g) where
  -- `at_claim` is the consumer before the poll, and `past_claim` after it
  abbrev at_claim : ConsumerView
  at_claim = with_fields c.self.inside.fields

  abbrev past_claim : ConsumerView
  past_claim = with_fields c.run_held.new.fields

  -- after no access `IsPursuit` holds: the whole poll goes on with the claim
  goes_on : IsPursuit c.args.lane 0 c.args.left.now c.run_held.new.left c.run_held.result
      (g.R.Rng.stream c.args.rng.now)
      (g.R.Rng.stream c.run_held.new.rng) at_claim past_claim
  goes_on =
      c.run_held.ensures.pursued at_claim 0 (g.R.Rng.stream c.args.rng.now)
      (no_steps c.args.lane (g.R.Rng.stream c.args.rng.now) at_claim)

-- a poll of a consumer that stands before a link, after its load of that link
module _ (g : Over) (c : After-look g) where
  -- `seen` is the consumer before the load, and `looked` after it
  abbrev seen : ConsumerView
  seen = with_fields c.self.inside.fields

  abbrev looked : ConsumerView
  looked = at_views c.look.new.seat seen.seat seen.places seen.notes

  -- the consumer stands before the link
  place_is : HasPlace c.args.lane (Before c.in-Before.at) seen
  place_is = c.place_at.ensures ∙ ap (λ (z : Place). Some z) c.in-Before.is

  -- the load is one step on the lane, whatever the places are after it
  look_steps : (places : List Place) (l : Look) → LookMakes seen.reader c.in-Before.at l c.look.new.seat
      → note_with (link_answer l) ≡ None
      → AreSteps c.args.lane 1 (link_answer l) (g.R.Rng.stream c.args.rng.now) (g.R.Rng.stream c.args.rng.now)
      c.args.self.now (at_views c.look.new.seat seen.seat places seen.notes)
  look_steps places l m quiet =
      history_extends c.args.lane (link_answer l) (g.R.Rng.stream c.args.rng.now) (g.R.Rng.stream c.args.rng.now)
      c.args.self.now (at_views c.look.new.seat seen.seat places seen.notes)
      (look_made seen c.args.self.now c.args.lane c.in-Before.at c.look.new.seat places l (link_answer l) c.self.view_is
      m refl quiet (λ v. c.places_tell_steps.ensures.looks seen c.args.lane v c.in-Before.at c.self.invariant.0
      place_is) (g.R.Rng.stream c.args.rng.now))

  -- if the link leads to no cell, the load is the poll, and `look_count` says what it leaves of the budget
  look_count : (l : Look) → LookMakes seen.reader c.in-Before.at l c.look.new.seat → note_with (link_answer l) ≡ None
      → accesses_made looked + (c.args.left.now - 1) ≡ accesses_made c.args.self.now + c.args.left.now
  look_count l m quiet =
      let grown = steps_grow c.args.lane 1 (link_answer l) (g.R.Rng.stream c.args.rng.now)
      (g.R.Rng.stream c.args.rng.now) c.args.self.now looked (look_steps seen.places l m quiet) in
      omega (arith, grown, c.if-left-eq0.false)

  look_came : (l : Look) (x : Poll) → LookMakes seen.reader c.in-Before.at l c.look.new.seat
      → note_with (link_answer l) ≡ None → link_answer l ≡ outcome x
      → x ≢ poll.NoLane → x ≢ poll.Spent → x ≢ poll.Undecided → AnswerTells c.args.lane (link_answer l) seen looked
      → PollCameTo c.args.mailbox.now c.args.lane c.args.left.now x (g.R.Rng.stream c.args.rng.now)
      (g.R.Rng.stream c.args.rng.now) c.args.self.now looked
  look_came l x m quiet is some unspent over tells =
      let words = g.R.Rng.stream c.args.rng.now in
      poll_came c.args.mailbox.now c.args.lane c.args.left.now x words words c.args.self.now looked c.requires.lane some
      (poll_of c.args.lane 1 c.args.left.now x words words c.args.self.now looked
      (subst (λ y. AreSteps c.args.lane 1 y words words c.args.self.now looked) is (look_steps seen.places l m quiet))
      (omega (arith, c.if-left-eq0.false)) (λ e. absurd (unspent e))) (λ more. unspent) (λ last. over)
      (subst (λ (z : Option Poll × ConsumerView). AnswerTells c.args.lane z.0 z.1 looked)
      (λ j. (is j, c.self.view_is j)) tells)

  -- if the link leads to no cell, `IsConsumer` still holds, and there still is room for a note on each cell
  waits : (v : ℕ) → (v ≡ 0) ⊎ (v ≡ END)
      → c.look.new.seat ≡ record seen.reader { part = reads_with_link seen c.in-Before.at v }
      → IsConsumer looked × (c.look.new.seat.table.size.cells ≤ c.self.inside.fields.notes.room)
  waits v quiet there = (
    moved_has IsConsumer seen c.args.lane (Before c.in-Before.at) None (reads_with_link seen c.in-Before.at v)
        seen.seat.part c.look.new.seat seen.seat seen.places seen.notes
        (c.consumers_move_on.ensures.waits seen c.args.lane v c.in-Before.at c.self.invariant.0 c.has_history.ensures
        place_is quiet) there refl (sym (set_same seen.places c.args.lane (Before c.in-Before.at) place_is)) refl,
    subst (λ (r : ReaderSeatView). r.table.size.cells ≤ c.self.inside.fields.notes.room) (sym there) c.self.invariant.1,
  )

-- a poll whose load found a cell, so that the consumer makes a new claim there
module _ (g : Over) (c : After-consumer g) where
  -- the consumer's number is one of the mailbox's
  known : c.self.inside.fields.seat.consumer < consumer_count c.args.mailbox.now.claims.layout
  known =
      known_in c.args.mailbox.now (with_fields c.self.inside.fields) c.args.self.now c.self.view_is c.requires.belongs
      c.consumer.result c.consumer.ensures.exact c.consumer.ensures.known

  -- the new claim, which stands before the first object and has made no access
  first : (claim : Claim)
      × IsStanding c.args.mailbox.now.claims.layout c.self.inside.fields.seat.consumer 0
      c.self.inside.fields.seat.consumer claim
      × IsClaimIn c.args.mailbox.now.claims.layout claim []
  first = c.claims_begin_objects.ensures.new c.args.mailbox.now.claims.layout c.self.inside.fields.seat.consumer known

-- the same poll, after the accesses of the new claim
module _ (g : Over) (c : goal.After-run_new g) where
  -- the consumer after the poll
  abbrev past_new : ConsumerView
  past_new = with_fields c.run_new.new.fields

  -- after one access, the load of the link, `IsPursuit` holds: the rest of the poll makes the claim's accesses
  goes_on_new : IsPursuit c.args.lane 1 (c.args.left.now - 1) c.run_new.new.left c.run_new.result
      (g.R.Rng.stream c.args.rng.now)
      (g.R.Rng.stream c.run_new.new.rng) c.args.self.now past_new
  goes_on_new =
      let new = first g (goal.at.returns-clause-belongs g c).After-consumer in
      c.run_new.ensures.pursued c.args.self.now 1 (g.R.Rng.stream c.args.rng.now) new.0 new.1
      (look_steps g (goal.at.returns-clause-belongs g c).After-look
      (slice_set c.self.inside.fields.places.items c.args.lane (At c.in-Cell.cell new.0))
      (look.Cell c.in-Cell.cell) c.in-Cell.ensures.makes refl)

-- The clauses in `At` are of a poll that goes on with a held claim. Those in `Nothing` and `Ended` are of a link that
-- leads to no cell. The others are of a new claim
pub run_held-requires-clause-held : goal.run_held-requires-clause-held
run_held-requires-clause-held g c = record {
  cell = c.in-At.cell;
  claim = c.in-At.claim;
  place = c.place_at.ensures ∙ ap (λ (z : Place). Some z) c.in-At.is;
}

pub returns-then-left-eq0-clause-came : goal.returns-then-left-eq0-clause-came
returns-then-left-eq0-clause-came g c =
    let none = c.if-left-eq0.true in
    let words = g.R.Rng.stream c.args.rng.now in
    let old = c.args.self.now in
    poll_came c.args.mailbox.now c.args.lane c.args.left.now poll.Spent words words old old c.requires.lane (λ e. cc)
    (poll_of c.args.lane 0 c.args.left.now poll.Spent words words old old (no_steps c.args.lane words old)
    (omega arith) (λ e. omega (arith, none))) (λ more. absurd (omega (arith, more, none))) (λ last e. cc)
    (tells_none c.args.lane old old)

pub invariant_of-self : goal.invariant_of-self
invariant_of-self g c = ((goes_on g c).is, c.run_held.ensures.wide)

pub returns-in-At-clause-came : goal.returns-in-At-clause-came
returns-in-At-clause-came g c =
    let sum : c.args.left.now + 0 ≡ c.args.left.now = omega arith in
    pursuit_came c.args.mailbox.now c.args.lane 0 c.args.left.now c.run_held.new.left c.args.left.now c.run_held.result
    (g.R.Rng.stream c.args.rng.now) (g.R.Rng.stream c.run_held.new.rng) (at_claim g c) c.args.self.now (past_claim g c)
    c.requires.lane sum c.self.view_is (goes_on g c)
    (λ more spent.
    let few = c.run_held.ensures.few c.in-At.cell c.in-At.claim
    (c.place_at.ensures ∙ ap (λ (z : Place). Some z) c.in-At.is) spent
    in absurd (omega (arith, more, few)))
    c.run_held.ensures.decided

pub returns-in-At-clause-belongs : goal.returns-in-At-clause-belongs
returns-in-At-clause-belongs g c =
    still_of c.args.mailbox.now c.args.lane 0 c.args.left.now c.run_held.new.left c.run_held.result
    (g.R.Rng.stream c.args.rng.now) (g.R.Rng.stream c.run_held.new.rng)
    (at_claim g c) (past_claim g c) (goes_on g c)
    (subst (λ o. IsConsumerOf c.args.mailbox.now o) (sym c.self.view_is) c.requires.belongs)

pub look-requires-clause-may : goal.look-requires-clause-may
look-requires-clause-may g c =
    let s = with_fields c.self.inside.fields in
    let e = c.place_at.ensures ∙ ap (λ (z : Place). Some z) c.in-Before.is in
    let size : s.reader.table.size ≡ c.mailbox.inside.cells.size =
    cells_size c.args.mailbox.now s c.args.self.now c.self.view_is c.requires.belongs
    ∙ sym (ap (λ (v : MailboxView). v.cells.size) c.mailbox.view_is) in
    subst (λ (z : PoolSize). MayRead z.lanes (word_of c.in-Before.at) s.reader.part) size
    (c.consumers_move_on.ensures.may_look s c.args.lane c.in-Before.at c.self.invariant.0 c.has_history.ensures e)

pub invariant_of-self-in-Nothing : goal.invariant_of-self-in-Nothing
invariant_of-self-in-Nothing g c =
    let m = c.in-Nothing.ensures.makes in
    waits g (goal.at.invariant_of-self-in-Nothing g c).After-look m.0
    (inl (c.looks_tell_links.ensures.nothing m.0 (sym m.1))) m.2.1

pub returns-in-Nothing-clause-came : goal.returns-in-Nothing-clause-came
returns-in-Nothing-clause-came g c =
    let at = (goal.at.returns-in-Nothing-clause-came g c).After-look in
    look_came g at look.Nothing poll.Nothing c.in-Nothing.ensures.makes refl refl (λ e. cc) (λ e. cc) (λ e. cc)
    (c.answers_tell_lanes.ensures.nothing (seen g at) c.args.lane c.in-Before.at c.look.new.seat
    c.self.invariant.0 c.has_history.ensures (place_is g at) c.in-Nothing.ensures.makes)

pub returns-in-Nothing-clause-left : goal.returns-in-Nothing-clause-left
returns-in-Nothing-clause-left g c =
    look_count g (goal.at.returns-in-Nothing-clause-left g c).After-look look.Nothing c.in-Nothing.ensures.makes refl

pub invariant_of-self-in-Ended : goal.invariant_of-self-in-Ended
invariant_of-self-in-Ended g c =
    let m = c.in-Ended.ensures.makes in
    waits g (goal.at.invariant_of-self-in-Ended g c).After-look m.0
    (inr (c.looks_tell_links.ensures.ended m.0 (sym m.1))) m.2.1

pub returns-in-Ended-clause-came : goal.returns-in-Ended-clause-came
returns-in-Ended-clause-came g c =
    let at = (goal.at.returns-in-Ended-clause-came g c).After-look in
    look_came g at look.Ended poll.Ended c.in-Ended.ensures.makes refl refl (λ e. cc) (λ e. cc) (λ e. cc)
    (c.answers_tell_lanes.ensures.ended (seen g at) c.args.lane c.in-Before.at c.look.new.seat
    c.self.invariant.0 c.has_history.ensures (place_is g at) c.in-Ended.ensures.makes)

pub returns-in-Ended-clause-left : goal.returns-in-Ended-clause-left
returns-in-Ended-clause-left g c =
    look_count g (goal.at.returns-in-Ended-clause-left g c).After-look look.Ended c.in-Ended.ensures.makes refl

pub run_new-requires-clause-held : goal.run_new-requires-clause-held
run_new-requires-clause-held g c =
    let s = with_fields c.self.inside.fields in
    let e = c.place_at.ensures ∙ ap (λ (z : Place). Some z) c.in-Before.is in
    let m = c.in-Cell.ensures.makes in
    let k = c.in-Cell.cell in
    let new = first g (goal.at.run_new-requires-clause-held g c).After-consumer in
    let layout = c.args.mailbox.now.claims.layout in
    let d = s.seat.consumer in
    let is = c.looks_tell_links.ensures.cell m.0 k (sym m.1) in
    let real : k + 1 ≢ END = λ z. is.1 (is.0 ∙ z) in
    let comes = subst (λ n. IsAccessAfter s.reader.table.size s.reader.known
    (load s.reader.reader (word_of c.in-Before.at) n) s.reader.part) is.0 m.2.0 in
    let size : TableSize = record { layout = layout; cells = c.args.mailbox.now.claims.cells } in
    let is_size = claims_size c.args.mailbox.now s c.args.self.now c.self.view_is c.requires.belongs in
    let turns = λ (z : TableSize) (there : s.seat.table.size ≡ Some z).
    subst (λ (y : TableSize). IsClaimIn y.layout new.0 []) (some_same size z (sym is_size ∙ there)) new.2 in
    let done = c.consumers_move_on.ensures.finds s c.args.lane k c.in-Before.at new.0
    c.self.invariant.0 c.has_history.ensures e real comes
    (standing_own layout d 0 d new.0 new.1) (standing_going layout d 0 d new.0 new.1) turns in
    let there : c.look.new.seat ≡ record s.reader { part = reads_with_link s c.in-Before.at (k + 1) } =
    m.2.1 ∙ ap (λ (n : ℕ). record s.reader { part = reads_with_link s c.in-Before.at n }) is.0 in
    record {
      lane = slice_get_within s.places c.args.lane (Before c.in-Before.at) e;
      claim = new.0;
      standing = new.1;
      is = moved_has IsConsumer s c.args.lane (At k new.0) None (reads_with_link s c.in-Before.at (k + 1))
          s.seat.part c.look.new.seat s.seat
          (slice_set s.places c.args.lane (At k new.0)) s.notes done there refl refl refl;
    }

pub invariant_of-self-2 : goal.invariant_of-self-2
invariant_of-self-2 g c = ((goes_on_new g c).is, c.run_new.ensures.wide)

pub returns-clause-came : goal.returns-clause-came
returns-clause-came g c =
    let some = c.if-left-eq0.false in
    let sum : c.args.left.now - 1 + 1 ≡ c.args.left.now = omega (arith, some) in
    pursuit_came c.args.mailbox.now c.args.lane 1 (c.args.left.now - 1) c.run_new.new.left c.args.left.now
    c.run_new.result (g.R.Rng.stream c.args.rng.now) (g.R.Rng.stream c.run_new.new.rng) c.args.self.now c.args.self.now
    (past_new g c) c.requires.lane sum refl (goes_on_new g c)
    (λ more spent. let few = c.run_new.ensures.few spent in absurd (omega (arith, more, few, some)))
    c.run_new.ensures.decided

pub returns-clause-belongs : goal.returns-clause-belongs
returns-clause-belongs g c =
    still_of c.args.mailbox.now c.args.lane 1 (c.args.left.now - 1) c.run_new.new.left c.run_new.result
    (g.R.Rng.stream c.args.rng.now) (g.R.Rng.stream c.run_new.new.rng) c.args.self.now (past_new g c)
    (goes_on_new g c) c.requires.belongs

pub returns-in-At-clause-left : goal.returns-in-At-clause-left
returns-in-At-clause-left g c =
    let sum : c.args.left.now + 0 ≡ c.args.left.now = omega arith in
    let left = left_by c.args.lane 0 c.args.left.now c.run_held.new.left c.args.left.now c.run_held.result
    (g.R.Rng.stream c.args.rng.now) (g.R.Rng.stream c.run_held.new.rng) (at_claim g c) (past_claim g c) sum
    (goes_on g c) in
    left ∙ ap (λ s. accesses_made s + c.args.left.now) c.self.view_is

pub returns-clause-left : goal.returns-clause-left
returns-clause-left g c =
    let some = c.if-left-eq0.false in
    let sum : c.args.left.now - 1 + 1 ≡ c.args.left.now = omega (arith, some) in
    left_by c.args.lane 1 (c.args.left.now - 1) c.run_new.new.left c.args.left.now c.run_new.result
    (g.R.Rng.stream c.args.rng.now) (g.R.Rng.stream c.run_new.new.rng) c.args.self.now (past_new g c) sum
    (goes_on_new g c)
