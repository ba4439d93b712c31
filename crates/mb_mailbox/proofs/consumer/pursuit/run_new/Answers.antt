use Rattle.std.proofs.Common.{◌≡◌, ◌∙◌, ◌+◌, ◌-◌, ◌≢◌, ◌<◌, ◌≤◌, ℕ, List, true, arith, ap, refl, subst, sym}
use Rattle.std.specs.Prelude.{None, Some, slice_set}
use Rattle.mb_claim.specs.declared.access.Stage.TheVariants as stage
use Rattle.mb_mailbox.specs.declared.consumer.Poll.TheVariants as poll
use Rattle.mb_world.specs.declared.place.Place.{Place, TheVariants.At}
use Rattle.mb_mailbox.specs.Imports.{AreSeatSteps, CellsName, Claim, IsStanding, Layout, Lost, ReaderSeatView, SeatView, Stream, Took}
use Rattle.mb_mailbox.specs.Imports.{Undecided, claim_stage, consumer_count, name_of, part_on, shape_of}
use Rattle.mb_mailbox.specs.ConsumerWords.{AreSteps, ConsumerView, IsConsumer, holding, with_fields}
use Rattle.mb_mailbox.specs.Mailboxes.{MailboxView}
use Rattle.mb_mailbox.specs.Pursuits.{HasCompeted}
use Rattle.mb_mailbox.proofs.Beginnings.{standing_fresh, standing_going, standing_same}
use Rattle.mb_mailbox.proofs.Made.{room_stays}
use Rattle.mb_mailbox.proofs.Polls.{no_steps}
use Rattle.mb_mailbox.proofs.Pursuing.{pursued_past}
use Rattle.mb_mailbox.proofs.Starts.{PendingClaim, Start, given, has_room, path, ran, there, within}
use Rattle.mb_mailbox.proofs.Taking.{AreStraight, pursued_on, some_made, still_consumer, still_steps, taken}
use Rattle.mb_mailbox.proofs.consumer.pursuit.run_new.{Given.Over, Goals.After-has_history, Goals.After-straight-end}
use Rattle.mb_mailbox.proofs.consumer.pursuit.run_new.Goals as goal

-- the fields of a consumer, with a new claim that its place on the lane does not have yet
module _ (g : Over) (c : After-has_history g) where
  abbrev pending : PendingClaim
  pending = record { lane = c.args.lane; cell = c.args.cell; claim = c.requires.held.claim }

  -- `Start` holds: the consumer with these fields is the mailbox's, and holds this claim
  start : Start c.args.mailbox.now pending c.args.fields.now
  start = record {
    held = c.requires.held.is;
    belongs = c.requires.belongs;
    lane = c.requires.held.lane;
    wide = c.requires.wide;
    loads = c.has_history.ensures;
  }

-- after the straight accesses
module _ (g : Over) (c : After-straight-end g) (start : Start c.args.mailbox.now
    (record { lane = c.args.lane; cell = c.args.cell; claim = c.requires.held.claim }) c.args.fields.now) where
  -- the claim at the start, and the consumer that holds it
  abbrev first : Claim
  first = c.requires.held.claim

  abbrev held : ConsumerView
  held = holding c.args.lane c.args.cell first (with_fields c.args.fields.now)

  -- the straight accesses, by the layout of the mailbox
  straight_on : AreStraight c.args.mailbox.now.claims.layout c.args.cell c.args.fields.now.seat
      (g.R.Rng.stream c.args.rng.now) (c.args.left.now - 1) c.straight-end.result
      c.straight-end.new.seat (g.R.Rng.stream c.straight-end.new.rng)
  straight_on = subst (λ (y : MailboxView). AreStraight y.claims.layout c.args.cell c.args.fields.now.seat
      (g.R.Rng.stream c.args.rng.now) (c.args.left.now - 1) c.straight-end.result
      c.straight-end.new.seat (g.R.Rng.stream c.straight-end.new.rng)) c.mailbox.view_is c.straight-end.ensures.steps

  -- how many straight accesses there are, and the claim after them
  abbrev made : ℕ
  made = straight_on.2

  abbrev last : Claim
  last = straight_on.3

  -- the straight accesses and what they left add up to the budget less one access, which is kept for the item
  sum : made + c.straight-end.result.left ≡ c.args.left.now - 1
  sum = straight_on.4

  -- the straight accesses are accesses of the claim `first`
  steps : AreSeatSteps c.args.mailbox.now.claims.layout c.args.cell first c.args.fields.now.seat
      (g.R.Rng.stream c.args.rng.now) made last c.straight-end.new.seat (g.R.Rng.stream c.straight-end.new.rng)
  steps =
      let d = c.args.fields.now.seat.consumer in
      subst (λ x. AreSeatSteps c.args.mailbox.now.claims.layout c.args.cell x c.args.fields.now.seat
      (g.R.Rng.stream c.args.rng.now) made last c.straight-end.new.seat (g.R.Rng.stream c.straight-end.new.rng))
      (standing_same c.args.mailbox.now.claims.layout d 0 d straight_on.0 straight_on.1 first c.requires.held.standing)
      straight_on.5

  -- the claim after the straight accesses has the stage that `straight` returned
  stage_is : claim_stage last ≡ c.straight-end.result.stage
  stage_is = straight_on.6.0

  -- if the claim is won, its accesses, the load of the item and what is left add up to the whole budget
  item_left : c.straight-end.result.stage ≡ stage.Won → made + 1 + c.straight-end.result.left ≡ c.args.left.now
  item_left won =
      let d = c.args.fields.now.seat.consumer in
      let some = some_made c.args.mailbox.now.claims.layout c.args.cell made first last c.args.fields.now.seat
      c.straight-end.new.seat (g.R.Rng.stream c.args.rng.now) (g.R.Rng.stream c.straight-end.new.rng)
      steps
      (standing_going c.args.mailbox.now.claims.layout d 0 d first c.requires.held.standing) (stage_is ∙ won) in
      let all = sum in
      omega (arith, some, all, c.if-left-eq0.false)

  -- if steps led to a consumer that holds a new claim there, `HasCompeted` holds after the straight accesses
  ran_on : (from : ConsumerView) (n : ℕ) (t : Stream) (other : Claim)
      → IsStanding c.args.mailbox.now.claims.layout c.args.fields.now.seat.consumer 0 c.args.fields.now.seat.consumer
      other
      → AreSteps c.args.lane n None t (g.R.Rng.stream c.args.rng.now) from
      (holding c.args.lane c.args.cell other (with_fields c.args.fields.now))
      → HasCompeted c.args.lane c.args.cell (made + n) last t (g.R.Rng.stream c.straight-end.new.rng) from held
      c.straight-end.new.seat
  ran_on from n t other is m =
      let d = c.args.fields.now.seat.consumer in
      let pending : PendingClaim = record { lane = c.args.lane; cell = c.args.cell; claim = first } in
      let same = standing_same c.args.mailbox.now.claims.layout d 0 d other is first c.requires.held.standing in
      ran c.args.mailbox.now pending c.args.fields.now start c.consumers_move_on.ensures.competes
      c.places_tell_steps.ensures.competes c.args.mailbox.now refl from n t (g.R.Rng.stream c.args.rng.now)
      (subst (λ (z : Claim). AreSteps c.args.lane n None t (g.R.Rng.stream c.args.rng.now) from
      (holding c.args.lane c.args.cell z (with_fields c.args.fields.now))) same m)
      made last c.straight-end.new.seat (g.R.Rng.stream c.straight-end.new.rng)
      steps

pub straight-end-requires : goal.straight-end-requires
straight-end-requires g c =
    let at = (goal.at.straight-end-requires g c).After-has_history in
    let low = within c.args.mailbox.now (pending g at)
    c.args.fields.now (start g at) c.consumers_move_on.ensures.laws in
    let cells : c.args.fields.now.reader.table.size.cells ≡ c.mailbox.inside.claims.cells =
    ap (λ (n : CellsName). n.size.cells) (c.requires.belongs.cells
    ∙ sym (ap (λ (v : MailboxView). v.cells) c.mailbox.view_is)) ∙ sym c.mailbox.invariant.0.cells in
    record {
      table = c.requires.belongs.claims ∙ sym (ap (λ (v : MailboxView). name_of v.claims) c.mailbox.view_is);
      cell = subst (λ n. c.args.cell < n) cells low;
      fresh = standing_fresh c.args.mailbox.now.claims.layout c.args.fields.now.seat.consumer
          c.args.fields.now.seat.consumer c.requires.held.claim c.requires.held.standing
          (part_on c.args.fields.now.seat.consumer c.args.cell c.args.fields.now.seat.part)
          (path c.args.mailbox.now (pending g at) c.args.fields.now (start g at));
    }

pub take-requires : goal.take-requires
take-requires g c =
    let at = (goal.at.take-requires g c).After-has_history in
    record {
      table = c.requires.belongs.cells;
      may = given c.args.mailbox.now (pending g at)
          c.args.fields.now (start g at) c.consumers_move_on.ensures.laws;
      place = c.requires.held.lane;
      room = has_room c.args.mailbox.now (pending g at)
          c.args.fields.now (start g at) c.consumers_move_on.ensures.laws;
    }

pub returns-in-Won : goal.returns-in-Won
returns-in-Won g c =
    let at = goal.at.returns-in-Won g c in
    let s = start g at.After-has_history in
    let was = there c.args.mailbox.now (pending g at.After-has_history)
    c.args.fields.now (start g at.After-has_history) in
    record {
      pursued = λ from n t other is m. taken (with_fields c.args.fields.now) c.args.lane c.args.cell
          c.requires.held.claim c.places_tell_steps.ensures.takes c.consumers_move_on.ensures.takes s.loads
          c.take.result (last g at.After-straight-end s) c.straight-end.new.seat c.take.new.reader
          c.take.new.places.items c.take.new.notes.lists (made g at.After-straight-end s) n
          c.args.left.now c.straight-end.result.left t
          (g.R.Rng.stream c.straight-end.new.rng) from was.0 was.1
          (stage_is g at.After-straight-end s ∙ c.in-Won.is) (ran_on g at.After-straight-end s from n t other is m)
          c.take.ensures.makes c.take.ensures.place c.take.ensures.notes.lists
          (item_left g at.After-straight-end s c.in-Won.is);
      few = λ e. cc;
      decided = λ last e. cc;
      wide = subst (λ (r : ReaderSeatView). r.table.size.cells ≤ c.take.new.notes.room) (sym c.take.ensures.makes.1)
          (room_stays c.args.lane c.args.fields.now.reader.table.size.cells (Some (Took c.take.result))
          c.args.fields.now.notes c.take.new.notes c.take.ensures.notes c.requires.wide);
    }

pub leave-requires : goal.leave-requires
leave-requires g c =
    let at = goal.at.leave-requires g c in
    record {
      place = c.requires.held.lane;
      room = has_room c.args.mailbox.now (pending g at.After-has_history)
          c.args.fields.now (start g at.After-has_history) c.consumers_move_on.ensures.laws;
    }

pub returns-in-Lost : goal.returns-in-Lost
returns-in-Lost g c =
    let at = goal.at.returns-in-Lost g c in
    let s = start g at.After-has_history in
    let was = there c.args.mailbox.now (pending g at.After-has_history)
    c.args.fields.now (start g at.After-has_history) in
    let all = sum g at.After-straight-end s in
    record {
      pursued = λ from n t other is m. pursued_past (with_fields c.args.fields.now) c.args.lane c.args.cell
          c.requires.held.claim c.args.left.now (c.straight-end.result.left + 1)
          (made g at.After-straight-end s) n (last g at.After-straight-end s)
          (stage.Lost c.in-Lost.winner) (Lost c.in-Lost.winner) (poll.Lost c.in-Lost.winner) t
          (g.R.Rng.stream c.straight-end.new.rng) from c.straight-end.new.seat
          c.leave.new.places.items c.leave.new.notes.lists was.0 was.1
          (stage_is g at.After-straight-end s ∙ c.in-Lost.is) refl refl tt (λ f. cc) refl
          (omega (arith, all, c.if-left-eq0.false))
          (ran_on g at.After-straight-end s from n t other is m) c.leave.ensures.place c.leave.ensures.notes.lists;
      few = λ e. cc;
      decided = λ last e. cc;
      wide = room_stays c.args.lane c.args.fields.now.reader.table.size.cells (Some (Lost c.in-Lost.winner))
          c.args.fields.now.notes c.leave.new.notes c.leave.ensures.notes c.requires.wide;
    }

pub leave-requires-in-Undecided : goal.leave-requires-in-Undecided
leave-requires-in-Undecided g c =
    let at = goal.at.leave-requires-in-Undecided g c in
    record {
      place = c.requires.held.lane;
      room = has_room c.args.mailbox.now (pending g at.After-has_history)
          c.args.fields.now (start g at.After-has_history) c.consumers_move_on.ensures.laws;
    }

pub returns-in-Undecided : goal.returns-in-Undecided
returns-in-Undecided g c =
    let at = goal.at.returns-in-Undecided g c in
    let s = start g at.After-has_history in
    let was = there c.args.mailbox.now (pending g at.After-has_history)
    c.args.fields.now (start g at.After-has_history) in
    let all = sum g at.After-straight-end s in
    record {
      pursued = λ from n t other is m. pursued_past (with_fields c.args.fields.now) c.args.lane c.args.cell
          c.requires.held.claim c.args.left.now (c.straight-end.result.left + 1)
          (made g at.After-straight-end s) n (last g at.After-straight-end s)
          stage.Undecided Undecided poll.Undecided t (g.R.Rng.stream c.straight-end.new.rng) from
          c.straight-end.new.seat c.leave-in-Undecided.new.places.items c.leave-in-Undecided.new.notes.lists was.0 was.1
          (stage_is g at.After-straight-end s ∙ c.in-Undecided.is) refl refl tt (λ f. cc) refl
          (omega (arith, all, c.if-left-eq0.false))
          (ran_on g at.After-straight-end s from n t other is m) c.leave-in-Undecided.ensures.place
          c.leave-in-Undecided.ensures.notes.lists;
      few = λ e. cc;
      decided = λ last e. absurd (subst (λ (y : MailboxView). (shape_of y.claims.layout).last ≡ true
          → c.straight-end.result.stage ≢ stage.Undecided) c.mailbox.view_is c.straight-end.ensures.decided last
          c.in-Undecided.is);
      wide = room_stays c.args.lane c.args.fields.now.reader.table.size.cells (Some Undecided)
          c.args.fields.now.notes c.leave-in-Undecided.new.notes c.leave-in-Undecided.ensures.notes c.requires.wide;
    }

-- if the claim goes on after its straight accesses, the consumer is at the cell with a claim that begins an object
pub run_rest-answer-requires-clause-held : goal.run_rest-answer-requires-clause-held
run_rest-answer-requires-clause-held g c =
    let at = goal.at.run_rest-answer-requires-clause-held g c in
    let s = start g at.After-has_history in
    let m = c.args.mailbox.now in
    let first = c.requires.held.claim in
    let rng = g.R.Rng.stream c.args.rng.now in
    let end = last g at.After-straight-end s in
    let going : claim_stage end ≡ stage.Going = stage_is g at.After-straight-end s ∙ c.in-Going.is in
    let so = ran_on g at.After-straight-end s (held g at.After-straight-end s) 0 rng first c.requires.held.standing
    (no_steps c.args.lane rng (held g at.After-straight-end s)) in
    record {
      lane = c.requires.held.lane;
      claim = end;
      standing = subst (λ x. IsStanding m.claims.layout x c.straight-end.result.object c.straight-end.result.value end)
          (sym (ap (λ (z : SeatView). z.consumer) so.same))
          ((straight_on g at.After-straight-end s).6.3 c.in-Going.is);
      is = still_consumer (with_fields c.args.fields.now) c.args.lane c.args.cell first
          (made g at.After-straight-end s + 0) end rng (g.R.Rng.stream c.straight-end.new.rng)
          (held g at.After-straight-end s) c.straight-end.new.seat going so;
    }

pub run_rest-answer-requires-clause-belongs : goal.run_rest-answer-requires-clause-belongs
run_rest-answer-requires-clause-belongs g c =
    let at = goal.at.run_rest-answer-requires-clause-belongs g c in
    let s = start g at.After-has_history in
    let rng = g.R.Rng.stream c.args.rng.now in
    let so = ran_on g at.After-straight-end s (held g at.After-straight-end s) 0 rng c.requires.held.claim
    c.requires.held.standing (no_steps c.args.lane rng (held g at.After-straight-end s)) in
    record {
      cells = c.requires.belongs.cells;
      claims = ap (λ (z : SeatView). z.table) so.same ∙ c.requires.belongs.claims;
    }

pub returns-in-Going-clause-pursued : goal.returns-in-Going-clause-pursued
returns-in-Going-clause-pursued g c from n t other is m =
    let at = goal.at.returns-in-Going-clause-pursued g c in
    let s = start g at.After-has_history in
    let first = c.requires.held.claim in
    let end = last g at.After-straight-end s in
    let so = ran_on g at.After-straight-end s from n t other is m in
    let going : claim_stage end ≡ stage.Going = stage_is g at.After-straight-end s ∙ c.in-Going.is in
    let all = sum g at.After-straight-end s in
    pursued_on c.args.lane (made g at.After-straight-end s) n
    (c.straight-end.result.left + 1) c.args.left.now c.run_rest-answer.new.end.left
    c.run_rest-answer.result t (g.R.Rng.stream c.run_rest-answer.new.rng) from
    (with_fields c.run_rest-answer.new.fields)
    (omega (arith, all, c.if-left-eq0.false))
    (c.run_rest-answer.ensures.pursued from (made g at.After-straight-end s + n) t end
    (subst (λ x. IsStanding c.args.mailbox.now.claims.layout x c.straight-end.result.object
    c.straight-end.result.value end) (sym (ap (λ (z : SeatView). z.consumer) so.same))
    ((straight_on g at.After-straight-end s).6.3 c.in-Going.is))
    (still_steps (with_fields c.args.fields.now) c.args.lane c.args.cell first (made g at.After-straight-end s + n)
    end t
    (g.R.Rng.stream c.straight-end.new.rng) from c.straight-end.new.seat going so))

-- ---- no budget is left: the consumer holds the claim, which has made no access
pub new-claim-requires : goal.new-claim-requires
new-claim-requires g c =
    let at = (goal.at.new-claim-requires g c).After-has_history in
    let m = c.args.mailbox.now in
    let seat = c.args.fields.now.seat in
    let within = c.claims_begin_objects.ensures.within m.claims.layout seat.consumer 0 seat.consumer
    c.requires.held.claim (part_on seat.consumer c.args.cell seat.part) c.requires.held.standing
    (path c.args.mailbox.now (pending g at) c.args.fields.now (start g at)) in
    subst (λ (l : Layout). c.consumer-consumer.result < consumer_count l)
    (sym (c.layout-layout.ensures ∙ ap (λ (v : MailboxView). v.claims.layout) c.mailbox.view_is))
    (subst (λ d. d < consumer_count m.claims.layout) (sym c.consumer-consumer.ensures.exact) within.1)

pub returns-then-left-eq0-clause-pursued : goal.returns-then-left-eq0-clause-pursued
returns-then-left-eq0-clause-pursued g c from n t other is so =
    let m = c.args.mailbox.now in
    let f = c.args.fields.now in
    let d = f.seat.consumer in
    let layout : c.layout-layout.result.now ≡ m.claims.layout =
    c.layout-layout.ensures ∙ ap (λ (v : MailboxView). v.claims.layout) c.mailbox.view_is in
    let stands : IsStanding m.claims.layout d 0 d c.new-claim.result =
    subst (λ (z : Layout × ℕ). IsStanding z.0 z.1 0 z.1 c.new-claim.result)
    (λ i. (layout i, c.consumer-consumer.ensures.exact i)) c.new-claim.ensures.first in
    let held : (x : Claim) → IsStanding m.claims.layout d 0 d x → holding c.args.lane c.args.cell x (with_fields f)
    ≡ record (with_fields f) { places = c.stay.new.places.items } =
    λ x first. ap (λ (ps : List Place). record (with_fields f) { places = ps })
    (ap (λ z. slice_set f.places.items c.args.lane (At c.args.cell z))
    (standing_same m.claims.layout d 0 d x first c.new-claim.result stands) ∙ sym c.stay.ensures) in
    let none : c.args.left.now ≡ 0 = omega (arith, c.if-left-eq0.true) in
    let count : n ≡ 0 + n = omega arith in
    record {
      made = 0;
      sum = omega arith;
      spent = λ _. none;
      steps = subst (λ z. AreSteps c.args.lane z None t (g.R.Rng.stream c.args.rng.now) from
          (record (with_fields f) { places = c.stay.new.places.items })) count
          (subst (λ z. AreSteps c.args.lane n None t (g.R.Rng.stream c.args.rng.now) from z) (held other is) so);
      kind = tt;
      noted = λ never. absurd (never refl);
      is = subst IsConsumer (held c.requires.held.claim c.requires.held.standing) c.requires.held.is;
    }
