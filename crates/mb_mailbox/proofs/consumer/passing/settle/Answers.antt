-- Proof of `settle`: makes the exchange of a new claim, and loads the item if the claim is won.
use Rattle.std.proofs.Common.{◌≡◌, ◌∙◌, ◌+◌, ◌<◌, ◌≤◌, ℕ, arith, ap, refl, subst, sym}
use Rattle.std.specs.Prelude.{None, Some, slice_set}
use Rattle.mb_claim.specs.declared.access.Stage.TheVariants as stage
use Rattle.mb_cells.specs.declared.cursor.Cursor.TheVariants.{Past}
use Rattle.mb_mailbox.specs.declared.consumer.Poll.TheVariants as poll
use Rattle.mb_world.specs.declared.place.Place.{TheVariants.Before}
use Rattle.mb_mailbox.specs.Imports.{AreSeatSteps, CellsName, Claim, IsStanding, Lost, ReaderSeatView, SeatView, Stream, Took}
use Rattle.mb_mailbox.specs.Imports.{kinds_of, name_of, part_on}
use Rattle.mb_deciding.specs.declared.object.Kind.TheVariants.{LastObject}
use Rattle.std.proofs.Common.{[], ◌∷◌}
use Rattle.mb_mailbox.specs.ConsumerWords.{AreSteps, ConsumerView, holding, with_fields}
use Rattle.mb_mailbox.specs.Mailboxes.{MailboxView}
use Rattle.mb_mailbox.specs.Pursuits.{HasCompeted}
use Rattle.mb_mailbox.proofs.Beginnings.{standing_fresh, standing_same}
use Rattle.mb_mailbox.proofs.Made.{room_stays}
use Rattle.mb_mailbox.proofs.Pursuing.{pursued_past}
use Rattle.mb_mailbox.proofs.Starts.{PendingClaim, Start, given, has_room, path, ran, there, within}
use Rattle.mb_mailbox.proofs.Taking.{IsOneAccess, only_won, taken}
use Rattle.mb_mailbox.proofs.consumer.passing.settle.{Given.Over, Goals.After-has_history, Goals.After-exchange-stage}
use Rattle.mb_mailbox.proofs.consumer.passing.settle.Goals as goal

-- the fields of a consumer, with a new claim that its place on the lane does not have yet
module _ (g : Over) (c : After-has_history g) where
  abbrev pending : PendingClaim
  pending = record { lane = c.args.lane; cell = c.args.cell; claim = c.requires.held.claim }

  -- `Start` holds: the consumer with these fields is the mailbox's, and holds this claim
  start : Start c.args.mailbox.now pending c.args.fields.now
  start = record {
    held = c.requires.held.is;
    belongs = c.requires.belongs;
    lane = c.requires.held.lane;
    wide = c.requires.wide;
    loads = c.has_history.ensures;
  }

-- after the exchange
module _ (g : Over) (c : After-exchange-stage g) (start : Start c.args.mailbox.now
    (record { lane = c.args.lane; cell = c.args.cell; claim = c.requires.held.claim }) c.args.fields.now) where
  -- the claim at the start, and the consumer that holds it
  abbrev first : Claim
  first = c.requires.held.claim

  abbrev held : ConsumerView
  held = holding c.args.lane c.args.cell first (with_fields c.args.fields.now)

  -- the exchange is one access of a new claim, by the layout of the mailbox
  one : IsOneAccess c.args.mailbox.now.claims.layout c.args.cell c.args.fields.now.seat
      (g.R.Rng.stream c.args.rng.now) c.exchange-stage.result c.exchange-stage.new.seat
      (g.R.Rng.stream c.next_u64.new.self)
  one =
      let e = c.exchange-stage.ensures.step in
      subst (λ (y : MailboxView). IsOneAccess y.claims.layout c.args.cell c.args.fields.now.seat
      (g.R.Rng.stream c.args.rng.now) c.exchange-stage.result c.exchange-stage.new.seat
      (g.R.Rng.stream c.next_u64.new.self)) c.mailbox.view_is (
        e.0,
        e.2,
        e.1,
        (
          e.0,
          c.args.fields.now.seat,
          g.R.Rng.stream c.args.rng.now,
          c.next_u64.result,
          (refl, refl, refl),
          e.3,
          c.next_u64.ensures,
          e.6,
          e.5 ∙ sym e.4,
          e.8,
        ),
        e.7,
      )

  -- the claim after the exchange
  abbrev last : Claim
  last = one.2

  -- if steps led to a consumer that holds a new claim there, `HasCompeted` holds after the exchange
  ran_on : (from : ConsumerView) (n : ℕ) (t : Stream) (other : Claim)
      → IsStanding c.args.mailbox.now.claims.layout c.args.fields.now.seat.consumer 0 c.args.fields.now.seat.consumer
      other
      → AreSteps c.args.lane n None t (g.R.Rng.stream c.args.rng.now) from
      (holding c.args.lane c.args.cell other (with_fields c.args.fields.now))
      → HasCompeted c.args.lane c.args.cell (1 + n) last t (g.R.Rng.stream c.next_u64.new.self) from held
      c.exchange-stage.new.seat
  ran_on from n t other is m =
      let layout = c.args.mailbox.now.claims.layout in
      let d = c.args.fields.now.seat.consumer in
      let pending : PendingClaim = record { lane = c.args.lane; cell = c.args.cell; claim = first } in
      let same = standing_same layout d 0 d other is first c.requires.held.standing in
      let begins = standing_same layout d 0 d one.0 one.1 first c.requires.held.standing in
      ran c.args.mailbox.now pending c.args.fields.now start c.consumers_move_on.ensures.competes
      c.places_tell_steps.ensures.competes c.args.mailbox.now refl from n t (g.R.Rng.stream c.args.rng.now)
      (subst (λ (z : Claim). AreSteps c.args.lane n None t (g.R.Rng.stream c.args.rng.now) from
      (holding c.args.lane c.args.cell z (with_fields c.args.fields.now))) same m)
      1 last c.exchange-stage.new.seat (g.R.Rng.stream c.next_u64.new.self)
      (subst (λ x. AreSeatSteps layout c.args.cell x c.args.fields.now.seat (g.R.Rng.stream c.args.rng.now) 1 last
      c.exchange-stage.new.seat (g.R.Rng.stream c.next_u64.new.self)) begins one.3)

pub exchange-stage-requires : goal.exchange-stage-requires
exchange-stage-requires g c =
    let at = (goal.at.exchange-stage-requires g c).After-has_history in
    let low = within c.args.mailbox.now (pending g at)
    c.args.fields.now (start g at) c.consumers_move_on.ensures.laws in
    let cells : c.args.fields.now.reader.table.size.cells ≡ c.mailbox.inside.claims.cells =
    ap (λ (n : CellsName). n.size.cells) (c.requires.belongs.cells
    ∙ sym (ap (λ (v : MailboxView). v.cells) c.mailbox.view_is)) ∙ sym c.mailbox.invariant.0.cells in
    record {
      table = c.requires.belongs.claims ∙ sym (ap (λ (v : MailboxView). name_of v.claims) c.mailbox.view_is);
      cell = subst (λ n. c.args.cell < n) cells low;
      alone = subst (λ (y : MailboxView). kinds_of y.claims.layout ≡ LastObject ∷ []) (sym c.mailbox.view_is)
          c.requires.alone;
      consumer = c.requires.number;
      fresh = standing_fresh c.args.mailbox.now.claims.layout c.args.fields.now.seat.consumer
          c.args.fields.now.seat.consumer c.requires.held.claim c.requires.held.standing
          (part_on c.args.fields.now.seat.consumer c.args.cell c.args.fields.now.seat.part)
          (path c.args.mailbox.now (pending g at) c.args.fields.now (start g at));
    }

pub push-requires : goal.push-requires
push-requires g c =
    let at = (goal.at.push-requires g c).After-has_history in
    has_room c.args.mailbox.now (pending g at) c.args.fields.now (start g at) c.consumers_move_on.ensures.laws

pub returns-in-Lost : goal.returns-in-Lost
returns-in-Lost g c =
    let at = goal.at.returns-in-Lost g c in
    let s = start g at.After-has_history in
    let was = there c.args.mailbox.now (pending g at.After-has_history)
    c.args.fields.now (start g at.After-has_history) in
    let w = c.in-Lost.winner in
    record {
      pursued = λ from n left t other is m. pursued_past (with_fields c.args.fields.now) c.args.lane c.args.cell
          c.requires.held.claim (1 + left) left 1 n (last g at.After-exchange-stage s)
          (stage.Lost w) (Lost w) (poll.Lost w) t
          (g.R.Rng.stream c.next_u64.new.self) from c.exchange-stage.new.seat
          (slice_set c.args.fields.now.places.items c.args.lane (Before (Past c.args.cell))) c.push.new.self.lists
          was.0 was.1 ((one g at.After-exchange-stage s).4 ∙ c.in-Lost.is) refl refl tt (λ f. cc) refl refl
          (ran_on g at.After-exchange-stage s from n t other is m) refl c.push.ensures.lists;
      wide = room_stays c.args.lane c.args.fields.now.reader.table.size.cells (Some (Lost w))
          c.args.fields.now.notes c.push.new.self c.push.ensures c.requires.wide;
      places = refl;
      number = c.requires.number
          ∙ sym (ap (λ (v : SeatView). v.consumer) c.exchange-stage.ensures.step.6.adds);
      ends = ((λ e. cc), (λ e. cc));
    }

pub item-item-requires : goal.item-item-requires
item-item-requires g c =
    let at = (goal.at.item-item-requires g c).After-has_history in
    record {
      table = c.requires.belongs.cells ∙ sym (ap (λ (v : MailboxView). v.cells) c.mailbox.view_is);
      may = given c.args.mailbox.now (pending g at) c.args.fields.now (start g at) c.consumers_move_on.ensures.laws;
    }

pub push-requires-in_default : goal.push-requires-in_default
push-requires-in_default g c =
    let at = (goal.at.push-requires-in_default g c).After-has_history in
    has_room c.args.mailbox.now (pending g at) c.args.fields.now (start g at) c.consumers_move_on.ensures.laws

pub returns-in_default : goal.returns-in_default
returns-in_default g c =
    let at = goal.at.returns-in_default g c in
    let s = start g at.After-has_history in
    let was = there c.args.mailbox.now (pending g at.After-has_history)
    c.args.fields.now (start g at.After-has_history) in
    let e = one g at.After-exchange-stage s in
    let won = only_won c.exchange-stage.result c.exchange-stage.ensures.ended c.exchange-stage.ensures.decided
    c.in_default.not-Lost in
    record {
      pursued = λ from n left t other is m. taken (with_fields c.args.fields.now) c.args.lane c.args.cell
          c.requires.held.claim c.places_tell_steps.ensures.takes c.consumers_move_on.ensures.takes s.loads
          c.item-item.result (last g at.After-exchange-stage s) c.exchange-stage.new.seat c.item-item.new.seat
          (slice_set c.args.fields.now.places.items c.args.lane (Before (Past c.args.cell)))
          c.push-in_default.new.self.lists 1 n (2 + left) left t (g.R.Rng.stream c.next_u64.new.self) from was.0 was.1
          (e.4 ∙ won) (ran_on g at.After-exchange-stage s from n t other is m) c.item-item.ensures.makes refl
          c.push-in_default.ensures.lists (omega arith);
      wide = subst (λ (r : ReaderSeatView). r.table.size.cells ≤ c.push-in_default.new.self.room)
          (sym c.item-item.ensures.makes.1)
          (room_stays c.args.lane c.args.fields.now.reader.table.size.cells (Some (Took c.item-item.result))
          c.args.fields.now.notes c.push-in_default.new.self c.push-in_default.ensures c.requires.wide);
      places = refl;
      number = c.requires.number
          ∙ sym (ap (λ (v : SeatView). v.consumer) c.exchange-stage.ensures.step.6.adds);
      ends = ((λ x. cc), (λ x. cc));
    }
