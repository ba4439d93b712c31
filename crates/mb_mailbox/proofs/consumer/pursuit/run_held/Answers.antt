use Rattle.std.proofs.Common.{◌≡◌, ◌∙◌, ◌+◌, ◌-◌, ◌≢◌, ◌<◌, ◌≤◌, ◌++◌, ℕ, List, [], ◌∷◌, length, take, drop, true, arith, ap, refl, subst, sym}
use Rattle.std.specs.Prelude.{None, Some, slice_get, slice_set}
use Rattle.mb_claim.specs.declared.access.Stage.TheVariants as stage
use Rattle.std.proofs.lemmas.{List.length-set, Option.get_or_from_slice_get}
use Rattle.arrayvec.specs.ArrayVec.{with_items}
use Rattle.mb_cells.specs.declared.cursor.Cursor.TheVariants.{Past}
use Rattle.mb_mailbox.specs.declared.consumer.Poll.TheVariants as poll
use Rattle.mb_world.specs.declared.place.Place.{Place, TheVariants.At, TheVariants.Before}
use Rattle.mb_mailbox.specs.Imports.{AreSeatSteps, CellsName, Claim, IsClaimIn, ItemMakes, Lost, ReaderSeatView, SeatView, Stream}
use Rattle.mb_mailbox.specs.Imports.{Note, Took, Undecided, claim_stage, most_accesses, name_of, part_on, shape_of}
use Rattle.mb_mailbox.specs.ConsumerWords.{AreSteps, ConsumerView, HasPlace, IsConsumer}
use Rattle.mb_mailbox.specs.Pursuits.{HasCompeted, IsPursuit, holding, with_fields}
use Rattle.mb_mailbox.specs.{Mailboxes.MailboxView, Steps.with_note}
use Rattle.mb_mailbox.proofs.{Ending.holds_it, Holding.goes_on, Taking.taken}
use Rattle.mb_mailbox.proofs.Lists.{set_twice, some_same}
use Rattle.mb_mailbox.proofs.Made.{at_views, room_stays}
use Rattle.mb_mailbox.proofs.Pursuing.{pursued_past, pursued_spent}
use Rattle.mb_mailbox.proofs.Starts.{PendingClaim, Start, begun, given, has_room, own, path, ran, table, unnoted, within}
use Rattle.mb_mailbox.proofs.consumer.pursuit.run_held.{Given.Over, Goals.After-compete-stage, Goals.After-has_history-2, Goals.After-stage}
use Rattle.mb_mailbox.proofs.consumer.pursuit.run_held.Goals as goal

-- if two places at claims are equal, so are their cells
same_cell : (j k : ℕ) (x y : Claim) → At j x ≡ At k y → j ≡ k
same_cell j k x y e = cc

-- if `ws` is written over `items`, which is as long, the result is `ws`
refilled : (items ws : List Place) → length ws ≡ length items
    → take (length items) (ws ++ drop (length ws) items) ≡ ws
refilled [] [] e = refl
refilled [] (w ∷ ws) e = absurd (omega (arith, e))
refilled (x ∷ items) [] e = absurd (omega (arith, e))
refilled (x ∷ items) (w ∷ ws) e = ap (λ zs. w ∷ zs) (refilled items ws (omega (arith, e)))

-- the consumer with these fields, whose place on the lane has the claim
module _ (g : Over) (c : After-stage g) where
  -- `base` is the consumer with these fields. `with_claim` is `base` with the claim set at its place on the lane
  abbrev base : ConsumerView
  base = with_fields c.args.fields.now

  abbrev pending : PendingClaim
  pending = record { lane = c.args.lane; cell = c.in-At.cell; claim = c.in-At.claim }

  abbrev with_claim : ConsumerView
  with_claim = holding c.args.lane c.in-At.cell c.in-At.claim base

  -- the consumer stands at the claim
  place_is : HasPlace c.args.lane (At c.in-At.cell c.in-At.claim) base
  place_is =
      let read : At c.in-At.cell c.in-At.claim ≡ At c.requires.held.cell c.requires.held.claim =
      sym c.in-At.is ∙ get_or_from_slice_get c.as_mut_slice.result.now c.args.lane
      (At c.requires.held.cell c.requires.held.claim) _
      (ap (λ ps. slice_get ps c.args.lane) c.as_mut_slice.ensures.value ∙ c.requires.held.place) in
      c.requires.held.place ∙ ap (λ (z : Place). Some z) (sym read)

  -- if x is set in the slice of places, it is set in `places` itself
  written : (x : Place)
      → (with_items c.args.fields.now.places (slice_set c.as_mut_slice.result.now c.args.lane x)).items
      ≡ slice_set c.args.fields.now.places.items c.args.lane x
  written x =
      let value = c.as_mut_slice.ensures.value in
      refilled c.args.fields.now.places.items (slice_set c.as_mut_slice.result.now c.args.lane x)
      (length-set c.as_mut_slice.result.now c.args.lane x ∙ ap (λ (ps : List Place). length ps) value)
      ∙ ap (λ ps. slice_set ps c.args.lane x) value

  -- after x is set, the lane still has a place
  still_lane : (x : Place) → c.args.lane
      < length (with_items c.args.fields.now.places (slice_set c.as_mut_slice.result.now c.args.lane x)).items
  still_lane x =
      subst (λ ps. c.args.lane < length ps) (sym (written x))
      (subst (λ n. c.args.lane < n) (sym (length-set c.args.fields.now.places.items c.args.lane x)) c.requires.lane)

  -- since the claim is in its place already, `with_claim` is `base`
  hold : with_claim ≡ base
  hold = holds_it c.args.lane c.in-At.cell c.in-At.claim base place_is

  -- `Start` holds: the consumer with these fields is the mailbox's, and holds this claim
  start : Start c.args.mailbox.now pending c.args.fields.now
  start = record {
    held = subst IsConsumer (sym hold) c.requires.is;
    belongs = c.requires.belongs;
    lane = c.requires.lane;
    wide = c.requires.wide;
    loads = c.has_history.ensures;
  }

  -- steps that led to `base` led to `with_claim`
  led : (from : ConsumerView) (n : ℕ) (t u : Stream) → AreSteps c.args.lane n None t u from base
      → AreSteps c.args.lane n None t u from with_claim
  led from n t u so = subst (λ z. AreSteps c.args.lane n None t u from z) (sym hold) so

  -- if the place on the lane is set twice, it is as if only the second was set
  places_are : (x place : Place) (places : List Place)
      → places ≡ slice_set
      (with_items c.args.fields.now.places (slice_set c.as_mut_slice.result.now c.args.lane x)).items c.args.lane place
      → places ≡ slice_set c.args.fields.now.places.items c.args.lane place
  places_are x place places e =
      e ∙ ap (λ ps. slice_set ps c.args.lane place) (written x)
      ∙ set_twice c.args.fields.now.places.items c.args.lane x place

  -- if the claim is won, the load of the item ends the poll
  takes : (v : ℕ) (claim : Claim) (seat : SeatView) (reader : ReaderSeatView) (places : List Place)
      (notes : List (List Note)) (made n all left : ℕ) (t u : Stream) (from : ConsumerView)
      → all ≡ made + n → claim_stage claim ≡ stage.Won
      → HasCompeted c.args.lane c.in-At.cell all claim t u from with_claim seat
      → ItemMakes c.args.fields.now.reader c.in-At.cell v reader
      → places ≡ slice_set c.args.fields.now.places.items c.args.lane (Before (Past c.in-At.cell))
      → notes ≡ with_note c.args.lane (Some (Took v)) c.args.fields.now.notes.lists → made + 1 + left ≡ c.args.left.now
      → IsPursuit c.args.lane n c.args.left.now left (poll.Took v) t u from (at_views reader seat places notes)
  takes v claim seat reader places notes made n all left t u from count won so makes e f sum =
      taken base c.args.lane c.in-At.cell c.in-At.claim c.places_tell_steps.ensures.takes
      c.consumers_move_on.ensures.takes start.loads v claim seat reader places notes made n
      c.args.left.now left t u from
      (At c.in-At.cell c.in-At.claim) place_is won
      (subst (λ z. HasCompeted c.args.lane c.in-At.cell z claim t u from with_claim seat) count so) makes e f sum

-- after accesses of the claim
module _ (g : Over) (c : After-compete-stage g) (start : Start c.args.mailbox.now
    (record { lane = c.args.lane; cell = c.in-At.cell; claim = c.in-At.claim }) c.args.fields.now) where
  -- the consumer with the claim, and the number of accesses
  abbrev held : ConsumerView
  held = holding c.args.lane c.in-At.cell c.in-At.claim (with_fields c.args.fields.now)

  abbrev made : ℕ
  made = c.compete-stage.ensures.steps.0

  abbrev claim_now : PendingClaim
  claim_now = record { lane = c.args.lane; cell = c.in-At.cell; claim = c.in-At.claim }

  -- if steps led to the consumer that holds the claim, `HasCompeted` holds after the claim's accesses
  ran_on : (from : ConsumerView) (n : ℕ) (t : Stream)
      → AreSteps c.args.lane n None t (g.R.Rng.stream c.args.rng.now) from held
      → HasCompeted c.args.lane c.in-At.cell (made + n) c.compete-stage.new.claim t
      (g.R.Rng.stream c.compete-stage.new.rng) from held c.compete-stage.new.seat
  ran_on from n t m =
      ran c.args.mailbox.now claim_now c.args.fields.now start c.consumers_move_on.ensures.competes
      c.places_tell_steps.ensures.competes (record { cells = c.mailbox.inside.cells; claims = c.mailbox.inside.claims })
      c.mailbox.view_is from n t (g.R.Rng.stream c.args.rng.now) m made c.compete-stage.new.claim
      c.compete-stage.new.seat (g.R.Rng.stream c.compete-stage.new.rng) c.compete-stage.ensures.steps.2

  -- if no budget is left, as many accesses were made as there was budget
  all_made : c.compete-stage.new.left ≡ 0 → made ≡ c.args.left.now
  all_made none = omega (arith, none, c.compete-stage.ensures.steps.1)

-- if no budget is left, the budget and the accesses on the cell before are together no more than a claim may make
few_made : (g : Over) (c : After-has_history-2 g) → Start c.args.mailbox.now
    (record { lane = c.args.lane; cell = c.in-At.cell; claim = c.in-At.claim }) c.args.fields.now
    → c.compete-stage.new.left ≡ 0
    → (k : ℕ) (claim : Claim) → HasPlace c.args.lane (At k claim) (with_fields c.args.fields.now)
    → HasPlace c.args.lane (At c.in-At.cell c.in-At.claim) (with_fields c.args.fields.now)
    → c.args.left.now + length (part_on c.args.fields.now.seat.consumer k c.args.fields.now.seat.part)
    ≤ most_accesses c.args.mailbox.now.claims.layout
few_made g c start none k claim at is =
    let m = c.args.mailbox.now in
    let seat = c.args.fields.now.seat in
    let steps = c.compete-stage.ensures.steps in
    let all : steps.0 ≡ c.args.left.now = omega (arith, none, steps.1) in
    let pending : PendingClaim = record { lane = c.args.lane; cell = c.in-At.cell; claim = c.in-At.claim } in
    let few =
    subst (λ z. z + length (part_on seat.consumer c.in-At.cell seat.part) ≤ most_accesses m.claims.layout) all
    (c.accesses_are_counted.ensures.few m.claims.layout m.claims.cells c.in-At.cell steps.0
    c.in-At.claim c.compete-stage.new.claim seat c.compete-stage.new.seat (g.R.Rng.stream c.args.rng.now)
    (g.R.Rng.stream c.compete-stage.new.rng) (table m pending c.args.fields.now start)
    (subst (λ (y : MailboxView). AreSeatSteps y.claims.layout c.in-At.cell c.in-At.claim seat
    (g.R.Rng.stream c.args.rng.now) steps.0 c.compete-stage.new.claim c.compete-stage.new.seat
    (g.R.Rng.stream c.compete-stage.new.rng)) c.mailbox.view_is steps.2) c.has_history-2.ensures) in
    subst (λ j. c.args.left.now + length (part_on seat.consumer j seat.part) ≤ most_accesses m.claims.layout)
    (same_cell c.in-At.cell k c.in-At.claim claim
    (some_same (At c.in-At.cell c.in-At.claim) (At k claim) (sym is ∙ at))) few

-- The clauses in `Won` are of a claim that was won before. The others are of its stage after the accesses made here:
-- won with an access left (`then-left-ne0`) or with none, going, lost or undecided
pub take-requires-clause-may : goal.take-requires-clause-may
take-requires-clause-may g c =
    let at = (goal.at.take-requires-clause-may g c).After-stage in
    given c.args.mailbox.now (pending g at) c.args.fields.now (start g at) c.consumers_move_on.ensures.laws

pub take-requires-clause-room : goal.take-requires-clause-room
take-requires-clause-room g c =
    let at = (goal.at.take-requires-clause-room g c).After-stage in
    has_room c.args.mailbox.now (pending g at) c.args.fields.now (start g at) c.consumers_move_on.ensures.laws

pub returns-in-Won-clause-pursued : goal.returns-in-Won-clause-pursued
returns-in-Won-clause-pursued g c =
    let at = (goal.at.returns-in-Won-clause-pursued g c).After-stage in
    let won = sym c.stage.ensures ∙ c.in-Won.is in
    let pending : PendingClaim = record { lane = c.args.lane; cell = c.in-At.cell; claim = c.in-At.claim } in
    λ from n t m. takes g at c.take.result c.in-At.claim c.args.fields.now.seat c.take.new.reader
    c.take.new.places.items c.take.new.notes.lists 0 n n (c.args.left.now - 1) t
    (g.R.Rng.stream c.args.rng.now) from (omega arith) won
    (begun c.args.mailbox.now pending c.args.fields.now (start g at) from n t (g.R.Rng.stream c.args.rng.now)
    (led g at from n t (g.R.Rng.stream c.args.rng.now) m))
    c.take.ensures.makes
    (places_are g at (At c.in-At.cell c.in-At.claim) (Before (Past c.in-At.cell)) c.take.new.places.items
    c.take.ensures.place) c.take.ensures.notes.lists
    (omega (arith, c.requires.won c.in-At.cell c.in-At.claim (place_is g at) won))

pub compete-stage-requires : goal.compete-stage-requires
compete-stage-requires g c =
    let at = (goal.at.compete-stage-requires g c).After-stage in
    let m = c.args.mailbox.now in
    let f = c.args.fields.now in
    let low = within m (pending g at) f (start g at) c.consumers_move_on.ensures.laws in
    let cells : f.reader.table.size.cells ≡ c.mailbox.inside.claims.cells =
    ap (λ (n : CellsName). n.size.cells) (c.requires.belongs.cells
    ∙ sym (ap (λ (v : MailboxView). v.cells) c.mailbox.view_is)) ∙ sym c.mailbox.invariant.0.cells in
    record {
      table = c.requires.belongs.claims ∙ sym (ap (λ (v : MailboxView). name_of v.claims) c.mailbox.view_is);
      cell = subst (λ n. c.in-At.cell < n) cells low;
      consumer = own m (pending g at) f (start g at);
      standing = subst (λ (y : MailboxView). IsClaimIn y.claims.layout c.in-At.claim
          (part_on f.seat.consumer c.in-At.cell f.seat.part)) (sym c.mailbox.view_is)
          (path m (pending g at) f (start g at));
      going = goes_on (claim_stage c.in-At.claim) (unnoted m (pending g at) f (start g at))
          (λ won. c.in_default.not-Won (c.stage.ensures ∙ won));
    }

pub take-requires-then-left-ne0 : goal.take-requires-then-left-ne0
take-requires-then-left-ne0 g c =
    let at = (goal.at.take-requires-then-left-ne0 g c).After-stage in
    record {
      table = c.requires.belongs.cells;
      may = given c.args.mailbox.now (pending g at) c.args.fields.now (start g at) c.consumers_move_on.ensures.laws;
      place = still_lane g at (At c.in-At.cell c.compete-stage.new.claim);
      room = has_room c.args.mailbox.now (pending g at) c.args.fields.now (start g at) c.consumers_move_on.ensures.laws;
    }

pub returns-then-left-ne0 : goal.returns-then-left-ne0
returns-then-left-ne0 g c =
    let at = goal.at.returns-then-left-ne0 g c in
    let made = c.compete-stage.ensures.steps.0 in
    let rng = g.R.Rng.stream c.args.rng.now in
    record {
      pursued = λ from n t m. takes g at.After-stage c.take-then-left-ne0.result c.compete-stage.new.claim
          c.compete-stage.new.seat c.take-then-left-ne0.new.reader c.take-then-left-ne0.new.places.items
          c.take-then-left-ne0.new.notes.lists made n (made + n) (c.compete-stage.new.left - 1) t
          (g.R.Rng.stream c.compete-stage.new.rng) from refl (sym c.compete-stage.ensures.stage ∙ c.in-Won-stage.is)
          (ran_on g at.After-compete-stage (start g at.After-stage) from n t (led g at.After-stage from n t rng m))
          c.take-then-left-ne0.ensures.makes
          (places_are g at.After-stage (At c.in-At.cell c.compete-stage.new.claim) (Before (Past c.in-At.cell))
          c.take-then-left-ne0.new.places.items c.take-then-left-ne0.ensures.place)
          c.take-then-left-ne0.ensures.notes.lists
          (omega (arith, c.compete-stage.ensures.steps.1, c.if-left-ne0.true));
      few = λ k claim is e. cc;
      decided = λ last e. cc;
      wide = subst (λ (r : ReaderSeatView). r.table.size.cells ≤ c.take-then-left-ne0.new.notes.room)
          (sym c.take-then-left-ne0.ensures.makes.1)
          (room_stays c.args.lane c.args.fields.now.reader.table.size.cells
          (Some (Took c.take-then-left-ne0.result)) c.args.fields.now.notes c.take-then-left-ne0.new.notes
          c.take-then-left-ne0.ensures.notes c.requires.wide);
    }

pub returns-in-Going : goal.returns-in-Going
returns-in-Going g c =
    let at = goal.at.returns-in-Going g c in
    let s = start g at.After-stage in
    let going = sym c.compete-stage.ensures.stage ∙ c.in-Going.is in
    let none = c.compete-stage.ensures.all c.in-Going.is in
    let rng = g.R.Rng.stream c.args.rng.now in
    record {
      pursued = λ from n t m. pursued_spent (base g at.After-stage) c.args.lane c.in-At.cell
          c.in-At.claim c.args.left.now c.compete-stage.new.left n c.compete-stage.new.claim stage.Going t
          (g.R.Rng.stream c.compete-stage.new.rng) from c.compete-stage.new.seat
          (with_items c.args.fields.now.places (slice_set c.as_mut_slice.result.now c.args.lane
          (At c.in-At.cell c.compete-stage.new.claim))).items
          none going refl refl refl
          (subst (λ z. HasCompeted c.args.lane c.in-At.cell (z + n) c.compete-stage.new.claim t
          (g.R.Rng.stream c.compete-stage.new.rng) from (with_claim g at.After-stage) c.compete-stage.new.seat)
          (all_made g at.After-compete-stage s none)
          (ran_on g at.After-compete-stage s from n t (led g at.After-stage from n t rng m)))
          (written g at.After-stage (At c.in-At.cell c.compete-stage.new.claim));
      few = λ k claim is e. few_made g at.After-has_history-2 s none k claim is (place_is g at.After-stage);
      decided = λ last e. cc;
      wide = c.requires.wide;
    }

pub returns-else-left-ne0 : goal.returns-else-left-ne0
returns-else-left-ne0 g c =
    let at = goal.at.returns-else-left-ne0 g c in
    let s = start g at.After-stage in
    let won = sym c.compete-stage.ensures.stage ∙ c.in-Won-stage.is in
    let none : c.compete-stage.new.left ≡ 0 = omega (arith, c.if-left-ne0.false) in
    let rng = g.R.Rng.stream c.args.rng.now in
    record {
      pursued = λ from n t m. pursued_spent (base g at.After-stage) c.args.lane c.in-At.cell
          c.in-At.claim c.args.left.now c.compete-stage.new.left n c.compete-stage.new.claim stage.Won t
          (g.R.Rng.stream c.compete-stage.new.rng) from c.compete-stage.new.seat
          (with_items c.args.fields.now.places (slice_set c.as_mut_slice.result.now c.args.lane
          (At c.in-At.cell c.compete-stage.new.claim))).items
          none won refl refl refl
          (subst (λ z. HasCompeted c.args.lane c.in-At.cell (z + n) c.compete-stage.new.claim t
          (g.R.Rng.stream c.compete-stage.new.rng) from (with_claim g at.After-stage) c.compete-stage.new.seat)
          (all_made g at.After-compete-stage s none)
          (ran_on g at.After-compete-stage s from n t (led g at.After-stage from n t rng m)))
          (written g at.After-stage (At c.in-At.cell c.compete-stage.new.claim));
      few = λ k claim is e. few_made g at.After-has_history-2 s none k claim is (place_is g at.After-stage);
      decided = λ last e. cc;
      wide = c.requires.wide;
    }

pub leave-requires : goal.leave-requires
leave-requires g c =
    let at = goal.at.leave-requires g c in
    record {
      place = still_lane g at.After-stage (At c.in-At.cell c.compete-stage.new.claim);
      room = has_room c.args.mailbox.now (pending g at.After-stage)
          c.args.fields.now (start g at.After-stage) c.consumers_move_on.ensures.laws;
    }

pub returns-in-Lost : goal.returns-in-Lost
returns-in-Lost g c =
    let at = goal.at.returns-in-Lost g c in
    let s = start g at.After-stage in
    let made = c.compete-stage.ensures.steps.0 in
    let rng = g.R.Rng.stream c.args.rng.now in
    record {
      pursued = λ from n t m. pursued_past (base g at.After-stage) c.args.lane c.in-At.cell
          c.in-At.claim c.args.left.now c.compete-stage.new.left made n c.compete-stage.new.claim
          (stage.Lost c.in-Lost.w)
          (Lost c.in-Lost.w) (poll.Lost c.in-Lost.w) t (g.R.Rng.stream c.compete-stage.new.rng) from
          c.compete-stage.new.seat c.leave.new.places.items c.leave.new.notes.lists
          (At c.in-At.cell c.in-At.claim) (place_is g at.After-stage)
          (sym c.compete-stage.ensures.stage ∙ c.in-Lost.is) refl refl tt (λ f. cc) refl
          (omega (arith, c.compete-stage.ensures.steps.1))
          (ran_on g at.After-compete-stage s from n t (led g at.After-stage from n t rng m))
          (places_are g at.After-stage (At c.in-At.cell c.compete-stage.new.claim) (Before (Past c.in-At.cell))
          c.leave.new.places.items c.leave.ensures.place) c.leave.ensures.notes.lists;
      few = λ k claim is e. cc;
      decided = λ last e. cc;
      wide = room_stays c.args.lane c.args.fields.now.reader.table.size.cells (Some (Lost c.in-Lost.w))
          c.args.fields.now.notes c.leave.new.notes c.leave.ensures.notes c.requires.wide;
    }

pub leave-requires-in-Undecided : goal.leave-requires-in-Undecided
leave-requires-in-Undecided g c =
    let at = goal.at.leave-requires-in-Undecided g c in
    record {
      place = still_lane g at.After-stage (At c.in-At.cell c.compete-stage.new.claim);
      room = has_room c.args.mailbox.now (pending g at.After-stage)
          c.args.fields.now (start g at.After-stage) c.consumers_move_on.ensures.laws;
    }

pub returns-in-Undecided : goal.returns-in-Undecided
returns-in-Undecided g c =
    let at = goal.at.returns-in-Undecided g c in
    let s = start g at.After-stage in
    let made = c.compete-stage.ensures.steps.0 in
    let rng = g.R.Rng.stream c.args.rng.now in
    record {
      pursued = λ from n t m. pursued_past (base g at.After-stage) c.args.lane c.in-At.cell
          c.in-At.claim c.args.left.now c.compete-stage.new.left made n c.compete-stage.new.claim stage.Undecided
          Undecided poll.Undecided t (g.R.Rng.stream c.compete-stage.new.rng) from
          c.compete-stage.new.seat c.leave-in-Undecided.new.places.items c.leave-in-Undecided.new.notes.lists
          (At c.in-At.cell c.in-At.claim) (place_is g at.After-stage)
          (sym c.compete-stage.ensures.stage ∙ c.in-Undecided.is) refl refl tt (λ f. cc) refl
          (omega (arith, c.compete-stage.ensures.steps.1))
          (ran_on g at.After-compete-stage s from n t (led g at.After-stage from n t rng m))
          (places_are g at.After-stage (At c.in-At.cell c.compete-stage.new.claim) (Before (Past c.in-At.cell))
          c.leave-in-Undecided.new.places.items c.leave-in-Undecided.ensures.place)
          c.leave-in-Undecided.ensures.notes.lists;
      few = λ k claim is e. cc;
      decided = λ last e. absurd (subst (λ (y : MailboxView). (shape_of y.claims.layout).last ≡ true
          → c.compete-stage.result ≢ stage.Undecided) c.mailbox.view_is c.compete-stage.ensures.decided last
          c.in-Undecided.is);
      wide = room_stays c.args.lane c.args.fields.now.reader.table.size.cells (Some Undecided)
          c.args.fields.now.notes c.leave-in-Undecided.new.notes c.leave-in-Undecided.ensures.notes c.requires.wide;
    }
