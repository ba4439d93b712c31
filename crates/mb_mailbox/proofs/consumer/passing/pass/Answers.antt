-- Proof of `pass`: goes on past items that the consumer loses, with the cursor in a variable.
use Rattle.std.proofs.Common.{◌≡◌, ◌≢◌, ◌∙◌, ◌+◌, ◌-◌, ◌/◌, ◌%◌, ◌<◌, ◌≤◌, ℕ, List, [], ◌∷◌, ap, arith, length, ne_eqb, refl, subst, sym}
use Rattle.std.specs.Prelude.{None, Option, Some, slice_set}
use Rattle.mb_cells.specs.Vocabulary.{look_of}
use Rattle.mb_cells.specs.declared.answer.Look.TheVariants as look
use Rattle.mb_cells.specs.declared.cursor.Cursor.TheVariants.{Past}
use Rattle.mb_mailbox.specs.declared.consumer.Poll.TheVariants as poll
use Rattle.mb_world.specs.declared.place.Place.{Place, TheVariants.At, TheVariants.Before}
use Rattle.mb_mailbox.specs.Imports.{CellsName, Cursor, END, Look, PoolSize, ReaderSeatView, SeatView, Stream}
use Rattle.mb_mailbox.specs.ConsumerStep.{link_answer}
use Rattle.mb_mailbox.specs.ConsumerWords.{AnswerTells, AreSteps, ConsumerView, IsConsumer, IsConsumerOf, IsPursuit, Poll, at_link, claim_takes, holding, with_fields}
use Rattle.mb_mailbox.specs.Jobs.{accesses_made}
use Rattle.mb_mailbox.specs.{LaneNotes.NotesView, Mailboxes.MailboxView, NoteLists.HasAllRoom}
use Rattle.mb_mailbox.specs.{Pursuits.IsOfClaim, Steps.{IsPollOf, outcome}}
use Rattle.mb_mailbox.specs.Takes.{IsPollOfRest, IsTakeOf}
use Rattle.mb_mailbox.proofs.Ending.{left_by, poll_by, pursuit_tells, still_of}
use Rattle.mb_mailbox.proofs.Lists.{set_same, some_same}
use Rattle.mb_mailbox.proofs.Polls.{poll_of}
use Rattle.mb_mailbox.proofs.Takes.{HasPassedTo, rest_of, take_by}
use Rattle.mb_mailbox.proofs.consumer.passing.pass.{Given.Over, Goals.After-meet-link, Goals.After-settle}
use Rattle.mb_mailbox.proofs.consumer.passing.pass.Goals as goal

pub items-init : goal.items-init
items-init g c =
    let s = with_fields c.args.fields.now in
    let same : at_link c.args.lane c.args.first s ≡ s =
    ap (λ (ps : List Place). record s { places = ps }) (set_same s.places c.args.lane (Before c.args.first)
    c.requires.place) in
    let low = c.saturating_sub-most.ensures in
    let most = c.saturating_sub-most.result / 2 in
    let all : rest_of c.args.left.now most most ≡ c.args.left.now = omega (arith, low) in (
      record {
        winners = [];
        passed = (refl, same);
        rest = ap (λ n. accesses_made s + n) all;
        is = subst IsConsumer (sym same) c.requires.is;
        belongs = c.requires.belongs;
        wide = c.requires.wide;
        lane = c.requires.lane;
      },
      omega arith,
      c.consumer-number.ensures.exact,
    )

-- if the table and the notes are the same, there still is room for a note on each cell
wide_still : (m : MailboxView) (was now : ReaderSeatView) (old new : NotesView) → was.table ≡
    m.cells → now.table ≡ m.cells
    → new ≡ old → HasAllRoom was.table.size.cells old → HasAllRoom now.table.size.cells new
wide_still m was now old new here there same wide =
    subst (λ (z : CellsName × NotesView). HasAllRoom z.0.size.cells z.1)
    (λ i. ((here ∙ sym there) i, sym same i)) wide

-- a claim on a last object takes one access, or two with the load of its item
takes_few : (x : Poll) → (1 ≤ claim_takes x) × (claim_takes x ≤ 2)
takes_few (poll.Took v) = (omega arith, omega arith)
takes_few (poll.Lost w) = (omega arith, omega arith)
takes_few poll.Undecided = (omega arith, omega arith)
takes_few poll.Nothing = (omega arith, omega arith)
takes_few poll.Ended = (omega arith, omega arith)
takes_few poll.Spent = (omega arith, omega arith)
takes_few poll.NoLane = (omega arith, omega arith)

-- if losses are allowed, what is left of the budget is enough for the most accesses for an item
enough : (left most more : ℕ) → most ≡ (left - 1) / 2 → more ≤ most → more ≢ 0 → 3 ≤ rest_of left most more
enough left most more half low some = omega (arith, half, low, some)

-- what `link.wrapping_sub(1)` is
abbrev less_one : ℕ → ℕ
less_one link = (link + 18446744073709551615) % 18446744073709551616

-- a link that is one more than a number below that of the cells leads to the cell of that number
cell_here : (size here : PoolSize) (link bound : ℕ) → bound ≡ size.cells → size ≡ here → link < 18446744073709551616
    → less_one link < bound → here.cells < 4294967296 → look_of link ≡ look.Cell (less_one link)
cell_here size here link bound is same wide low few =
    let cells = ap (λ (z : PoolSize). z.cells) same in
    let some : link ≢ 0 = λ (e : link ≡ 0). absurd (omega (arith, e, low, is, cells, few)) in
    let real : link ≢ END = λ (e : link ≡ END). absurd (omega (arith, e, low, is, cells, few)) in
    let one : link - 1 ≡ less_one link = omega (arith, some, wide) in
    subst (λ n. look_of link ≡ look.Cell n) one (rw (ne_eqb link 0 some, ne_eqb link END real) refl)

-- the answer of a link that leads to no cell is an outcome, and no loss
abbrev IsIdle : Look → Poll → Type 0
IsIdle l x = (outcome x ≡ link_answer l) × (x ≢ poll.Spent) × ((w : ℕ) → x ≢ poll.Lost w) × (None ≢ Some x)
    × (x ≢ poll.NoLane) × (x ≢ poll.Undecided)

idle : (l : Look) (x : Poll) → link_answer l ≡ Some x → IsIdle l x
idle look.Nothing x e = subst (IsIdle look.Nothing) (some_same poll.Nothing x e)
    (refl, (λ f. cc), (λ w f. cc), (λ f. cc), (λ f. cc), (λ f. cc))
idle look.Ended x e = subst (IsIdle look.Ended) (some_same poll.Ended x e)
    (refl, (λ f. cc), (λ w f. cc), (λ f. cc), (λ f. cc), (λ f. cc))
idle (look.Cell k) x e = absurd (cc)

-- after the load of a link
module _ (g : Over) (c : After-meet-link g) where
  -- what is left of the budget
  abbrev rest : ℕ
  rest = rest_of c.args.left.now (c.saturating_sub-most.result / 2) c.items.more

  room : 3 ≤ rest
  room = enough c.args.left.now (c.saturating_sub-most.result / 2) c.items.more
      (ap (λ n. n / 2) c.saturating_sub-most.ensures) c.items.invariant.1 c.items-test.true

  -- `waiting` is the consumer at the cursor before the load, and `met` has the fields after it
  abbrev waiting : ConsumerView
  waiting = at_link c.args.lane c.items.at (with_fields c.items.fields)

  abbrev met : ConsumerView
  met = with_fields c.meet-link.new.fields

  abbrev words : Stream
  words = g.R.Rng.stream c.items.rng

  -- if the load comes to an answer, which is no loss, the polls so far and this load make a take
  look_ends : (answer : Poll) (new : ConsumerView) → outcome answer ≡ link_answer (look_of c.meet-link.result)
      → answer ≢ poll.Spent → ((w : ℕ) → answer ≢ poll.Lost w)
      → new ≡ at_link c.args.lane c.items.at met → link_answer (look_of c.meet-link.result) ≢ None
      → IsTakeOf c.args.lane c.args.left.now answer (g.R.Rng.stream c.args.rng.now) words
      (with_fields c.args.fields.now) new
      × AnswerTells c.args.lane (outcome answer) (with_fields c.args.fields.now) new
  look_ends answer new same some over is told =
      let p = c.args.lane in
      let inv = c.items.invariant.0 in
      let steps = subst (λ (z : Option Poll × ConsumerView). AreSteps p 1 z.0 words words waiting z.1)
      (λ i. (sym same i, sym is i)) (c.meet-link.ensures.looks (slice_set c.meet-link.new.fields.places.items p
      (Before c.items.at)) words) in
      let tells = subst (λ (z : Option Poll × ConsumerView). AnswerTells p z.0 waiting z.1)
      (λ i. (sym same i, sym is i)) (c.meet-link.ensures.waits told).1 in
      take_by p c.args.left.now rest inv.winners answer (g.R.Rng.stream c.args.rng.now) words words
      (with_fields c.args.fields.now) waiting new inv.passed inv.rest
      (poll_of p 1 rest answer words words waiting new steps (omega (arith, room))
      (λ e. absurd (some e))) over tells

  -- if the load comes to an answer, `IsConsumer` and `IsConsumerOf` still hold of the consumer
  look_keeps : (new : ConsumerView) → new ≡ at_link c.args.lane c.items.at met
      → link_answer (look_of c.meet-link.result) ≢ None → IsConsumer new × IsConsumerOf c.args.mailbox.now new
  look_keeps new is told = (
    subst IsConsumer (sym is) (c.meet-link.ensures.waits told).0,
    subst (λ z. IsConsumerOf c.args.mailbox.now z) (sym is)
        (record { cells = c.meet-link.ensures.belongs.cells; claims = c.meet-link.ensures.belongs.claims }),
  )

-- after `settle`, which makes the accesses of the new claim
module _ (g : Over) (c : After-settle g) where
  abbrev before : ℕ
  before = rest_of c.args.left.now (c.saturating_sub-most.result / 2) c.items.more

  some : 3 ≤ before
  some = enough c.args.left.now (c.saturating_sub-most.result / 2) c.items.more
      (ap (λ n. n / 2) c.saturating_sub-most.ensures) c.items.invariant.1 c.items-test.true

  abbrev from : ConsumerView
  from = at_link c.args.lane c.items.at (with_fields c.items.fields)

  -- the consumer past the cell
  abbrev past : ConsumerView
  past = at_link c.args.lane (Past (less_one c.meet-link.result)) (with_fields c.settle.new.fields)

  -- `t` and `u` are the source before the claim and after it
  abbrev t : Stream
  t = g.R.Rng.stream c.items.rng

  abbrev u : Stream
  u = g.R.Rng.stream c.settle.new.rng

  -- the link leads to the cell
  found : look_of c.meet-link.result ≡ look.Cell (less_one c.meet-link.result)
  found =
      cell_here c.size-size.result c.args.mailbox.now.cells.size c.meet-link.result c.from.result c.from.ensures
      (c.size-size.ensures ∙ ap (λ (v : MailboxView). v.cells.size) c.mailbox.view_is) (omega arith)
      c.if-cell-from.false c.meet-link.ensures.few

  -- after one access, the load of the link, `IsPursuit` holds of the claim, whatever is left
  pursued : (left : ℕ)
      → IsPursuit c.args.lane 1 (claim_takes c.settle.result + left) left c.settle.result t u from past
  pursued left =
      let held = c.meet-link.ensures.finds (less_one c.meet-link.result) found in
      c.settle.ensures.pursued from 1 left t held.claim held.standing
      (subst (λ (l : Look). AreSteps c.args.lane 1 (link_answer l) t t from
      (holding c.args.lane (less_one c.meet-link.result) held.claim (with_fields c.meet-link.new.fields))) found
      (c.meet-link.ensures.looks (slice_set c.meet-link.new.fields.places.items c.args.lane
      (At (less_one c.meet-link.result) held.claim)) t))

  -- the load of the link and the claim make a poll whose budget is `rest`, and which leaves `left` of it
  polled : (left : ℕ) → claim_takes c.settle.result + left + 1 ≡ before
      → IsPollOf c.args.lane before c.settle.result t u from past
      × (accesses_made past + left ≡ accesses_made from + before)
  polled left sum =
      let most = claim_takes c.settle.result + left in (
        poll_by c.args.lane 1 most left before c.settle.result t u from past sum (pursued left),
        left_by c.args.lane 1 most left before c.settle.result t u from past sum (pursued left),
      )

  -- the consumer is still one of the mailbox's
  still : IsConsumerOf c.args.mailbox.now past
  still =
      let inv = c.items.invariant.0 in
      still_of c.args.mailbox.now c.args.lane 1 (claim_takes c.settle.result + 0) 0 c.settle.result t u from past
      (pursued 0) (record { cells = inv.belongs.cells; claims = inv.belongs.claims })

  -- the lane still has a place
  lanes : c.args.lane < length c.settle.new.fields.places.items
  lanes = subst (λ (ps : List Place). c.args.lane < length ps)
      (sym (c.settle.ensures.places ∙ c.meet-link.ensures.places)) c.items.invariant.0.lane

  -- if the claim is not lost, the polls make a take with its answer, and `AnswerTells` holds of that answer
  claim_ends : (answer : Poll) (new : ConsumerView) → answer ≡ c.settle.result
      → ((w : ℕ) → c.settle.result ≢ poll.Lost w) → new ≡ past
      → IsTakeOf c.args.lane c.args.left.now answer (g.R.Rng.stream c.args.rng.now) u
      (with_fields c.args.fields.now) new
      × AnswerTells c.args.lane (outcome answer) (with_fields c.args.fields.now) new
  claim_ends answer new same over is =
      let p = c.args.lane in
      let x = c.settle.result in
      let inv = c.items.invariant.0 in
      let few = takes_few x in
      let left = before - 1 - claim_takes x in
      let sum : claim_takes x + left + 1 ≡ before = omega (arith, few, some) in
      subst (λ (z : Poll × ConsumerView).
      IsTakeOf p c.args.left.now z.0 (g.R.Rng.stream c.args.rng.now) u (with_fields c.args.fields.now) z.1
      × AnswerTells p (outcome z.0) (with_fields c.args.fields.now) z.1) (λ i. (sym same i, sym is i))
      (take_by p c.args.left.now before inv.winners x (g.R.Rng.stream c.args.rng.now) t u
      (with_fields c.args.fields.now) from past inv.passed inv.rest (polled left sum).0 over
      (pursuit_tells p 1 (claim_takes x + left) left x t u from from past (pursued left)))

pub meet-link-requires : goal.meet-link-requires
meet-link-requires g c =
    let inv = c.items.invariant.0 in record {
      is = inv.is;
      lane = inv.lane;
      belongs = inv.belongs;
      lanes = ap (λ (z : PoolSize). z.lanes)
          (c.size-size.ensures ∙ ap (λ (v : MailboxView). v.cells.size) c.mailbox.view_is);
    }

pub settle-requires : goal.settle-requires
settle-requires g c =
    let inv = c.items.invariant.0 in
    record {
      held = c.meet-link.ensures.finds (less_one c.meet-link.result)
          (cell_here c.size-size.result c.args.mailbox.now.cells.size c.meet-link.result c.from.result c.from.ensures
          (c.size-size.ensures ∙ ap (λ (v : MailboxView). v.cells.size) c.mailbox.view_is) (omega arith)
          c.if-cell-from.false c.meet-link.ensures.few);
      belongs = c.meet-link.ensures.belongs;
      wide = wide_still c.args.mailbox.now c.items.fields.reader c.meet-link.new.fields.reader c.items.fields.notes
          c.meet-link.new.fields.notes inv.belongs.cells c.meet-link.ensures.belongs.cells c.meet-link.ensures.notes
          inv.wide;
      alone = c.requires.alone;
      number = c.items.invariant.2 ∙ sym (ap (λ (v : SeatView). v.consumer) c.meet-link.ensures.seat);
    }

pub items-smaller : goal.items-smaller
items-smaller g c = omega (arith, c.items-test.true)

pub items-preserved : goal.items-preserved
items-preserved g c =
    let at = (goal.at.items-preserved g c).After-settle in
    let p = c.args.lane in
    let inv = c.items.invariant.0 in
    let w = c.in-Lost.field-0 in
    let lost : c.settle.result ≡ poll.Lost w = c.in-Lost.is in
    let takes : claim_takes c.settle.result ≡ 1 = ap claim_takes lost in
    let budget = c.args.left.now in
    let most = c.saturating_sub-most.result / 2 in
    let few = some g at in
    let sum : claim_takes c.settle.result + (before g at - 2) + 1 ≡ before g at = omega (arith, takes, few) in
    let one = polled g at (before g at - 2) sum in
    let goes : before g at - 2 ≡ rest_of budget most (c.items.more - 1) = omega (arith, c.items-test.true) in
    let fewer = c.items.invariant.1 in
    let last : IsPollOfRest p c.args.left.now (poll.Lost w) (t g at) (u g at) (with_fields c.args.fields.now)
    (from g at) (past g at) =
    record {
      left = before g at;
      rest = inv.rest;
      poll = subst (λ x. IsPollOf p (before g at) x (t g at) (u g at) (from g at) (past g at)) lost one.0;
    } in (
      subst (λ (z : Cursor × ℕ). HasPassedTo c.args.mailbox.now p budget (g.R.Rng.stream c.args.rng.now) (u g at)
          (with_fields c.args.fields.now) z.0 c.settle.new.fields z.1) (λ i. (sym c.past-at.ensures i, goes i))
          (record {
            winners = w ∷ inv.winners;
            passed = (t g at, from g at, inv.passed, last);
            rest = let more = one.1 in let rest = inv.rest in omega (arith, more, rest);
            is = (pursued g at 0).is;
            belongs = record { cells = (still g at).cells; claims = (still g at).claims };
            wide = c.settle.ensures.wide;
            lane = lanes g at;
          }),
      omega (arith, fewer),
      c.settle.ensures.number,
    )

-- ---- `stop` needs that the lane has a place
pub stop-requires : goal.stop-requires
stop-requires g c =
    subst (λ (ps : List Place). c.args.lane < length ps) (sym c.meet-link.ensures.places) c.items.invariant.0.lane

-- the link leads to no cell, since it would be one of the table's
pub answer_at-requires : goal.answer_at-requires
answer_at-requires g c k e =
    let low = c.meet-link.ensures.within k e in
    let from = c.from.ensures in
    let cells = ap (λ (z : PoolSize). z.cells)
    (c.size-size.ensures ∙ ap (λ (v : MailboxView). v.cells.size) c.mailbox.view_is) in
    let high = c.if-cell-from.true in
    let few = c.meet-link.ensures.few in
    absurd (omega (arith, low, from, cells, high, few))

pub returns-then-cell-from-clause-gone : goal.returns-then-cell-from-clause-gone
returns-then-cell-from-clause-gone g c =
    let at = (goal.at.returns-then-cell-from-clause-gone g c).After-meet-link in
    let is = subst (IsIdle (look_of c.meet-link.result)) (sym c.stop.ensures.answer)
    (idle (look_of c.meet-link.result) c.answer_at.result c.answer_at.ensures) in
    record {
      passed = λ e. absurd (cc);
      left = λ e. absurd (cc);
      taken = look_ends g at c.stop.result (with_fields c.stop.new.fields) is.0 is.1 is.2 c.stop.ensures.view
          (λ e. is.3 (sym e ∙ c.answer_at.ensures ∙ ap (λ x. Some x) (sym c.stop.ensures.answer)));
      decided = (is.4, is.5);
    }

pub returns-then-cell-from-clause-is : goal.returns-then-cell-from-clause-is
returns-then-cell-from-clause-is g c =
    let at = (goal.at.returns-then-cell-from-clause-is g c).After-meet-link in
    let is = idle (look_of c.meet-link.result) c.answer_at.result c.answer_at.ensures in
    (look_keeps g at (with_fields c.stop.new.fields) c.stop.ensures.view (λ e. is.3 (sym e ∙ c.answer_at.ensures))).0

pub returns-in_default : goal.returns-in_default
returns-in_default g c =
    let at = (goal.at.returns-in_default g c).After-settle in
    let x = c.stop-in_default.result in
    let new = with_fields c.stop-in_default.new.fields in
    let same : x ≡ c.settle.result = c.stop-in_default.ensures.answer in
    let view : new ≡ past g at =
    c.stop-in_default.ensures.view
    ∙ ap (λ (z : Cursor). at_link c.args.lane z (with_fields c.settle.new.fields)) c.past-at.ensures in
    let so = pursued g at 0 in
    record {
      gone = record {
        passed = λ e. absurd (cc);
        left = λ e. absurd (cc);
        taken = claim_ends g at x new same c.in_default.not-Lost view;
        decided = (
          λ e. subst IsOfClaim (sym same ∙ e) so.kind,
          λ e. c.settle.ensures.ends.1 (sym same ∙ e),
        );
      };
      is = subst IsConsumer (sym view) so.is;
      belongs = subst (λ z. IsConsumerOf c.args.mailbox.now z) (sym view) (still g at);
      wide = subst (λ (z : ReaderSeatView × NotesView). HasAllRoom z.0.table.size.cells z.1)
          (λ i. (ap (λ (v : ConsumerView). v.reader) (sym view) i, sym c.stop-in_default.ensures.notes i))
          c.settle.ensures.wide;
    }

pub stand-requires : goal.stand-requires
stand-requires g c = c.items.invariant.0.lane
