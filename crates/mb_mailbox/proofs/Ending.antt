-- How a poll that has held a claim ends.
use Rattle.std.proofs.Common.{◌≡◌, ◌≢◌, ◌<◌, ◌≤◌, ℕ, true, ◌+◌, ap, ◌∙◌, subst, arith}
use Rattle.std.specs.Prelude.{Some, slice_get}
use Rattle.mb_mailbox.specs.Imports.{Claim, ReaderSeatView, SeatView, Stream, most_accesses, shape_of}
use Rattle.mb_mailbox.specs.declared.consumer.Poll.{Poll}
use Rattle.mb_mailbox.specs.declared.consumer.Poll.TheVariants as poll
use Rattle.mb_world.specs.declared.place.Place.{Place}
use Rattle.mb_world.specs.declared.place.Place.TheVariants.{At}
use Rattle.std.specs.Prelude.{List}
use Rattle.mb_mailbox.specs.{Came.PollCameTo, Consumers.{ConsumerView, IsConsumerOf}}
use Rattle.mb_mailbox.specs.Jobs.{accesses_made}
use Rattle.mb_mailbox.specs.Mailboxes.{MailboxView}
use Rattle.mb_mailbox.specs.Pursuits.{IsOfClaim, IsPursuit, holding}
use Rattle.mb_mailbox.specs.Steps.{AnswerTells, HasNoteOnEach, IsPollOf, outcome}
use Rattle.mb_mailbox.proofs.Grown.{steps_grow}
use Rattle.mb_mailbox.proofs.Lists.{set_same}
use Rattle.mb_mailbox.proofs.Polls.{poll_came, poll_of}
use Rattle.mb_mailbox.proofs.Telling.{tells_item, tells_none}

-- if the consumer's place on lane p is at this claim already, to set it there changes nothing
pub holds_it : (p k : ℕ) (claim : Claim) (s : ConsumerView) → slice_get s.places p
    ≡ Some (At k claim) → holding p k claim s ≡ s
holds_it p k claim s e = ap (λ (ps : List Place). record s { places = ps }) (set_same s.places p (At k claim) e)

-- if `IsPursuit` holds after n accesses of a poll, these and the accesses of the pursuit together make the poll
pub poll_by : (p n most left budget : ℕ) (x : Poll) (t u : Stream) (from new : ConsumerView) → most + n
    ≡ budget → IsPursuit p n most left x t u from new
    → IsPollOf p budget x t u from new
poll_by p n most left budget x t u from new sum so =
    let all = so.sum in
    poll_of p (so.made + n) budget x t u from new so.steps (omega (arith, all, sum))
    (λ e. let none = so.spent e in omega (arith, all, none, sum))

-- the accesses that the poll made and what it left add up to the budget
pub left_by : (p n most left budget : ℕ) (x : Poll) (t u : Stream) (from new : ConsumerView) → most + n
    ≡ budget → IsPursuit p n most left x t u from new
    → accesses_made new + left ≡ accesses_made from + budget
left_by p n most left budget x t u from new sum so =
    let all = so.sum in
    let grown = steps_grow p (so.made + n) (outcome x) t u from new so.steps in
    omega (arith, all, grown, sum)

-- `AnswerTells` holds of the answer of a poll that has held a claim
tells_by : (p : ℕ) (x : Poll) (old new : ConsumerView) → IsOfClaim x
    → (x ≢ poll.Spent → HasNoteOnEach p new) → AnswerTells p (outcome x) old new
tells_by p (poll.Took v) old new kind has = tells_item p v old new (has (λ f. cc))
tells_by p (poll.Lost w) old new kind has = record {
  noted = λ _. has (λ f. cc);
  ended = λ f. absurd (cc);
  empty = λ f. absurd (cc);
  known_nothing = λ theirs k f. absurd (cc);
  known_ended = λ theirs k f. absurd (cc);
}
tells_by p poll.Undecided old new kind has = record {
  noted = λ _. has (λ f. cc);
  ended = λ f. absurd (cc);
  empty = λ f. absurd (cc);
  known_nothing = λ theirs k f. absurd (cc);
  known_ended = λ theirs k f. absurd (cc);
}
tells_by p poll.Nothing old new kind has = absurd kind
tells_by p poll.Ended old new kind has = absurd kind
tells_by p poll.Spent old new kind has = tells_none p old new
tells_by p poll.NoLane old new kind has = absurd kind

-- `AnswerTells` holds of the answer of a poll if `IsPursuit` does
pub pursuit_tells : (p n most left : ℕ) (x : Poll) (t u : Stream) (from old new : ConsumerView)
    → IsPursuit p n most left x t u from new
    → AnswerTells p (outcome x) old new
pursuit_tells p n most left x t u from old new so = tells_by p x old new so.kind so.noted

-- if `IsPursuit` holds after n accesses of a poll, the poll comes to the answer of the pursuit
pub pursuit_came : (m : MailboxView) (p n most left budget : ℕ) (x : Poll) (t u : Stream) (from old new : ConsumerView)
    → p < m.cells.size.lanes → most + n ≡ budget → from ≡ old → IsPursuit p n most left x t u from new
    → (most_accesses m.claims.layout + 2 ≤ budget → x ≢ poll.Spent)
    → ((shape_of m.claims.layout).last ≡ true → x ≢ poll.Undecided) → PollCameTo m p budget x t u old new
pursuit_came m p n most left budget x t u from old new low sum same so unspent decided =
    poll_came m p budget x t u old new low (λ e. subst IsOfClaim e so.kind)
    (subst (λ o. IsPollOf p budget x t u o new) same (poll_by p n most left budget x t u from new sum so))
    unspent decided (pursuit_tells p n most left x t u from old new so)

-- after the poll the consumer is one of the same mailbox
pub still_of : (m : MailboxView) (p n most left : ℕ) (x : Poll) (t u : Stream) (from new : ConsumerView)
    → IsPursuit p n most left x t u from new
    → IsConsumerOf m from → IsConsumerOf m new
still_of m p n most left x t u from new so belongs = record {
  cells = ap (λ (r : ReaderSeatView). r.table) so.steps.done.reader ∙ belongs.cells;
  claims = ap (λ (z : SeatView). z.table) so.steps.done.seat ∙ belongs.claims;
}
