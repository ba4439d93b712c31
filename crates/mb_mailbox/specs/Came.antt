-- What a poll and a take of a lane come to: one record for each, which their contracts name.
use Rattle.std.specs.Prelude.{ℕ, ◌≡◌, ◌≢◌, ◌↔◌, ◌+◌, ◌*◌, ◌<◌, ◌≤◌, Option, List, IfSome, None, true}
use Rattle.mb_mailbox.specs.Imports.{Stream, most_accesses, shape_of}
use Rattle.mb_mailbox.specs.Consumers.{ConsumerView}
use Rattle.mb_mailbox.specs.Jobs.{accesses_made}
use Rattle.mb_mailbox.specs.Mailboxes.{MailboxView}
use Rattle.mb_mailbox.specs.Steps.{AnswerTells, IsPollOf, outcome}
use Rattle.mb_mailbox.specs.Takes.{HasPassed, IsTakeOf}
use Rattle.mb_mailbox.specs.declared.consumer.Poll.{Poll}
use Rattle.mb_mailbox.specs.declared.consumer.Poll.TheVariants as poll

-- a poll or a take of lane p in this mailbox came to this answer
pub record CameTo (m : MailboxView) (p : ℕ) (answer : Poll) (s t : Stream) (old new : ConsumerView)
    : Type 0 where
  -- it is `NoLane` exactly if there is no such lane. Then it changes nothing
  pub no_lane : (answer ≡ poll.NoLane) ↔ (m.cells.size.lanes ≤ p)
  pub refused : answer ≡ poll.NoLane → (new ≡ old) × (t ≡ s)
  -- if each cell has a last object, it is never `Undecided`
  pub decided : (shape_of m.claims.layout).last ≡ true → answer ≢ poll.Undecided
  -- what it says of the lane. It says more if the producer was returned before the consumer was issued
  pub told : answer ≢ poll.NoLane → AnswerTells p (outcome answer) old new

-- a poll with this budget came to this answer
pub record PollCameTo (m : MailboxView) (p budget : ℕ) (answer : Poll) (s t : Stream)
    (old new : ConsumerView) : Type 0 where
  pub came : CameTo m p answer s t old new
  -- each access is the next one on that lane, and the first that comes to an answer is the last
  pub polled : answer ≢ poll.NoLane → IsPollOf p budget answer s t old new
  -- with a budget for a whole claim, its link and its item, the poll is never spent. So it leaves no claim held on the
  -- lane (`noted` of `AnswerTells`)
  pub unspent : most_accesses m.claims.layout + 2 ≤ budget → answer ≢ poll.Spent

-- a take with this budget came to this answer
pub record TakeCameTo (m : MailboxView) (p most : ℕ) (answer : Poll) (s t : Stream)
    (old new : ConsumerView) : Type 0 where
  pub came : CameTo m p answer s t old new
  -- the polls lost their items, up to the last, which lost none. The budget of each was what was left of `most`
  pub taken : answer ≢ poll.NoLane → IsTakeOf p most answer s t old new
  pub not_lost : (w : ℕ) → answer ≢ poll.Lost w
  -- it makes at most `most` accesses, and just as many if it is spent. With a budget above those of all cells it is
  -- never spent
  pub within : accesses_made new ≤ accesses_made old + most
  pub spent : answer ≡ poll.Spent → accesses_made new ≡ accesses_made old + most
  pub unspent : (most_accesses m.claims.layout + 1) * (m.cells.size.cells + 1) < most → answer ≢ poll.Spent

-- a consumer went past items that it lost, with the budget `most`, and came to an answer or to none
pub record HasGonePast (p most rest : ℕ) (answer : Option Poll) (s t : Stream)
    (old new : ConsumerView) : Type 0 where
  -- with no answer it lost each item that it met, and `rest` is what is left of the budget
  pub passed : answer ≡ None → (winners : List ℕ) × HasPassed p most winners s t old new
  pub left : answer ≡ None → accesses_made new + rest ≡ accesses_made old + most
  -- with an answer its polls make a take with that answer, which is not `NoLane` and not `Undecided`
  pub taken : IfSome answer (λ x. IsTakeOf p most x s t old new × AnswerTells p (outcome x) old new)
  pub decided : IfSome answer (λ x. (x ≢ poll.NoLane) × (x ≢ poll.Undecided))
